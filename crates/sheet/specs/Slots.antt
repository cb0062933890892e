-- Slots that may be empty.
use Rattle.std.specs.Prelude.{ℕ, Bool, List, replicate, is_some, None, Option, slice_index_or}

abbrev pub empties : {X : Type 0} → ℕ → List (Option X)
empties n = replicate n None

-- what a slot holds; none past the last
abbrev pub content : {X : Type 0} → List (Option X) → ℕ → Option X
content xs i = slice_index_or xs i None

abbrev pub full : {X : Type 0} → List (Option X) → ℕ → Bool
full xs i = is_some (content xs i)
