-- Load factors in hundredths: a low and a high one for each load type.
use Rattle.std.specs.Prelude.{ℕ, ◌≤◌, Bool, ◌&&◌, List, [], ◌∷◌, nat_le, slice_index_or}
use Rattle.loads.specs.declared.load_type.LoadType.{LoadType}
use Rattle.loads.specs.declared.load_type.LoadType.TheVariants.{Dc, Dw, Ll, Ws}

-- where a load type stands in a limit state's list of four
abbrev pub index : LoadType → ℕ
index Dc = 0
index Dw = 1
index Ll = 2
index Ws = 3

-- the low and the high factor of a load type
abbrev pub range : List (ℕ × ℕ) → LoadType → ℕ × ℕ
range rs t = slice_index_or rs (index t) (0, 0)

-- 0 ≤ low ≤ high ≤ 1,000
abbrev pub Range : ℕ × ℕ → Type 0
Range r = (r.0 ≤ r.1) × (r.1 ≤ 1000)

abbrev pub Lawful : List (ℕ × ℕ) → Type 0
Lawful rs = (t : LoadType) → Range (range rs t)

-- the same as a test
abbrev pub is_range : ℕ × ℕ → Bool
is_range r = nat_le r.0 r.1 && nat_le r.1 1000

abbrev pub is_lawful : List (ℕ × ℕ) → Bool
is_lawful rs = is_range (range rs Dc) && is_range (range rs Dw) && is_range (range rs Ll) && is_range (range rs Ws)

-- the published states: DC, DW, LL and WS
abbrev pub strength_i : List (ℕ × ℕ)
strength_i = (90, 125) ∷ (65, 150) ∷ (0, 175) ∷ (0, 0) ∷ []

abbrev pub strength_ii : List (ℕ × ℕ)
strength_ii = (90, 125) ∷ (65, 150) ∷ (0, 135) ∷ (0, 0) ∷ []

abbrev pub strength_iii : List (ℕ × ℕ)
strength_iii = (90, 125) ∷ (65, 150) ∷ (0, 0) ∷ (0, 140) ∷ []

abbrev pub strength_iv : List (ℕ × ℕ)
strength_iv = (90, 150) ∷ (65, 150) ∷ (0, 0) ∷ (0, 0) ∷ []

abbrev pub strength_v : List (ℕ × ℕ)
strength_v = (90, 125) ∷ (65, 150) ∷ (0, 135) ∷ (0, 40) ∷ []

abbrev pub service_i : List (ℕ × ℕ)
service_i = (100, 100) ∷ (100, 100) ∷ (0, 100) ∷ (0, 30) ∷ []

abbrev pub service_ii : List (ℕ × ℕ)
service_ii = (100, 100) ∷ (100, 100) ∷ (0, 130) ∷ (0, 0) ∷ []

abbrev pub fatigue_i : List (ℕ × ℕ)
fatigue_i = (0, 0) ∷ (0, 0) ∷ (0, 150) ∷ (0, 0) ∷ []

abbrev pub fatigue_ii : List (ℕ × ℕ)
fatigue_ii = (0, 0) ∷ (0, 0) ∷ (0, 75) ∷ (0, 0) ∷ []

-- in the order of their numbers, from 1
abbrev pub states : List (List (ℕ × ℕ))
states = strength_i ∷ strength_ii ∷ strength_iii ∷ strength_iv ∷ strength_v ∷ service_i ∷ service_ii ∷ fatigue_i ∷ fatigue_ii ∷ []
