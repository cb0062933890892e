-- Calls by their arguments: a part by what it pushes and pulls with, a limit state by its factors, a value as it was judged.
use Rattle.std.specs.Prelude.{ℕ, List}
use Rattle.loads.specs.declared.kind.EffectKind.{EffectKind}
use Rattle.loads.specs.Values.{judged}
use Rattle.loads.specs.Kinds.{value_of, kind_of}
use Rattle.section.specs.declared.sense.Sense.{Sense}
use Rattle.sheet.specs.Ledger as calls
use Rattle.runs.specs.declared.call.Call.{Call}
use Rattle.runs.specs.declared.call.Call.TheVariants.{Place, Lift, Lower, Enter, Strike, Extremes, Axis, Bending}

pub data Request : Type 0 where
  change : calls.Change → Request
  extremes : List (ℕ × ℕ) → EffectKind → Request
  axis : (ℕ → ℕ) → (ℕ → ℕ) → Sense → Request
  bending : (ℕ → ℕ) → (ℕ → ℕ) → List (ℕ × ℕ) → Request

abbrev pub request : {P : Type 0} → (P → ℕ → ℕ) → (P → ℕ → ℕ) → Call P → Request
request pushes pulls (Place s p) = change (calls.place s p)
request pushes pulls (Lift s) = change (calls.lift s)
request pushes pulls (Lower n) = change (calls.lower n)
request pushes pulls (Enter s t e) = change (calls.enter s t (kind_of e) (judged (value_of e)))
request pushes pulls (Strike s) = change (calls.strike s)
request pushes pulls (Extremes state k) = extremes state.factors k
request pushes pulls (Axis part sense) = axis (pushes part) (pulls part) sense
request pushes pulls (Bending part state) = bending (pushes part) (pulls part) state.factors
