-- The standing plates and one further part, strip by strip.
use Rattle.std.specs.Prelude.{◌≡◌, ℕ, Result}
use Rattle.faults.specs.declared.question.QuestionFault.{QuestionFault}
use Rattle.section.specs.declared.axis.Axis.{Axis}
use Rattle.section.specs.declared.sense.Sense.{Sense}
use Rattle.section.specs.Axis.{AxisAnswer}
use Rattle.section.specs.Strips.{◌⊕◌}
use Rattle.sheet.specs.Ledger.{Ledger}
use Rattle.sheet.specs.PlateStrips.{plate_strips}

-- with what the plates and the part together push, or pull: the plates do both alike
abbrev pub with_plates : Ledger → (ℕ → ℕ) → ℕ → ℕ
with_plates L strips = plate_strips L.plates ⊕ strips

-- an axis answer that is the only one for these strips
abbrev pub OnlyAxis : Sense → (ℕ → ℕ) → (ℕ → ℕ) → Result Axis QuestionFault → Type 0
OnlyAxis sense pushes pulls r = (x : Result Axis QuestionFault) → AxisAnswer sense pushes pulls x → x ≡ r
