-- The plate of a role as a question reads it.
use Rattle.std.specs.Prelude.{◌≡◌, Some, None, Ok, Err, Result}
use Rattle.faults.specs.declared.question.QuestionFault.{QuestionFault}
use Rattle.faults.specs.declared.question.QuestionFault.TheVariants.{PlateMissing}
use Rattle.sheet.specs.declared.plate.Role.{Role}
use Rattle.sheet.specs.declared.plate.Plate.{Plate}
use Rattle.sheet.specs.Plates.{standing}
use Rattle.sheet.specs.Ledger.{Ledger}

-- the plate that stands, or refused with 12 where none does
abbrev pub PlateAnswer : Ledger → Role → Result Plate QuestionFault → Type 0
PlateAnswer L role (Ok p) = standing role L.plates ≡ Some p
PlateAnswer L role (Err f) = (f ≡ PlateMissing) × (standing role L.plates ≡ None)
