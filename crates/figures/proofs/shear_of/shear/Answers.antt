-- `figures::shear_of::shear` meets its contract.
use Rattle.std.proofs.Common.{refl, lit<, lit≤}
use Rattle.sheet.specs.Plates.{plate_of}
use Rattle.figures.specs.Girders.{web}
use Rattle.figures.proofs.shear_of.shear.Goals as goal

pub returns-clause-stiffened : goal.returns-clause-stiffened
returns-clause-stiffened c = (
  (refl, refl),
  record { web = plate_of web; is_web = refl; k = 722; buckles = (refl, refl); is_force = (32355834, record { square_fits = lit≤ tt; next_passes = lit< tt }, refl) },
)
