-- `figures::axes::thin_plate` meets its contract.
use Rattle.std.proofs.Common.{refl}
use Rattle.sheet.specs.Ledger.{blank, place}
use Rattle.sheet.proofs.FirstLine.{accepted}
use Rattle.figures.specs.Axes as axes
use Rattle.figures.proofs.WorkedAxes.{thin}
use Rattle.figures.proofs.axes.thin_plate.Goals as goal

pub returns : goal.returns
returns c = (accepted blank (place 0 axes.thin) refl, thin)
