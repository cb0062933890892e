use Rattle.std.proofs.Common.{◌-◌, length}
use Rattle.office.proofs.Laying.{Going}
use Rattle.office.proofs.filling.fill.Given as goal

abbrev pub invariant-loop-written : goal.invariant-loop-written
invariant-loop-written l = Going l.bytes l.fn.out l.reading l.n l.out

abbrev pub decreases-loop-written : goal.decreases-loop-written
decreases-loop-written l = length l.reading.bytes.now - l.reading.place
