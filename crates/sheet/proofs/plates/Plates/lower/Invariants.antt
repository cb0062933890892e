use Rattle.std.proofs.Common.{◌≡◌, ◌++◌, map, take, drop}
use Rattle.sheet.specs.Plates.{lowered_in}
use Rattle.sheet.proofs.plates.Plates.lower.Given as goal

abbrev pub invariant-loop-slot : goal.invariant-loop-slot
invariant-loop-slot l = l.slot-items ≡ map (lowered_in l.n) (take l.slot-index l.initial.slot-items) ++ drop l.slot-index l.initial.slot-items
