use Rattle.std.proofs.Common.{take}
use Rattle.section.specs.declared.sense.Sense.{Sense}
use Rattle.section.specs.Parts.{IsResultants}
use Rattle.kinds.specs.Shapes.{table_strip}
use Rattle.kinds.proofs.shape.ShapePart.resultants.Given as goal

abbrev pub invariant-loop-i : goal.invariant-loop-i
invariant-loop-i l = let f = table_strip l.self.top l.self.fy (take l.i l.self.breadths.now) in (sense : Sense) → IsResultants sense f f l.level l.at
