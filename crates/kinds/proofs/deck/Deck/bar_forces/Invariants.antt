use Rattle.std.proofs.Common.{min, take}
use Rattle.section.specs.declared.sense.Sense.{Sense}
use Rattle.section.specs.Parts.{IsForces}
use Rattle.section.specs.Blocks.{stacked}
use Rattle.kinds.proofs.deck.Deck.bar_forces.Given as goal

abbrev pub invariant-loop-bar : goal.invariant-loop-bar
invariant-loop-bar l =
    let f = stacked (take l.bar-index l.self.bars) in
    (sense : Sense) → IsForces sense f f (min l.level 4096) l.forces
