-- `kinds::deck::Deck::bar_forces` meets its contract.
use Rattle.std.proofs.Common.{◌<◌, min, length, ◌∙◌, arith}
use Rattle.section.specs.declared.sense.Sense.{Sense}
use Rattle.section.specs.declared.sense.Sense.TheVariants.{Sagging}
use Rattle.section.proofs.Adding.{forces_whole}
use Rattle.section.proofs.Stacks.{forces_next, stack_forces_small}
use Rattle.section.proofs.Together.{forces_none}
use Rattle.kinds.proofs.deck.Deck.bar_forces.Goals as goal

pub loop-bar-init : goal.loop-bar-init
loop-bar-init c sense = let z = forces_none sense (min c.args.level 4096) (omega arith) in record { above_is = omega arith; below_is = omega arith }

pub loop-bar-preserved : goal.loop-bar-preserved
loop-bar-preserved c sense =
    let d = c.args.self.now in
    let l : c.loop-bar.bar-index < length d.bars = omega (arith, d.long) in
    let next = λ (s : Sense). forces_next s d.bars c.loop-bar.bar-index c.bar-item.result _ c.loop-bar.forces c.forces.result l (c.loop-bar.invariant s) (c.forces.ensures s) in
    let b = stack_forces_small Sagging d.bars _ c.args.level _ (omega (arith, d.light)) (next Sagging) in
    rw (c.add_assign.ensures.after ∙ forces_whole c.loop-bar.forces c.forces.result (omega arith) (omega arith)) (next sense)
