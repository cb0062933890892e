-- `kinds::deck::Deck::bar_resultants` meets its contract.
use Rattle.std.proofs.Common.{◌<◌, ◌≤◌, min, length, ◌∙◌, arith, take_all}
use Rattle.section.specs.declared.sense.Sense.{Sense}
use Rattle.section.specs.declared.sense.Sense.TheVariants.{Sagging}
use Rattle.section.proofs.Adding.{resultants_whole}
use Rattle.section.proofs.Stacks.{resultants_next, stack_small}
use Rattle.section.proofs.Together.{resultants_none}
use Rattle.kinds.proofs.deck.Deck.bar_resultants.Goals as goal

pub loop-bar-init : goal.loop-bar-init
loop-bar-init c sense = let z = resultants_none sense (min c.args.level 4096) (omega arith) in record { above_is = omega arith; below_is = omega arith; moment_is = omega arith }

pub loop-bar-preserved : goal.loop-bar-preserved
loop-bar-preserved c sense =
    let d = c.args.self.now in
    let l : c.loop-bar.bar-index < length d.bars = omega (arith, d.long) in
    let next = λ (s : Sense). resultants_next s d.bars c.loop-bar.bar-index c.bar-item.result _ c.loop-bar.at c.resultants.result l (c.loop-bar.invariant s) (c.resultants.ensures s) in
    let b = stack_small Sagging d.bars _ c.args.level _ (omega (arith, d.light)) (next Sagging) in
    rw (c.add_assign.ensures.after ∙ resultants_whole c.loop-bar.at c.resultants.result (omega arith) (omega arith) (omega arith)) (next sense)

pub returns : goal.returns
returns c sense =
    let d = c.args.self.now in
    let l : length d.bars ≤ c.loop-bar.bar-index = omega (arith, d.long) in
    rw (take_all _ _ l) at (c.loop-bar.invariant sense)
