-- `kinds::deck::Deck::bar_depth` meets its contract.
use Rattle.std.proofs.Common.{◌<◌, length, arith}
use Rattle.section.proofs.Stacks.{depth_next}
use Rattle.kinds.proofs.deck.Deck.bar_depth.Goals as goal

pub loop-bar-preserved : goal.loop-bar-preserved
loop-bar-preserved c =
    let d = c.args.self.now in
    let l : c.loop-bar.bar-index < length d.bars = omega (arith, d.long) in
    simp c.max-depth.ensures (depth_next d.bars c.loop-bar.bar-index c.bar-item.result _ _ l c.loop-bar.invariant c.depth.ensures)
