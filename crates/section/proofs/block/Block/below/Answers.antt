-- `section::block::Block::below` meets its contract.
use Rattle.std.proofs.Common.{arith}
use Rattle.section.proofs.ClosedForm.{is_below}
use Rattle.section.proofs.block.Block.below.Goals as goal

pub returns : goal.returns
returns c =
    let s = c.args.self.now in
    let b = simp (c.saturating_sub-near.ensures, c.saturating_sub-far.ensures, c.from-level.ensures, c.from-top.ensures, c.from.ensures, c.min.ensures) at c.between.ensures in
    let e = is_below s.top s.height s.strength 4096 _ _ s.inside (omega arith) b in
    record { force_is = e.0; moment_is = e.1 }
