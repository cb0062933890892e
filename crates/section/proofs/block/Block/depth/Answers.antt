-- `section::block::Block::depth` meets its contract.
use Rattle.std.proofs.Common.{arith}
use Rattle.section.proofs.ClosedForm.{block_depth, block_no_depth}
use Rattle.section.proofs.block.Block.depth.Goals as goal

pub returns-then-total-eq0 : goal.returns-then-total-eq0
returns-then-total-eq0 c = block_no_depth _ _ _ (omega arith)

pub returns-else-total-eq0 : goal.returns-else-total-eq0
returns-else-total-eq0 c = block_depth _ _ _ (omega arith)
