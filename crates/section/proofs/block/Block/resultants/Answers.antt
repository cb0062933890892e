-- `section::block::Block::resultants` meets its contract.
use Rattle.std.proofs.Common.{arith}
use Rattle.section.specs.BlockLaws.{strips-sum}
use Rattle.section.proofs.Together.{halves_small}
use Rattle.section.proofs.block.Block.resultants.Goals as goal

pub overflow_add-result : goal.overflow_add-result
overflow_add-result c =
    let s = c.args.self.now in
    let b = halves_small _ c.args.level _ _ _ _ (omega (arith, strips-sum s, s.light)) c.above-above.ensures.force_is c.above-above.ensures.moment_is c.below-below.ensures.force_is c.below-below.ensures.moment_is in
    omega arith
