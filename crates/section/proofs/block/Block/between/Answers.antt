-- `section::block::Block::between` meets its contract.
use Rattle.std.proofs.Common.{◌-◌, arith}
use Rattle.section.proofs.Factored.{factored, factored_small, part_light}
use Rattle.section.proofs.block.Block.between.Goals as goal

pub overflow_mul-force : goal.overflow_mul-force
overflow_mul-force c =
    let b = c.args.self.now in
    omega (arith, part_light b.strength (c.args.far - c.args.near) b.height (omega arith) b.light)

pub overflow_mul-result : goal.overflow_mul-result
overflow_mul-result c =
    let b = c.args.self.now in
    omega (arith, factored_small b.strength c.args.near c.args.far c.requires.ordered c.requires.shallow (part_light b.strength (c.args.far - c.args.near) b.height (omega arith) b.light))

pub returns : goal.returns
returns c = factored c.args.self.now.strength c.args.near c.args.far c.requires.ordered
