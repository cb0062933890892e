-- `kinds::shape::ShapePart::depth` meets its contract.
use Rattle.std.proofs.Common.{rules, true-eqb}
use Rattle.kinds.proofs.Tables.{no_table, table_depth}
use Rattle.kinds.proofs.shape.ShapePart.depth.Goals as goal

pub returns-then-is_empty : goal.returns-then-is_empty
returns-then-is_empty c = no_table _ _ _ (true-eqb _ _ c.if-is_empty.ensures)

pub returns-else-is_empty : goal.returns-else-is_empty
returns-else-is_empty c = let s = c.args.self.now in table_depth _ _ _ s.broad s.weakest (search rules)
