-- `kinds::shape::Shape::empty` meets its contract.
use Rattle.kinds.proofs.Tables.{empty_table}
use Rattle.kinds.proofs.shape.Shape.empty.Goals as goal

pub returns : goal.returns
returns c = empty_table _ _
