-- `office::filling::put` meets its contract.
use Rattle.std.proofs.Common.{arith}
use Rattle.office.proofs.Laying.{put_fits}
use Rattle.office.proofs.filling.put.Goals as goal

pub returns-then-end-out : goal.returns-then-end-out
returns-then-end-out c = put_fits c.args.out.now c.args.line.now c.copy_from_slice.new.self c.args.at _ c.copy_from_slice.ensures.after (omega arith) (omega arith)
