-- `office::filling::fill` meets its contract.
use Rattle.std.proofs.Common.{arith, rules}
use Rattle.office.proofs.Laying.{going_more, through, too_long}
use Rattle.office.proofs.filling.fill.Goals as goal

pub returns-in_default : goal.returns-in_default
returns-in_default c = too_long c.args.bytes.now c.args.out.now c.put.new.out c.in_default.ensures.0 c.put.ensures

pub loop-written-preserved : goal.loop-written-preserved
loop-written-preserved c = going_more c.loop-written.invariant c.put-in-Some.new.out (search rules) c.in-Some.ensures (omega arith) c.put-in-Some.ensures

pub returns : goal.returns
returns c = through c.loop-written.invariant c.in_default-next_line.ensures.0
