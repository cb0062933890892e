-- `office::interface::mosvitar_transcript` meets its contract.
use Rattle.std.proofs.Common.{◌≤◌, [], length, arith}
use Rattle.office.proofs.Filled.{enough, measured, too_short}
use Rattle.office.proofs.interface.mosvitar_transcript.Goals as goal
use Rattle.office.proofs.interface.mosvitar_transcript.Goals.{then-out-bytes+else-n-out, else-out-bytes}

pub returns-then-n-out : goal.returns-then-n-out
returns-then-n-out c = too_short c.args.bytes.now [] c.fill-n.new.out c.args.out.now c.fill-n.result c.fill-n.ensures c.if-n-out.true

pub returns : goal.returns
returns c =
    let r = c.fill.ensures in
    let room : c.fill.result ≤ length c.args.out.now = elim c.if-out-bytes.branch [
      | then-out-bytes+else-n-out w ↦ omega (arith, measured c.args.bytes.now [] w.fill-n.new.out c.args.out.now c.fill.new.out w.fill-n.result c.fill.result w.fill-n.ensures r, w.if-n-out.false)
      | else-out-bytes w ↦ omega (arith, r.most, w.if-out-bytes.false)
    ] in
    enough c.args.bytes.now c.args.out.now c.fill.result c.fill.new.out r room
