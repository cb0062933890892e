-- `record::stepping::advance` meets its contract.
use Rattle.std.proofs.Common.{◌-◌, length, take, drop, refl, arith, length-drop, length-take}
use Rattle.faults.specs.declared.reading.ReadFault.TheVariants.{CutShort}
use Rattle.faults.specs.declared.recorded.RecordFault.TheVariants.{Reading}
use Rattle.sheet.specs.Ledger.{ledger}
use Rattle.command.proofs.Shorter.{shorter}
use Rattle.record.proofs.Outcomes.{silent, faulted}
use Rattle.record.proofs.StepTests.{at_end, past_end, unread, ran}
use Rattle.record.proofs.stepping.advance.Goals as goal

pub returns-then-place-end : goal.returns-then-place-end
returns-then-place-end c =
    let L = ledger c.args.sheet.now in
    silent _ c.args.line.now (at_end L c.args.bytes.now c.args.place c.if-place-end.true)

pub returns-then-place-end-2 : goal.returns-then-place-end-2
returns-then-place-end-2 c =
    let L = ledger c.args.sheet.now in
    faulted _ c.args.line.now _ (Reading CutShort) refl (past_end L c.args.bytes.now c.args.place c.if-place-end-2.true)

pub returns-in-Ok : goal.returns-in-Ok
returns-in-Ok c =
    ran (ledger c.args.sheet.now) c.args.bytes.now c.args.place (omega arith) c.in-Ok.command c.in-Ok.rest.now _ c.args.line.now _ _ c.in-Ok.ensures c.run.ensures

pub returns-in-Err : goal.returns-in-Err
returns-in-Err c =
    let L = ledger c.args.sheet.now in
    faulted _ c.args.line.now _ (Reading c.in-Err.fault) refl (unread L c.args.bytes.now c.args.place (omega arith) c.in-Err.fault c.in-Err.ensures)

pub overflow_sub-result : goal.overflow_sub-result
overflow_sub-result c =
    let bytes = c.args.bytes.now in
    let part = take (length bytes - c.args.place) (drop c.args.place bytes) in
    omega (arith, shorter part c.in-Ok.command c.in-Ok.rest.now c.in-Ok.ensures, length-take (length bytes - c.args.place) (drop c.args.place bytes), length-drop c.args.place bytes)
