-- `record::stepping::go_on` meets its contract.
use Rattle.std.proofs.Common.{subst}
use Rattle.sheet.specs.Ledger.{ledger}
use Rattle.record.specs.Runs.{Delivers}
use Rattle.record.specs.Steps.{Advances}
use Rattle.record.proofs.StepTests.{wrote_line, wrote_fault}
use Rattle.record.proofs.stepping.go_on.Goals as goal

pub returns-in-Ok-clause-goes_on : goal.returns-in-Ok-clause-goes_on
returns-in-Ok-clause-goes_on c =
    let L = ledger c.args.sheet.now in
    let M = ledger c.advance-next.new.sheet in
    let next = c.advance-next.result.0 in
    let told = subst (λ r. Delivers (Advances L c.args.bytes.now c.args.place M next) c.args.line.now r c.advance-next.new.line) c.in-Ok.is c.advance-next.ensures in
    wrote_line L c.args.bytes.now c.args.place c.args.line.now M next c.in-Ok.written c.advance-next.new.line told

pub returns-in-Err-clause-goes_on : goal.returns-in-Err-clause-goes_on
returns-in-Err-clause-goes_on c =
    let L = ledger c.args.sheet.now in
    let M = ledger c.advance-next.new.sheet in
    let next = c.advance-next.result.0 in
    let told = subst (λ r. Delivers (Advances L c.args.bytes.now c.args.place M next) c.args.line.now r c.advance-next.new.line) c.in-Err.is c.advance-next.ensures in
    wrote_fault L c.args.bytes.now c.args.place c.args.line.now M next c.in-Err.fault c.advance-next.new.line
    c.write_fault-written.result c.write_fault-written.new.line told c.write_fault-written.ensures
