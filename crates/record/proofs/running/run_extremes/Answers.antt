-- `record::running::run_extremes` meets its contract.
use Rattle.std.proofs.Common.{subst}
use Rattle.faults.specs.declared.recorded.RecordFault.TheVariants.{Reading}
use Rattle.sheet.specs.Ledger.{ledger}
use Rattle.questions.specs.Extremes.{IsExtremes}
use Rattle.record.specs.Lines.{extremes_line}
use Rattle.loads.specs.Codes.{effect_kind}
use Rattle.record.specs.Runs.{AsksExtremes}
use Rattle.record.proofs.Outcomes.{wrapped, faulted, unknown_state, printed, at_code, at-state, told}
use Rattle.record.proofs.running.run_extremes.Goals as goal

pub returns-in_err-kind : goal.returns-in_err-kind
returns-in_err-kind c =
    let L = ledger c.args.sheet.now in
    let k = effect_kind c.args.effect in
    let f = c.in_err-kind.field-0.0 in
    faulted (AsksExtremes L c.args.state k L) c.args.line.now c.from_residual.result (Reading f) (wrapped Reading f c.from_residual.result c.from_residual.ensures.1)
    (at_code L c.args.state k f c.in_err-kind.ensures)

pub returns-in_err-state : goal.returns-in_err-state
returns-in_err-state c =
    let L = ledger c.args.sheet.now in
    let k = effect_kind c.args.effect in
    let was = c.in_err-state.ensures in
    unknown_state (AsksExtremes L c.args.state k L) c.args.line.now c.from_residual-in_err-state.result c.in_err-state.field-0.0 c.from_residual-in_err-state.ensures.1 was.0
    (at-state L c.args.state k c.in_ok-kind.kind c.in_ok-kind.ensures was.1)

pub returns : goal.returns
returns c =
    let L = ledger c.args.sheet.now in
    let k = effect_kind c.args.effect in
    let found = c.extremes-found.result in
    let state = c.in_ok-state.ensures in
    let kind = c.in_ok-kind.kind in
    let is = subst (λ fs. IsExtremes fs kind L.rows found) state.2 c.extremes-found.ensures.answer in
    printed (AsksExtremes L c.args.state k L) c.args.line.now (extremes_line found.low found.high) c.write_extremes.result c.write_extremes.new.line
    (told L c.args.state k kind c.in_ok-kind.ensures found state.0 state.1 is) c.write_extremes.ensures
