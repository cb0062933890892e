-- `record::running::run_shear` meets its contract.
use Rattle.std.proofs.Common.{refl, subst}
use Rattle.faults.specs.declared.recorded.RecordFault.TheVariants.{Question}
use Rattle.sheet.specs.Ledger.{ledger}
use Rattle.questions.specs.Bending.{verdict_number}
use Rattle.questions.specs.Shear.{RefusesShear, IsShearResistance, JudgesShear}
use Rattle.record.specs.Lines.{shear_line}
use Rattle.record.specs.Codes.{spacing_of}
use Rattle.record.specs.Runs.{TellsShear}
use Rattle.record.proofs.Outcomes.{wrapped, faulted, unknown_state, printed, shear_refused}
use Rattle.record.proofs.running.run_shear.Goals as goal

pub returns-in_err-force : goal.returns-in_err-force
returns-in_err-force c =
    let L = ledger c.args.sheet.now in
    let d = spacing_of c.args.spacing in
    let f = c.in_err-force.field-0.0 in
    faulted (TellsShear L c.args.state d L) c.args.line.now c.from_residual.result (Question f) (wrapped Question f c.from_residual.result c.from_residual.ensures.1)
    (shear_refused L c.args.state d f (subst (λ o. RefusesShear L o f) c.spacing_of-spacing.ensures c.in_err-force.ensures))

pub returns-in_err-state : goal.returns-in_err-state
returns-in_err-state c =
    let L = ledger c.args.sheet.now in
    let d = spacing_of c.args.spacing in
    let was = c.in_err-state.ensures in
    let force = subst (λ o. IsShearResistance L o c.in_ok-force.force) c.spacing_of-spacing.ensures c.in_ok-force.ensures in
    unknown_state (TellsShear L c.args.state d L) c.args.line.now c.from_residual-in_err-state.result c.in_err-state.field-0.0 c.from_residual-in_err-state.ensures.1 was.0
    ((was.1, (c.in_ok-force.force, force)), refl)

pub returns : goal.returns
returns c =
    let L = ledger c.args.sheet.now in
    let d = spacing_of c.args.spacing in
    let n = c.args.state in
    let force = c.in_ok-force.force in
    let state = c.in_ok-state.ensures in
    let is = subst (λ o. IsShearResistance L o force) c.spacing_of-spacing.ensures c.in_ok-force.ensures in
    let v = c.shear_verdict-verdict.result in
    let judged = subst (λ fs. JudgesShear fs L.rows force v) state.2 c.shear_verdict-verdict.ensures in
    printed (TellsShear L n d L) c.args.line.now (shear_line force (verdict_number v)) c.write_shear.result c.write_shear.new.line
    (state.0, state.1, refl, (force, v, is, judged, refl)) c.write_shear.ensures
