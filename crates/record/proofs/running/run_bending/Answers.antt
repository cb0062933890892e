-- `record::running::run_bending` meets its contract.
use Rattle.std.proofs.Common.{ℕ, [], refl, subst}
use Rattle.faults.specs.declared.recorded.RecordFault.TheVariants.{Part, Question}
use Rattle.sheet.specs.Ledger.{ledger}
use Rattle.kinds.specs.declared.slab.Slab.{Slab}
use Rattle.kinds.specs.declared.deck.Deck.{Deck}
use Rattle.kinds.specs.Decks.{Holds, pushes_of, bars_of}
use Rattle.questions.specs.Bending.{verdict_number, RefusesBending, IsResistance, Judges}
use Rattle.record.specs.Lines.{bending_line}
use Rattle.record.specs.Runs.{TellsBending, slab_pushes, slab_pulls}
use Rattle.record.proofs.Outcomes.{wrapped, faulted, unknown_state, printed, bending_refused}
use Rattle.record.proofs.running.run_bending.Goals as goal

-- what holds of the deck that was filled holds of the slab
of_slab : (s : Slab) (d : Deck) → Holds s [] d → (P : (ℕ → ℕ) → (ℕ → ℕ) → Type 0) → P (pushes_of d) (bars_of d) → P (slab_pushes s) slab_pulls
of_slab s d h P x = subst (λ f. P f slab_pulls) h.pushes_are (subst (P (pushes_of d)) h.pulls_are x)

pub returns-in_err-deck : goal.returns-in_err-deck
returns-in_err-deck c =
    let L = ledger c.args.sheet.now in
    let f = c.in_err-deck.field-0.0 in
    let was = c.in_err-deck.ensures in
    faulted (TellsBending L c.args.state c.args.slab L) c.args.line.now c.from_residual.result (Part f) (wrapped Part f c.from_residual.result c.from_residual.ensures.1)
    (was.0, was.1, refl)

pub returns-in_err-found : goal.returns-in_err-found
returns-in_err-found c =
    let L = ledger c.args.sheet.now in
    let s = c.args.slab in
    let f = c.in_err-found.field-0.0 in
    let r = c.from_residual-in_err-found.result in
    let held = c.in_ok-deck.ensures in
    faulted (TellsBending L c.args.state s L) c.args.line.now r (Question f) (wrapped Question f r c.from_residual-in_err-found.ensures.1)
    (bending_refused L c.args.state s held.0 f (of_slab s c.in_ok-deck.deck held.1 (λ p q. RefusesBending L p q f) c.in_err-found.ensures.answer))

pub returns-in_err-state : goal.returns-in_err-state
returns-in_err-state c =
    let L = ledger c.args.sheet.now in
    let s = c.args.slab in
    let was = c.in_err-state.ensures in
    let held = c.in_ok-deck.ensures in
    let found = c.in_ok-found.found in
    unknown_state (TellsBending L c.args.state s L) c.args.line.now c.from_residual-in_err-state.result c.in_err-state.field-0.0 c.from_residual-in_err-state.ensures.1 was.0
    (held.0, (was.1, (found, of_slab s c.in_ok-deck.deck held.1 (λ p q. IsResistance L p q found) c.in_ok-found.ensures.answer)), refl)

pub returns : goal.returns
returns c =
    let L = ledger c.args.sheet.now in
    let s = c.args.slab in
    let held = c.in_ok-deck.ensures in
    let state = c.in_ok-state.ensures in
    let found = c.in_ok-found.found in
    let v = c.verdict-verdict.result in
    let is = of_slab s c.in_ok-deck.deck held.1 (λ p q. IsResistance L p q found) c.in_ok-found.ensures.answer in
    let judged = subst (λ fs. Judges fs L.rows found v) state.2 c.verdict-verdict.ensures in
    printed (TellsBending L c.args.state s L) c.args.line.now (bending_line found.level found.mp found.mn (verdict_number v)) c.write_bending.result c.write_bending.new.line
    (held.0, state.0, state.1, refl, (found, v, is, judged, refl)) c.write_bending.ensures
