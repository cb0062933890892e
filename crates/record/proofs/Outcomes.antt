-- What a call with a line buffer reports.
use Rattle.std.proofs.Common.{◌≡◌, ℕ, ◌-◌, ◌<◌, ◌≤◌, ◌⊎◌, List, [], get_or, IsErrAnd, Ok, Err, Option, Result, sym, refl, ap, ◌∙◌, subst}
use Rattle.std.proofs.lemmas.Result.{err_from_is_err_and}
use Rattle.faults.specs.declared.reading.ReadFault.{ReadFault}
use Rattle.faults.specs.declared.question.QuestionFault.{QuestionFault}
use Rattle.faults.specs.declared.question.QuestionFault.TheVariants.{NoMoment, PlateMissing, SpacingLimits, StudLimits, UnlawfulFactors, UnknownState}
use Rattle.faults.specs.declared.sheet.SheetFault.{SheetFault}
use Rattle.faults.specs.declared.recorded.RecordFault.{RecordFault}
use Rattle.faults.specs.declared.recorded.RecordFault.TheVariants.{Sheet, Question, Reading}
use Rattle.loads.specs.declared.kind.EffectKind.{EffectKind}
use Rattle.loads.specs.Factors.{states}
use Rattle.sheet.specs.Ledger.{Ledger, Change, Answers, after}
use Rattle.questions.specs.declared.answers.Extremes.{Extremes}
use Rattle.questions.specs.Extremes.{IsExtremes}
use Rattle.record.specs.Lines.{extremes_line, Wrote}
use Rattle.record.specs.Runs.{Outcome, AsksExtremes, Changes, Delivers, Runs, Silently, no_line, slab_pushes, slab_pulls, TellsBending, TellsShear}
use Rattle.kinds.specs.declared.slab.Slab.{Slab}
use Rattle.kinds.specs.Decks.{DeckFits}
use Rattle.questions.specs.Bending.{RefusesBending}
use Rattle.questions.specs.Shear.{RefusesShear}
use Rattle.command.specs.declared.commands.Command.{Command}

-- what `?` returns at a fault that its conversion wraps
pub wrapped : {F : Type 0} (wrap : F → RecordFault) (f : F) (r : Result ℕ RecordFault) → IsErrAnd r (λ g. g ≡ wrap f) → r ≡ Err (wrap f)
wrapped wrap f r e = let p = err_from_is_err_and r e in p.1 ∙ ap Err p.2

pub faulted : (H : Outcome → Type 0) (before : List ℕ) (r : Result ℕ RecordFault) (f : RecordFault) → r ≡ Err f → H (Err f) → Delivers H before r before
faulted H before r f e h = subst (λ x. Delivers H before x before) (sym e) (record { outcome = Err f; holds = h; returns = (refl, refl) })

-- a state's number that is unknown
pub unknown_state : (H : Outcome → Type 0) (before : List ℕ) (r : Result ℕ RecordFault) (f : QuestionFault) → IsErrAnd r (λ g. g ≡ Question f) → f ≡ UnknownState → H (Err (Question UnknownState)) → Delivers H before r before
unknown_state H before r f e is h = faulted H before r (Question UnknownState) (wrapped Question f r e ∙ ap (λ q. Err (Question q)) is) h

pub silent : (H : Outcome → Type 0) (before : List ℕ) → H (Ok []) → Delivers H before (Ok 0) before
silent H before h = record { outcome = Ok []; holds = h; returns = record { len = refl; after = refl } }

pub printed : (H : Outcome → Type 0) (before : List ℕ) (text : List ℕ) (n : ℕ) (after : List ℕ) → H (Ok text) → Wrote text before n after → Delivers H before (Ok n) after
printed H before text n after h w = record { outcome = Ok text; holds = h; returns = w }

-- a call that writes no line leaves the buffer as it is
pub silently : (H : Outcome → Type 0) (before : List ℕ) (r : Result ℕ RecordFault) → Silently H r → Delivers H before r before
silently H before (Ok n) h = subst (λ m. Delivers H before (Ok m) before) (sym h.0) (silent H before h.1)
silently H before (Err f) h = faulted H before (Err f) f refl h

-- a change that was made, by the sheet's own answer
pub changed : (L : Ledger) (c : Change) (M : Ledger) (r : Result (Unit {0}) SheetFault) → Answers L c r → M ≡ after L c → Silently (Changes L c M) (no_line r)
changed L c M (Ok u) a e = (refl, (a, e, refl))
changed L c M (Err f) a e = (a, e)

-- a command that makes this change
module _ (L : Ledger) (change : Change) {c d : Command} (is : c ≡ d) (means : (M : Ledger) (o : Outcome) → Changes L change M o → Runs L d M o) where
  pub made : (M : Ledger) (before : List ℕ) (r : Result (Unit {0}) SheetFault) (q : Result ℕ RecordFault) →
      Answers L change r → M ≡ after L change → q ≡ no_line r → Delivers (Runs L c M) before q before
  made M before r q a e n =
      subst (λ x. Delivers (Runs L x M) before q before) (sym is)
      (subst (λ x. Delivers (Runs L d M) before x before) (sym n) (silently (Runs L d M) before (no_line r) (run r (changed L change M r a e))))
    where
      run : (r : Result (Unit {0}) SheetFault) → Silently (Changes L change M) (no_line r) → Silently (Runs L d M) (no_line r)
      run (Ok u) h = (h.0, means M (Ok []) h.1)
      run (Err f) h = means M (Err (Sheet f)) h

-- the extremes' question by the code that was read
module _ (L : Ledger) (n : ℕ) (k : Result EffectKind ReadFault) where
  pub at_code : (f : ReadFault) → Err f ≡ k → AsksExtremes L n k L (Err (Reading f))
  at_code f e = subst (λ x. AsksExtremes L n x L (Err (Reading f))) e (refl, refl)

  module _ (kind : EffectKind) (e : Ok kind ≡ k) where
    pub at-state : (n ≡ 0) ⊎ (9 < n) → AsksExtremes L n k L (Err (Question UnknownState))
    at-state out = subst (λ x. AsksExtremes L n x L (Err (Question UnknownState))) e (out, refl, refl)

    pub told : (x : Extremes) → 1 ≤ n → n ≤ 9 → IsExtremes (get_or states (n - 1) []) kind L.rows x → AsksExtremes L n k L (Ok (extremes_line x.low x.high))
    told x a b is = subst (λ y. AsksExtremes L n y L (Ok (extremes_line x.low x.high))) e (a, b, refl, (x, is, refl))

-- the shear question, with the state looked up last
module _ (L : Ledger) (n : ℕ) (d : Option ℕ) where
  pub shear_refused : (f : QuestionFault) → RefusesShear L d f → TellsShear L n d L (Err (Question f))
  shear_refused NoMoment x = absurd x
  shear_refused PlateMissing x = (x, refl)
  shear_refused SpacingLimits x = (x, refl)
  shear_refused StudLimits x = absurd x
  shear_refused UnlawfulFactors x = absurd x
  shear_refused UnknownState x = absurd x

-- the bending question, with the slab first and the state last
module _ (L : Ledger) (n : ℕ) (s : Slab) (fits : DeckFits s []) where
  pub bending_refused : (f : QuestionFault) → RefusesBending L (slab_pushes s) slab_pulls f → TellsBending L n s L (Err (Question f))
  bending_refused NoMoment x = (fits, x, refl)
  bending_refused PlateMissing x = (fits, x, refl)
  bending_refused SpacingLimits x = absurd x
  bending_refused StudLimits x = absurd x
  bending_refused UnlawfulFactors x = absurd x
  bending_refused UnknownState x = absurd x
