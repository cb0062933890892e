-- A command has one outcome, and leaves one ledger.
use Rattle.std.proofs.Common.{◌≡◌, ℕ, ◌-◌, ◌<◌, ◌≤◌, ◌⊎◌, [], get_or, ℤ, Ok, Err, Option, Result, sym, refl, ap, ◌∙◌, subst, inl, inr, arith}
use Rattle.faults.specs.declared.reading.ReadFault.{ReadFault}
use Rattle.faults.specs.declared.question.QuestionFault.{QuestionFault}
use Rattle.faults.specs.declared.question.QuestionFault.TheVariants.{NoMoment, PlateMissing, SpacingLimits, StudLimits, UnlawfulFactors, UnknownState}
use Rattle.faults.specs.declared.part.PartFault.{PartFault}
use Rattle.faults.specs.declared.recorded.RecordFault.TheVariants.{Sheet, Part, Question, Reading}
use Rattle.loads.specs.declared.load_type.LoadType.{LoadType}
use Rattle.loads.specs.declared.kind.EffectKind.{EffectKind}
use Rattle.loads.specs.Values.{judged_sixteenths}
use Rattle.loads.specs.Factors.{states}
use Rattle.sheet.specs.Ledger.{Ledger, place, lift, lower, enter, strike}
use Rattle.kinds.specs.declared.slab.Slab.{Slab}
use Rattle.questions.specs.declared.answers.Resistance.{Resistance}
use Rattle.questions.specs.Bending.{verdict_number, ResistanceAnswer, Judges}
use Rattle.questions.specs.Shear.{ShearResistanceAnswer, JudgesShear}
use Rattle.questions.proofs.Choices.{extremes_only}
use Rattle.command.specs.declared.commands.Command.{Command}
use Rattle.command.specs.declared.commands.Command.TheVariants.{Place, Lift, Lower, Enter, Strike, Extremes, Bending, Shear}
use Rattle.record.specs.Lines.{extremes_line, bending_line, shear_line}
use Rattle.loads.specs.Codes.{load_type, effect_kind}
use Rattle.record.specs.Codes.{spacing_of}
use Rattle.record.specs.Runs.{Outcome, Refused, Enters, TellsExtremes, AsksExtremes, StateLast, slab_pushes, slab_pulls, TellsBending, TellsShear, Runs}
use Rattle.office.proofs.OneResistance as bending
use Rattle.office.proofs.OneResistance.{ok_not_err}
use Rattle.office.proofs.OneShear as shear
use Rattle.office.proofs.OneChange.{one_change}

abbrev pub Same : Ledger → Ledger → Outcome → Outcome → Type 0
Same M N o p = (M ≡ N) × (o ≡ p)

pub one_refused : (L : Ledger) (f : ReadFault) (M N : Ledger) (o p : Outcome) → Refused L f M o → Refused L f N p → Same M N o p
one_refused L f M N o p x y = (x.1 ∙ sym y.1, x.0 ∙ sym y.0)

one_enter : (L : Ledger) (s : ℕ) (t : Result LoadType ReadFault) (k : Result EffectKind ReadFault) (n : ℤ) (M N : Ledger) (o p : Outcome) → Enters L s t k n M o → Enters L s t k n N p → Same M N o p
one_enter L s (Err f) k n M N o p x y = one_refused L f M N o p x y
one_enter L s (Ok t) (Err f) n M N o p x y = one_refused L f M N o p x y
one_enter L s (Ok t) (Ok k) n M N o p x y = one_change L (enter s t k (judged_sixteenths n)) M N o p x y

-- a state's number is known or unknown
known_or_not : (n : ℕ) → 1 ≤ n → n ≤ 9 → (n ≡ 0) ⊎ (9 < n) → ⊥
known_or_not n a b (inl e) = omega arith
known_or_not n a b (inr h) = omega arith

one_tells_extremes : (L : Ledger) (n : ℕ) (k : EffectKind) (M N : Ledger) (o p : Outcome) → TellsExtremes L n k M o → TellsExtremes L n k N p → Same M N o p
one_tells_extremes L n k M N (Ok t) (Ok u) x y =
    let a = x.3 in
    let b = y.3 in
    let e = extremes_only (get_or states (n - 1) []) k L.rows b.0 a.0 b.1 a.1 in
    (x.2 ∙ sym y.2, ap Ok (a.2 ∙ (λ i. extremes_line (e i).low (e i).high) ∙ sym b.2))
one_tells_extremes L n k M N (Ok t) (Err f) x y = absurd (known_or_not n x.0 x.1 y.0)
one_tells_extremes L n k M N (Err f) (Ok u) x y = absurd (known_or_not n y.0 y.1 x.0)
one_tells_extremes L n k M N (Err f) (Err g) x y = (x.2 ∙ sym y.2, ap Err (x.1 ∙ sym y.1))

one_extremes : (L : Ledger) (n : ℕ) (k : Result EffectKind ReadFault) (M N : Ledger) (o p : Outcome) → AsksExtremes L n k M o → AsksExtremes L n k N p → Same M N o p
one_extremes L n (Err f) M N o p x y = one_refused L f M N o p x y
one_extremes L n (Ok k) M N o p x y = one_tells_extremes L n k M N o p x y

-- a question with the state looked up last, whose answer before that is one
module _ {X : Type 0} (n : ℕ) (Answer : Result X QuestionFault → Type 0) (one : (a b : Result X QuestionFault) → Answer a → Answer b → a ≡ b) where
  Told : QuestionFault → Type 0
  Told f = Answer (Err f) ⊎ ((f ≡ UnknownState) × ((n ≡ 0) ⊎ (9 < n)) × ((x : X) × Answer (Ok x)))

  told : (f : QuestionFault) → StateLast n ((x : X) × Answer (Ok x)) (λ g. Answer (Err g)) f → Told f
  unfolding Told
  told NoMoment x = inl x
  told PlateMissing x = inl x
  told SpacingLimits x = inl x
  told StudLimits x = inl x
  told UnlawfulFactors x = inl x
  told UnknownState x = inr (refl, x.0, x.1)

  one_told : (f g : QuestionFault) → Told f → Told g → f ≡ g
  unfolding Told
  one_told f g (inl x) (inl y) = let e = one (Err f) (Err g) x y in cc
  one_told f g (inl x) (inr y) = absurd (ok_not_err y.2.0 f (one (Ok y.2.0) (Err f) y.2.1 x))
  one_told f g (inr x) (inl y) = absurd (ok_not_err x.2.0 g (one (Ok x.2.0) (Err g) x.2.1 y))
  one_told f g (inr x) (inr y) = x.0 ∙ sym y.0

  answered_or_told : (x : X) (f : QuestionFault) → 1 ≤ n → n ≤ 9 → Answer (Ok x) → Told f → ⊥
  unfolding Told
  answered_or_told x f a b h (inl y) = ok_not_err x f (one (Ok x) (Err f) h y)
  answered_or_told x f a b h (inr y) = known_or_not n a b y.1

module _ (L : Ledger) (n : ℕ) (s : Slab) (M N : Ledger) where
  abbrev Bends : Result Resistance QuestionFault → Type 0
  Bends = ResistanceAnswer L (slab_pushes s) slab_pulls

  one_bend : (a b : Result Resistance QuestionFault) → Bends a → Bends b → a ≡ b
  one_bend = bending.one_answer L (slab_pushes s) slab_pulls

  one_bending : (o p : Outcome) → TellsBending L n s M o → TellsBending L n s N p → Same M N o p
  one_bending (Ok t) (Ok u) x y =
      let a = x.4 in
      let b = y.4 in
      let e : a.0 ≡ b.0 = let z = one_bend (Ok a.0) (Ok b.0) a.2 b.2 in cc in
      let v = bending.one_verdict (get_or states (n - 1) []) L.rows b.0 a.1 b.1 (subst (λ (r : Resistance). Judges (get_or states (n - 1) []) L.rows r a.1) e a.3) b.3 in
      (x.3 ∙ sym y.3, ap Ok (a.4 ∙ (λ i. bending_line (e i).level (e i).mp (e i).mn (verdict_number (v i))) ∙ sym b.4))
  one_bending (Ok t) (Err (Sheet g)) x y = absurd y
  one_bending (Ok t) (Err (Part g)) x y = absurd (y.1 x.0)
  one_bending (Ok t) (Err (Question g)) x y = absurd (answered_or_told n Bends one_bend x.4.0 g x.1 x.2 x.4.2 (told n Bends one_bend g y.1))
  one_bending (Ok t) (Err (Reading g)) x y = absurd y
  one_bending (Err (Sheet f)) p x y = absurd x
  one_bending (Err (Part f)) (Ok u) x y = absurd (x.1 y.0)
  one_bending (Err (Part f)) (Err (Sheet g)) x y = absurd y
  one_bending (Err (Part f)) (Err (Part g)) x y = (x.2 ∙ sym y.2, ap (λ (h : PartFault). Err (Part h)) (x.0 ∙ sym y.0))
  one_bending (Err (Part f)) (Err (Question g)) x y = absurd (x.1 y.0)
  one_bending (Err (Part f)) (Err (Reading g)) x y = absurd y
  one_bending (Err (Question f)) (Ok u) x y = absurd (answered_or_told n Bends one_bend y.4.0 f y.1 y.2 y.4.2 (told n Bends one_bend f x.1))
  one_bending (Err (Question f)) (Err (Sheet g)) x y = absurd y
  one_bending (Err (Question f)) (Err (Part g)) x y = absurd (y.1 x.0)
  one_bending (Err (Question f)) (Err (Question g)) x y =
      (x.2 ∙ sym y.2, ap (λ (h : QuestionFault). Err (Question h)) (one_told n Bends one_bend f g (told n Bends one_bend f x.1) (told n Bends one_bend g y.1)))
  one_bending (Err (Question f)) (Err (Reading g)) x y = absurd y
  one_bending (Err (Reading f)) p x y = absurd x

module _ (L : Ledger) (n : ℕ) (d : Option ℕ) (M N : Ledger) where
  abbrev Shears : Result ℕ QuestionFault → Type 0
  Shears = ShearResistanceAnswer L d

  one_force : (a b : Result ℕ QuestionFault) → Shears a → Shears b → a ≡ b
  one_force = shear.one_answer L d

  one_shear : (o p : Outcome) → TellsShear L n d M o → TellsShear L n d N p → Same M N o p
  one_shear (Ok t) (Ok u) x y =
      let a = x.3 in
      let b = y.3 in
      let e : a.0 ≡ b.0 = let z = one_force (Ok a.0) (Ok b.0) a.2 b.2 in cc in
      let v = shear.one_verdict (get_or states (n - 1) []) L.rows b.0 a.1 b.1 (subst (λ (r : ℕ). JudgesShear (get_or states (n - 1) []) L.rows r a.1) e a.3) b.3 in
      (x.2 ∙ sym y.2, ap Ok (a.4 ∙ (λ i. shear_line (e i) (verdict_number (v i))) ∙ sym b.4))
  one_shear (Ok t) (Err (Sheet g)) x y = absurd y
  one_shear (Ok t) (Err (Part g)) x y = absurd y
  one_shear (Ok t) (Err (Question g)) x y = absurd (answered_or_told n Shears one_force x.3.0 g x.0 x.1 x.3.2 (told n Shears one_force g y.0))
  one_shear (Ok t) (Err (Reading g)) x y = absurd y
  one_shear (Err (Sheet f)) p x y = absurd x
  one_shear (Err (Part f)) p x y = absurd x
  one_shear (Err (Question f)) (Ok u) x y = absurd (answered_or_told n Shears one_force y.3.0 f y.0 y.1 y.3.2 (told n Shears one_force f x.0))
  one_shear (Err (Question f)) (Err (Sheet g)) x y = absurd y
  one_shear (Err (Question f)) (Err (Part g)) x y = absurd y
  one_shear (Err (Question f)) (Err (Question g)) x y =
      (x.1 ∙ sym y.1, ap (λ (h : QuestionFault). Err (Question h)) (one_told n Shears one_force f g (told n Shears one_force f x.0) (told n Shears one_force g y.0)))
  one_shear (Err (Question f)) (Err (Reading g)) x y = absurd y
  one_shear (Err (Reading f)) p x y = absurd x

pub one_run : (L : Ledger) (c : Command) (M N : Ledger) (o p : Outcome) → Runs L c M o → Runs L c N p → Same M N o p
one_run L (Place s r t b h g) M N o p x y = one_change L (place s (record { role = r; top = t; breadth = b; height = h; fy = g })) M N o p x y
one_run L (Lift s) M N o p x y = one_change L (lift s) M N o p x y
one_run L (Lower n) M N o p x y = one_change L (lower n) M N o p x y
one_run L (Enter s t e n) M N o p x y = one_enter L s (load_type t) (effect_kind e) n M N o p x y
one_run L (Strike s) M N o p x y = one_change L (strike s) M N o p x y
one_run L (Extremes n e) M N o p x y = one_extremes L n (effect_kind e) M N o p x y
one_run L (Bending n t b h f) M N o p x y = one_bending L n (record { top = t; breadth = b; height = h; fc = f }) M N o p x y
one_run L (Shear n d) M N o p x y = one_shear L n (spacing_of d) M N o p x y
