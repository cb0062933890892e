-- The bending resistance of a ledger with a part is one, and so is its verdict.
use Rattle.std.proofs.Common.{◌≡◌, ℕ, ◌<◌, max, not, ◌⊎◌, List, Some, None, Ok, Err, Option, Result, sym, refl, ap, ◌∙◌, inl, inr, arith}
use borrow.Author.Tests.{clash}
use Rattle.faults.specs.declared.question.QuestionFault.{QuestionFault}
use Rattle.faults.specs.declared.question.QuestionFault.TheVariants.{NoMoment, PlateMissing, SpacingLimits, StudLimits, UnlawfulFactors, UnknownState}
use Rattle.section.specs.declared.sense.Sense.TheVariants.{Sagging}
use Rattle.section.specs.Parts.{IsDepth}
use Rattle.section.specs.declared.axis.Axis.{Axis}
use Rattle.section.specs.Axis.{IsAxis, LacksMoment}
use Rattle.section.proofs.Unique.{axis_unique, answer_unique}
use Rattle.sheet.specs.declared.row.Row.{Row}
use Rattle.sheet.specs.Ledger.{Ledger}
use Rattle.questions.specs.declared.answers.Verdict.{Verdict}
use Rattle.questions.specs.declared.answers.Verdict.TheVariants.{Carries, NotCompact, Brittle, TooWeak}
use Rattle.questions.specs.declared.answers.Resistance.{Resistance}
use Rattle.questions.specs.Bending.{plastic_moment, nominal_moment, not_compact, brittle, Lacks, IsResistance, RefusesBending, ResistanceAnswer, Judges}
use Rattle.questions.specs.Together.{with_plates}

-- two answers of different kinds are never equal
pub ok_not_err : {X Y : Type 0} (x : X) (y : Y) → ◌≡◌ {A = Result X Y} (Ok x) (Err y) → ⊥
ok_not_err x y e = let z : ◌≡◌ {A = ℕ} 0 1 = cc in omega arith

some_not_none : {X : Type 0} {o : Option X} (x : X) → o ≡ Some x → o ≡ None → ⊥
some_not_none x p q = let z : ◌≡◌ {A = ℕ} 0 1 = cc in omega arith

pub one_content : {X : Type 0} {o : Option X} (x y : X) → o ≡ Some x → o ≡ Some y → x ≡ y
one_content x y p q = cc

one_depth : (p q : ℕ → ℕ) (a b : ℕ) → IsDepth p q a → IsDepth p q b → a ≡ b
one_depth p q a b x y = let l = x.least b y.past in let g = y.least a x.past in omega arith

module _ (L : Ledger) (p q : ℕ → ℕ) where
  one_resistance : (r s : Resistance) → IsResistance L p q r → IsResistance L p q s → r ≡ s
  one_resistance r s x y =
      let a : x.axis ≡ y.axis = axis_unique Sagging (with_plates L p) (with_plates L q) x.axis y.axis x.is_axis y.is_axis in
      let d : x.plates_depth ≡ y.plates_depth = one_depth _ _ _ _ x.is_plates_depth y.is_plates_depth in
      let e : x.part_depth ≡ y.part_depth = one_depth _ _ _ _ x.is_part_depth y.is_part_depth in
      let t : x.top ≡ y.top = one_content _ _ x.is_top y.is_top in
      let w : x.web ≡ y.web = one_content _ _ x.is_web y.is_web in
      let b : x.bottom ≡ y.bottom = one_content _ _ x.is_bottom y.is_bottom in
      let level : r.level ≡ s.level = x.level ∙ (λ i. (a i).level) ∙ sym y.level in
      let mp : r.mp ≡ s.mp = x.mp ∙ (λ i. plastic_moment (a i).moment) ∙ sym y.mp in
      let mn : r.mn ≡ s.mn = x.mn ∙ (λ i. nominal_moment (plastic_moment (a i).moment) (a i).level (max (d i) (e i))) ∙ sym y.mn in
      let compact : r.compact ≡ s.compact = x.compact ∙ (λ i. not (not_compact (t i) (w i) (b i) (a i).level)) ∙ sym y.compact in
      let ductile : r.ductile ≡ s.ductile = x.ductile ∙ (λ i. not (brittle (a i).level (max (d i) (e i)))) ∙ sym y.ductile in
      λ i. record { level = level i; mp = mp i; mn = mn i; compact = compact i; ductile = ductile i }

  Stands : Type 0
  Stands = (axis : Axis) × IsAxis Sagging (with_plates L p) (with_plates L q) axis × (0 < axis.moment)

  moment_or_none : Stands → LacksMoment Sagging (with_plates L p) (with_plates L q) → ⊥
  unfolding Stands
  moment_or_none a n = ok_not_err a.0 NoMoment (answer_unique Sagging (with_plates L p) (with_plates L q) (Ok a.0) (Err NoMoment) (a.1, a.2) (refl, n))

  lacks_none : (r : Resistance) → IsResistance L p q r → Lacks L → ⊥
  lacks_none r x (inl e) = some_not_none x.top x.is_top e
  lacks_none r x (inr (inl e)) = some_not_none x.web x.is_web e
  lacks_none r x (inr (inr e)) = some_not_none x.bottom x.is_bottom e

  Why : QuestionFault → Type 0
  Why f = ((f ≡ NoMoment) × LacksMoment Sagging (with_plates L p) (with_plates L q)) ⊎ ((f ≡ PlateMissing) × Stands × Lacks L)

  why : (f : QuestionFault) → RefusesBending L p q f → Why f
  unfolding Why Stands
  why NoMoment x = inl (refl, x)
  why PlateMissing x = inr (refl, x.0, x.1)
  why SpacingLimits x = absurd x
  why StudLimits x = absurd x
  why UnlawfulFactors x = absurd x
  why UnknownState x = absurd x

  one_fault : (f g : QuestionFault) → Why f → Why g → f ≡ g
  unfolding Why
  one_fault f g (inl x) (inl y) = x.0 ∙ sym y.0
  one_fault f g (inl x) (inr y) = absurd (moment_or_none y.1 x.1)
  one_fault f g (inr x) (inl y) = absurd (moment_or_none x.1 y.1)
  one_fault f g (inr x) (inr y) = x.0 ∙ sym y.0

  answered_or_refused : (r : Resistance) (f : QuestionFault) → IsResistance L p q r → Why f → ⊥
  unfolding Why Stands
  answered_or_refused r f x (inl y) = moment_or_none (x.axis, x.is_axis, x.some_moment) y.1
  answered_or_refused r f x (inr y) = lacks_none r x y.2

  pub one_answer : (a b : Result Resistance QuestionFault) → ResistanceAnswer L p q a → ResistanceAnswer L p q b → a ≡ b
  one_answer (Ok r) (Ok s) x y = ap Ok (one_resistance r s x y)
  one_answer (Ok r) (Err f) x y = absurd (answered_or_refused r f x (why f y))
  one_answer (Err f) (Ok s) x y = absurd (answered_or_refused s f y (why f x))
  one_answer (Err f) (Err g) x y = ap Err (one_fault f g (why f x) (why g y))

pub one_verdict : (fs : List (ℕ × ℕ)) (rows : List (Option Row)) (r : Resistance) (v w : Verdict) → Judges fs rows r v → Judges fs rows r w → v ≡ w
one_verdict fs rows r Carries Carries x y = refl
one_verdict fs rows r Carries NotCompact x y = absurd (clash (sym y ∙ x.0))
one_verdict fs rows r Carries Brittle x y = absurd (clash (sym y.1 ∙ x.1))
one_verdict fs rows r Carries TooWeak x y = let c = y.2 in absurd (x.2 c.0 c.1 c.2)
one_verdict fs rows r NotCompact Carries x y = absurd (clash (sym x ∙ y.0))
one_verdict fs rows r NotCompact NotCompact x y = refl
one_verdict fs rows r NotCompact Brittle x y = absurd (clash (sym x ∙ y.0))
one_verdict fs rows r NotCompact TooWeak x y = absurd (clash (sym x ∙ y.0))
one_verdict fs rows r Brittle Carries x y = absurd (clash (sym x.1 ∙ y.1))
one_verdict fs rows r Brittle NotCompact x y = absurd (clash (sym y ∙ x.0))
one_verdict fs rows r Brittle Brittle x y = refl
one_verdict fs rows r Brittle TooWeak x y = absurd (clash (sym x.1 ∙ y.1))
one_verdict fs rows r TooWeak Carries x y = let c = x.2 in absurd (y.2 c.0 c.1 c.2)
one_verdict fs rows r TooWeak NotCompact x y = absurd (clash (sym y ∙ x.0))
one_verdict fs rows r TooWeak Brittle x y = absurd (clash (sym y.1 ∙ x.1))
one_verdict fs rows r TooWeak TooWeak x y = refl
