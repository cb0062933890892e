-- The shear resistance of a ledger's web is one, and so is its verdict.
use Rattle.std.proofs.Common.{◌≡◌, ℕ, ◌*◌, ◌/◌, Bool, true, false, leb, List, Some, None, Ok, Err, MatchBool, Option, Result, sym, refl, ap, ◌∙◌, subst, arith}
use borrow.Author.Tests.{clash}
use Rattle.faults.specs.declared.question.QuestionFault.{QuestionFault}
use Rattle.faults.specs.declared.question.QuestionFault.TheVariants.{NoMoment, PlateMissing, SpacingLimits, StudLimits, UnlawfulFactors, UnknownState}
use Rattle.sheet.specs.declared.plate.Role.TheVariants.{Web}
use Rattle.sheet.specs.declared.plate.Plate.{Plate}
use Rattle.sheet.specs.declared.row.Row.{Row}
use Rattle.sheet.specs.Plates.{standing}
use Rattle.sheet.specs.Ledger.{Ledger}
use Rattle.questions.specs.declared.answers.Verdict.{Verdict}
use Rattle.questions.specs.declared.answers.Verdict.TheVariants.{Carries, NotCompact, Brittle, TooWeak}
use Rattle.questions.specs.Roots.{IsRoot}
use Rattle.questions.specs.Shear.{Buckles, SpacingOutside, IsShearForce, IsShearResistance, RefusesShear, ShearResistanceAnswer, JudgesShear}
use Rattle.questions.proofs.Roots.{root_only}
use Rattle.office.proofs.OneResistance.{one_content}

one_coefficient : (height : ℕ) (d : Option ℕ) (k l : ℕ) → Buckles height d k → Buckles height d l → k ≡ l
one_coefficient height None k l x y = x ∙ sym y
one_coefficient height (Some d) k l x y = x.1 ∙ sym y.1

one_force : (D tw F k v u : ℕ) → IsShearForce D tw F k v → IsShearForce D tw F k u → v ≡ u
one_force D tw F k v u = go (leb (D * D * F) (363776 * k * (tw * tw))) (leb (D * D * F) (568400 * k * (tw * tw)))
  where
    go : (b c : Bool) → MatchBool b (v ≡ 58 * F * D * tw / 100) (MatchBool c ((s : ℕ) × IsRoot (29000000 * k * F) s × (v ≡ 6496 * (tw * tw) * s / 100000)) (v ≡ 264074 * k * (tw * tw * tw) / D)) →
        MatchBool b (u ≡ 58 * F * D * tw / 100) (MatchBool c ((s : ℕ) × IsRoot (29000000 * k * F) s × (u ≡ 6496 * (tw * tw) * s / 100000)) (u ≡ 264074 * k * (tw * tw * tw) / D)) → v ≡ u
    go true c x y = x ∙ sym y
    go false true x y = x.2 ∙ ap (λ (s : ℕ). 6496 * (tw * tw) * s / 100000) (root_only (29000000 * k * F) x.0 y.0 x.1 y.1) ∙ sym y.2
    go false false x y = x ∙ sym y

module _ (L : Ledger) (d : Option ℕ) where
  one_resistance : (v u : ℕ) → IsShearResistance L d v → IsShearResistance L d u → v ≡ u
  one_resistance v u x y =
      let w : y.web ≡ x.web = one_content _ _ y.is_web x.is_web in
      let k : y.k ≡ x.k = one_coefficient x.web.height d y.k x.k (subst (λ (p : Plate). Buckles p.height d y.k) w y.buckles) x.buckles in
      let f : IsShearForce x.web.height x.web.breadth x.web.fy y.k u = subst (λ (p : Plate). IsShearForce p.height p.breadth p.fy y.k u) w y.is_force in
      one_force x.web.height x.web.breadth x.web.fy x.k v u x.is_force (subst (λ (c : ℕ). IsShearForce x.web.height x.web.breadth x.web.fy c u) k f)

  outside_or_not : (height : ℕ) (s : Option ℕ) (k : ℕ) → Buckles height s k → SpacingOutside height s → ⊥
  outside_or_not height None k x y = y
  outside_or_not height (Some s) k x y = clash (sym y ∙ x.0)

  stands_or_not : (w : Plate) → standing Web L.plates ≡ Some w → standing Web L.plates ≡ None → ⊥
  stands_or_not w p q = let z : ◌≡◌ {A = ℕ} 0 1 = cc in omega arith

  answered_or_refused : (v : ℕ) (f : QuestionFault) → IsShearResistance L d v → RefusesShear L d f → ⊥
  answered_or_refused v NoMoment x y = y
  answered_or_refused v PlateMissing x y = stands_or_not x.web x.is_web y
  answered_or_refused v SpacingLimits x y =
      let w : y.0 ≡ x.web = one_content _ _ y.1 x.is_web in
      outside_or_not x.web.height d x.k x.buckles (subst (λ (p : Plate). SpacingOutside p.height d) w y.2)
  answered_or_refused v StudLimits x y = y
  answered_or_refused v UnlawfulFactors x y = y
  answered_or_refused v UnknownState x y = y

  one_fault : (f g : QuestionFault) → RefusesShear L d f → RefusesShear L d g → f ≡ g
  one_fault NoMoment g x y = absurd x
  one_fault PlateMissing NoMoment x y = absurd y
  one_fault PlateMissing PlateMissing x y = refl
  one_fault PlateMissing SpacingLimits x y = absurd (stands_or_not y.0 y.1 x)
  one_fault PlateMissing StudLimits x y = absurd y
  one_fault PlateMissing UnlawfulFactors x y = absurd y
  one_fault PlateMissing UnknownState x y = absurd y
  one_fault SpacingLimits NoMoment x y = absurd y
  one_fault SpacingLimits PlateMissing x y = absurd (stands_or_not x.0 x.1 y)
  one_fault SpacingLimits SpacingLimits x y = refl
  one_fault SpacingLimits StudLimits x y = absurd y
  one_fault SpacingLimits UnlawfulFactors x y = absurd y
  one_fault SpacingLimits UnknownState x y = absurd y
  one_fault StudLimits g x y = absurd x
  one_fault UnlawfulFactors g x y = absurd x
  one_fault UnknownState g x y = absurd x

  pub one_answer : (a b : Result ℕ QuestionFault) → ShearResistanceAnswer L d a → ShearResistanceAnswer L d b → a ≡ b
  one_answer (Ok v) (Ok u) x y = ap Ok (one_resistance v u x y)
  one_answer (Ok v) (Err f) x y = absurd (answered_or_refused v f x y)
  one_answer (Err f) (Ok u) x y = absurd (answered_or_refused u f y x)
  one_answer (Err f) (Err g) x y = ap Err (one_fault f g x y)

pub one_verdict : (fs : List (ℕ × ℕ)) (rows : List (Option Row)) (r : ℕ) (v w : Verdict) → JudgesShear fs rows r v → JudgesShear fs rows r w → v ≡ w
one_verdict fs rows r Carries Carries x y = refl
one_verdict fs rows r Carries NotCompact x y = absurd y
one_verdict fs rows r Carries Brittle x y = absurd y
one_verdict fs rows r Carries TooWeak x y = absurd (x y.0 y.1 y.2)
one_verdict fs rows r NotCompact w x y = absurd x
one_verdict fs rows r Brittle w x y = absurd x
one_verdict fs rows r TooWeak Carries x y = absurd (y x.0 x.1 x.2)
one_verdict fs rows r TooWeak NotCompact x y = absurd y
one_verdict fs rows r TooWeak Brittle x y = absurd y
one_verdict fs rows r TooWeak TooWeak x y = refl
