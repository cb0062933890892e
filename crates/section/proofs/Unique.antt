-- The axis answer is a function of the strips alone.
use Rattle.std.proofs.Common.{◌≡◌, ℕ, ◌<◌, ◌≤◌, Ok, Err, Result, sym, ap, ◌∙◌, ⊎_elim, arith}
use mathlib.Core.Path.{fun_ext}
use Rattle.faults.specs.declared.question.QuestionFault.{QuestionFault}
use Rattle.section.specs.declared.axis.Axis.{Axis}
use Rattle.section.specs.declared.sense.Sense.{Sense}
use Rattle.section.specs.Strips.{moment_in, imbalance_in}
use Rattle.section.specs.Axis.{IsAxis, LacksMoment, AxisAnswer}
use Rattle.section.specs.Sums.{le_or_lt}

module _ (s : Sense) (p q : ℕ → ℕ) where
  no_later : (a b : Axis) → IsAxis s p q a → IsAxis s p q b → a.level ≤ b.level
  no_later a b x y =
      ⊎_elim (λ l. l)
      (λ l. let u = x.first b.level l in let v = y.least a.level x.within in let m = x.moment_is in let w = y.moment_is in absurd (let z : ⊥ = omega arith in z))
      (le_or_lt a.level b.level)

  pub axis_unique : (a b : Axis) → IsAxis s p q a → IsAxis s p q b → a ≡ b
  axis_unique a b x y =
      let l = no_later a b x y in
      let g = no_later b a y x in
      let e : a.level ≡ b.level = omega arith in
      let m : a.moment ≡ b.moment = x.moment_is ∙ ap (moment_in s p q) e ∙ sym y.moment_is in
      let i : a.imbalance ≡ b.imbalance = x.imbalance_is ∙ ap (imbalance_in s p q) e ∙ sym y.imbalance_is in
      λ t. record { level = e t; moment = m t; imbalance = i t }

  some_moment : (a : Axis) → IsAxis s p q a → 0 < a.moment → LacksMoment s p q → ⊥
  some_moment a x h n = let l = x.least n.level n.within in omega (arith, n.none)

  pub answer_unique : (a b : Result Axis QuestionFault) → AxisAnswer s p q a → AxisAnswer s p q b → a ≡ b
  answer_unique (Ok a) (Ok b) x y = ap Ok (axis_unique a b x.0 y.0)
  answer_unique (Ok a) (Err f) x y = absurd (some_moment a x.0 x.1 y.1)
  answer_unique (Err f) (Ok b) x y = absurd (some_moment b y.0 y.1 x.1)
  answer_unique (Err f) (Err g) x y = ap Err (x.0 ∙ sym y.0)

-- parts with equal strips get equal answers
pub answer_same : (s : Sense) (p q r t : ℕ → ℕ) → ((i : ℕ) → p i ≡ r i) → ((i : ℕ) → q i ≡ t i) → (a b : Result Axis QuestionFault) → AxisAnswer s p q a → AxisAnswer s r t b → a ≡ b
answer_same s p q r t e f a b x y =
    let u : p ≡ r = fun_ext e in
    let v : q ≡ t = fun_ext f in
    answer_unique s r t a b (rw (u, v) at x) y
