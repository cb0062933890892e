-- The search for the axis by halves: what each turn knows, and what the end shows.
use Rattle.std.proofs.Common.{◌≡◌, ℕ, suc, ◌+◌, ◌-◌, ◌<◌, ◌≤◌, ◌^◌, min, max, Some, None, Ok, Err, Option, Result, refl, arith}
use Rattle.faults.specs.declared.question.QuestionFault.{QuestionFault}
use Rattle.section.specs.declared.sense.Sense.{Sense}
use Rattle.section.specs.declared.sense.Sense.TheVariants.{Sagging, Hogging}
use Rattle.section.specs.declared.axis.Axis.{Axis}
use Rattle.section.specs.declared.forces.Forces.{Forces}
use Rattle.section.specs.declared.resultants.Resultants.{Resultants}
use Rattle.section.specs.Strips.{force_above, force_below, moment_at, imbalance_at, ◌⊕◌, moment_in, imbalance_in, strength_above, strength_below}
use Rattle.section.specs.Parts.{EndsBy, IsDepth, IsForces, IsResultants}
use Rattle.section.specs.Axis.{IsAxis, AxisAnswer, Judged}
use Rattle.section.specs.Sums.{zeros}
use Rattle.section.proofs.Levels.{moment_step, above_le, below_ge}
use Rattle.section.proofs.Together.{depth_both}
use Rattle.section.proofs.Turning.{least, before, even}

-- the forces at the level before one, where there is one
abbrev pub ToldBefore : Sense → (ℕ → ℕ) → (ℕ → ℕ) → ℕ → Option Forces → Type 0
ToldBefore s p q low None = low ≡ 0
ToldBefore s p q low (Some f) = (0 < low) × (IsForces s p q (min (low - 1) 4096) f × ((f.above ≤ 2 ^ 37) × (f.below ≤ 2 ^ 37)))

-- the first level at which the force above is no smaller than that below lies from low to high, or there is none up to 4,095
pub record Narrowed (sense : Sense) (pushes pulls : ℕ → ℕ) (low high : ℕ) : Type 0 where
  pub ordered : low ≤ high
  pub bounded : high ≤ 4096
  pub lighter : (j : ℕ) → j < low → force_above (strength_above sense pushes pulls) j < force_below 4096 (strength_below sense pushes pulls) j
  pub heavier : high < 4096 → force_below 4096 (strength_below sense pushes pulls) high ≤ force_above (strength_above sense pushes pulls) high

below_past : (s : Sense) (p q : ℕ → ℕ) (d : ℕ) → EndsBy p q d → force_below 4096 (strength_below s p q) d ≡ 0
unfolding force_below
below_past Sagging p q d e = zeros (λ j. q (d + j)) (4096 - d) (λ j _. (e (d + j) (omega arith)).1)
below_past Hogging p q d e = zeros (λ j. p (d + j)) (4096 - d) (λ j _. (e (d + j) (omega arith)).0)

module _ (s : Sense) (p q : ℕ → ℕ) where
  -- no strip is below the depth
  narrowed_depth : (d : ℕ) → d ≤ 4096 → EndsBy p q d → Narrowed s p q 0 d
  narrowed_depth d w e = record { ordered = omega arith; bounded = w; lighter = λ j l. omega arith; heavier = λ _. omega (arith, below_past s p q d e) }

  pub narrowed_low : (low high m : ℕ) (t : Forces) → Narrowed s p q low high → m < high → IsForces s p q (min m 4096) t → t.above < t.below → Narrowed s p q (m + 1) high
  narrowed_low low high m t r l h lt =
      let e : min m 4096 ≡ m = omega (arith, r.bounded) in
      let a = rw e at h.above_is in
      let b = rw e at h.below_is in
      record {
        ordered = omega arith;
        bounded = r.bounded;
        lighter = λ j k. omega (arith, above_le (strength_above s p q) j m (omega arith), below_ge 4096 (strength_below s p q) j m (omega arith) (omega arith));
        heavier = r.heavier;
      }

  pub narrowed_high : (low high m : ℕ) (t : Forces) → Narrowed s p q low high → low ≤ m → m < high → IsForces s p q (min m 4096) t → t.below ≤ t.above → Narrowed s p q low m
  narrowed_high low high m t r o l h le =
      let e : min m 4096 ≡ m = omega (arith, r.bounded) in
      let a = rw e at h.above_is in
      let b = rw e at h.below_is in
      record { ordered = o; bounded = omega arith; lighter = r.lighter; heavier = λ _. omega arith }

  -- a level that turns the moment is the axis
  pub turning_axis : (k : ℕ) → k ≤ 4096 →
      (k < 4096 → force_below 4096 (strength_below s p q) k + force_below 4096 (strength_below s p q) (suc k) ≤ force_above (strength_above s p q) k + force_above (strength_above s p q) (suc k)) →
      ((j : ℕ) → suc j ≡ k → force_above (strength_above s p q) j + force_above (strength_above s p q) k < force_below 4096 (strength_below s p q) j + force_below 4096 (strength_below s p q) k) →
      IsAxis s p q (record { level = k; moment = moment_in s p q k; imbalance = imbalance_in s p q k })
  turning_axis k w rise fall =
      let up : ℕ → ℕ = strength_above s p q in
      let down : ℕ → ℕ = strength_below s p q in
      record {
        within = w;
        moment_is = refl;
        imbalance_is = refl;
        least = least 4096 up down k w rise fall;
        first = before 4096 up down k w rise fall;
        even = even 4096 up down k w rise fall;
      }

  -- so the answer of its resultants is the axis answer
  settled : (k : ℕ) (t : Resultants) (r : Result Axis QuestionFault) → k ≤ 4096 →
      (k < 4096 → force_below 4096 (strength_below s p q) k + force_below 4096 (strength_below s p q) (suc k) ≤ force_above (strength_above s p q) k + force_above (strength_above s p q) (suc k)) →
      ((j : ℕ) → suc j ≡ k → force_above (strength_above s p q) j + force_above (strength_above s p q) k < force_below 4096 (strength_below s p q) j + force_below 4096 (strength_below s p q) k) →
      IsResultants s p q (min k 4096) t → Judged k t r → AxisAnswer s p q r
  unfolding imbalance_at
  settled k t (Ok a) w rise fall h c =
      let e : min k 4096 ≡ k = omega arith in
      let ta = rw e at h.above_is in
      let tb = rw e at h.below_is in
      let tm = rw e at h.moment_is in
      rw c.1 (rw (tm, ta, tb) (turning_axis k w rise fall), c.0)
  settled k t (Err f) w rise fall h c =
      let e : min k 4096 ≡ k = omega arith in
      let tm = rw e at h.moment_is in
      (c.0, record { level = k; within = w; none = omega arith })

  -- the level before the one that was found has no larger moment
  pub at_before : (low high : ℕ) (b t : Resultants) (r : Result Axis QuestionFault) → Narrowed s p q low high → high ≤ low → 0 < low →
      IsResultants s p q (min (low - 1) 4096) b → IsResultants s p q (min low 4096) t → b.moment ≤ t.moment → Judged (low - 1) b r → AxisAnswer s p q r
  at_before low high b t r n l pos hb ht le c =
      let e : min low 4096 ≡ low = omega (arith, n.bounded, n.ordered) in
      let e' : min (low - 1) 4096 ≡ low - 1 = omega (arith, n.bounded, n.ordered) in
      let up : ℕ → ℕ = strength_above s p q in
      let down : ℕ → ℕ = strength_below s p q in
      let q1 : suc (low - 1) ≡ low = omega arith in
      let tm = rw e at ht.moment_is in
      let bm = rw e' at hb.moment_is in
      let step = moment_step 4096 up down (low - 1) (omega (arith, n.bounded, n.ordered)) in
      let step' = rw q1 at step in
      settled (low - 1) b r (omega (arith, n.bounded, n.ordered))
      (λ _. rw q1 (omega arith))
      (λ j x. omega (arith, n.lighter j (omega arith), n.lighter (low - 1) (omega arith)))
      hb c

  -- or it has a larger one
  pub at_here : (low high : ℕ) (t : Resultants) (r : Result Axis QuestionFault) → Narrowed s p q low high → high ≤ low →
      ((j : ℕ) → suc j ≡ low → moment_at 4096 (strength_above s p q) (strength_below s p q) low < moment_at 4096 (strength_above s p q) (strength_below s p q) j) →
      IsResultants s p q (min low 4096) t → Judged low t r → AxisAnswer s p q r
  at_here low high t r n l less ht c =
      let up : ℕ → ℕ = strength_above s p q in
      let down : ℕ → ℕ = strength_below s p q in
      let q1 : high ≡ low = omega (arith, n.ordered) in
      let n' = rw q1 at n in
      settled low t r n'.bounded
      (λ lt. omega (arith, n'.heavier lt, above_le up low (suc low) (omega arith), below_ge 4096 down low (suc low) (omega arith) lt))
      (λ j x. let m = less j x in let step = rw x at (moment_step 4096 up down j (omega (arith, n'.bounded))) in omega arith)
      ht c

  pub larger_before : (low : ℕ) (b t : Resultants) → low ≤ 4096 → IsResultants s p q (min (low - 1) 4096) b → IsResultants s p q (min low 4096) t → t.moment < b.moment →
      (j : ℕ) → suc j ≡ low → moment_at 4096 (strength_above s p q) (strength_below s p q) low < moment_at 4096 (strength_above s p q) (strength_below s p q) j
  larger_before low b t w hb ht lt j x =
      let e : min low 4096 ≡ low = omega arith in
      let e' : min (low - 1) 4096 ≡ j = omega arith in
      let tm = rw e at ht.moment_is in
      let bm = rw e' at hb.moment_is in
      omega arith

  -- what is told a level up, by the forces there
  pub one_up : (low : ℕ) (t : Resultants) (f : Forces) → 0 < low → low ≤ 4096 → IsResultants s p q (min low 4096) t → IsForces s p q (min (low - 1) 4096) f →
      (t.above + f.above ≤ t.moment + (t.below + f.below)) ×
      IsResultants s p q (min (low - 1) 4096) (record { above = f.above; below = f.below; moment = t.moment + (t.below + f.below) - (t.above + f.above) })
  one_up low t f pos w ht hf =
      let e : min low 4096 ≡ low = omega arith in
      let e' : min (low - 1) 4096 ≡ low - 1 = omega arith in
      let q1 : suc (low - 1) ≡ low = omega arith in
      let tm = rw e at ht.moment_is in
      let ta = rw e at ht.above_is in
      let tb = rw e at ht.below_is in
      let fa = rw e' at hf.above_is in
      let fb = rw e' at hf.below_is in
      let step = rw q1 at (moment_step 4096 (strength_above s p q) (strength_below s p q) (low - 1) (omega arith)) in
      (omega arith, rw e' (record { above_is = fa; below_is = fb; moment_is = omega arith }))

pub narrowed_parts : (s : Sense) (p q r t : ℕ → ℕ) (a b d : ℕ) → IsDepth p r a → IsDepth q t b → a ≤ 4096 → b ≤ 4096 → d ≡ max a b → Narrowed s (p ⊕ q) (r ⊕ t) 0 d
narrowed_parts s p q r t a b d x y l h e = rw e (narrowed_depth s (p ⊕ q) (r ⊕ t) (max a b) (omega arith) (depth_both p q r t a b x y).past)
