-- A level where the moment has fallen and from which on it does not fall: no level has a smaller moment or a smaller imbalance.
use Rattle.std.proofs.Common.{◌≡◌, ℕ, zero, suc, ◌+◌, ◌-◌, ◌<◌, ◌≤◌, ◌⊎◌, inl, inr, ⊎_elim, le_of_lt, arith}
use native.Mathlib.Decide.{dec_lt}
use Rattle.section.specs.Strips.{force_above, force_below, moment_at, imbalance_at}
use Rattle.std.proofs.lemmas.Bool.{cases_lt}
use Rattle.section.specs.Sums.{le_or_lt}
use Rattle.section.proofs.Levels.{moment_step, above_le, below_ge}

eq_or_lt : (k j : ℕ) → k ≤ j → (k ≡ j) ⊎ (k < j)
eq_or_lt k j l = elim (dec_lt k j) [ yes p ↦ inr p | no q ↦ inl (omega arith) ]

module _ (n : ℕ) (up down : ℕ → ℕ) (k : ℕ) (within : k ≤ n)
    (rise : k < n → force_below n down k + force_below n down (suc k) ≤ force_above up k + force_above up (suc k))
    (fall : (j : ℕ) → suc j ≡ k → force_above up j + force_above up k < force_below n down j + force_below n down k) where
  drops : (j : ℕ) → j < k → moment_at n up down (suc j) < moment_at n up down j
  drops j l =
      let pe : suc (k - 1) ≡ k = omega arith in
      let f = fall (k - 1) pe in
      let a1 = above_le up j (k - 1) (omega arith) in
      let a2 = above_le up (suc j) k (omega arith) in
      let b1 = below_ge n down j (k - 1) (omega arith) (omega arith) in
      let b2 = below_ge n down (suc j) k (omega arith) within in
      omega (arith, moment_step n up down j (omega arith))

  climbs : (j : ℕ) → k ≤ j → j < n → moment_at n up down j ≤ moment_at n up down (suc j)
  climbs j l h =
      let r = rise (omega arith) in
      let a1 = above_le up k j l in
      let a2 = above_le up (suc k) (suc j) (omega arith) in
      let b1 = below_ge n down k j l (omega arith) in
      let b2 = below_ge n down (suc k) (suc j) (omega arith) h in
      omega (arith, moment_step n up down j h)

  before_by : (d j : ℕ) → j + suc d ≡ k → moment_at n up down k < moment_at n up down j
  before_by zero j e = let q : suc j ≡ k = omega arith in rw q at (drops j (omega arith))
  before_by (suc d) j e = let r = before_by d (suc j) (omega arith) in omega (arith, drops j (omega arith))

  after_by : (d : ℕ) → k + d ≤ n → moment_at n up down k ≤ moment_at n up down (k + d)
  after_by zero l = let e : k + 0 ≡ k = omega arith in rw e (omega arith)
  after_by (suc d) l =
      let e : k + suc d ≡ suc (k + d) = omega arith in
      let r = after_by d (omega arith) in
      rw e (omega (arith, climbs (k + d) (omega arith) (omega arith)))

  pub before : (j : ℕ) → j < k → moment_at n up down k < moment_at n up down j
  before j l = before_by (k - suc j) j (omega arith)

  after : (j : ℕ) → k ≤ j → j ≤ n → moment_at n up down k ≤ moment_at n up down j
  after j l h = let e : k + (j - k) ≡ j = omega arith in let b : k + (j - k) ≤ n = omega arith in rw e at (after_by (j - k) b)

  pub least : (j : ℕ) → j ≤ n → moment_at n up down k ≤ moment_at n up down j
  least j h = ⊎_elim (λ l. after j l h) (λ l. le_of_lt (before j l)) (le_or_lt k j)

  even_before : (j : ℕ) → j < k → imbalance_at n up down k ≤ imbalance_at n up down j
  unfolding imbalance_at
  even_before j l =
      let pe : suc (k - 1) ≡ k = omega arith in
      let f = fall (k - 1) pe in
      let a1 = above_le up j (k - 1) (omega arith) in
      let a2 = above_le up (k - 1) k (omega arith) in
      let b1 = below_ge n down j (k - 1) (omega arith) (omega arith) in
      let b2 = below_ge n down (k - 1) k (omega arith) within in
      omega arith

  even_after : (j : ℕ) → k < j → j ≤ n → imbalance_at n up down k ≤ imbalance_at n up down j
  unfolding imbalance_at
  even_after j l h =
      let r = rise (omega arith) in
      let a1 = above_le up k (suc k) (omega arith) in
      let a2 = above_le up (suc k) j l in
      let b1 = below_ge n down k (suc k) (omega arith) (omega arith) in
      let b2 = below_ge n down (suc k) j l h in
      omega arith

  pub even : (j : ℕ) → j ≤ n → imbalance_at n up down k ≤ imbalance_at n up down j
  even j h = ⊎_elim (even_before j) (λ l. ⊎_elim (λ e. rw e (omega arith)) (λ g. even_after j g h) (eq_or_lt k j l)) (cases_lt j k)
