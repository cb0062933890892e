-- Forces and moments from one level to the next, for any number n of strips.
use Rattle.std.proofs.Common.{◌≡◌, ℕ, zero, suc, ◌+◌, ◌-◌, ◌*◌, ◌<◌, ◌≤◌, refl, ap, ◌∙◌, arith}
use Rattle.section.specs.Strips.{sum_to, force_above, force_below, moment_above, moment_below, moment_at}
use Rattle.section.specs.Sums.{sum_to_suc, sum_to_zero, sum_to_cong, sum_to_add, sum_to_first}

plus_two : (a x y : ℕ) → y ≡ x + 2 → a * y ≡ a * x + (a + a)
plus_two a x y e = rw e (omega arith)

times_one : (a y : ℕ) → y ≡ 1 → a * y ≡ a
times_one a y e = rw e (omega arith)

pub above_none : (up : ℕ → ℕ) → (force_above up 0 ≡ 0) × (moment_above up 0 ≡ 0)
unfolding force_above moment_above
above_none up = (sum_to_zero up, sum_to_zero (λ i. up i * (2 * (0 - i) - 1)))

pub below_none : (n : ℕ) (down : ℕ → ℕ) → (force_below n down n ≡ 0) × (moment_below n down n ≡ 0)
unfolding force_below moment_below
below_none n down =
    let e : n - n ≡ 0 = omega arith in
    (ap (sum_to (λ j. down (n + j))) e ∙ sum_to_zero (λ j. down (n + j)), ap (sum_to (λ j. down (n + j) * (2 * j + 1))) e ∙ sum_to_zero (λ j. down (n + j) * (2 * j + 1)))

pub above_step : (up : ℕ → ℕ) (k : ℕ) → force_above up (suc k) ≡ force_above up k + up k
unfolding force_above
above_step up k = sum_to_suc up k

pub below_step : (n : ℕ) (down : ℕ → ℕ) (k : ℕ) → k < n → force_below n down k ≡ down k + force_below n down (suc k)
unfolding force_below
below_step n down k l =
    let e : n - k ≡ suc (n - suc k) = omega arith in
    let z : down (k + 0) ≡ down k = ap down (omega arith) in
    let c = sum_to_cong (λ i. down (k + suc i)) (λ i. down (suc k + i)) (n - suc k) (λ i _. ap down (omega arith)) in
    rw e (omega (arith, sum_to_first (λ j. down (k + j)) (n - suc k)))

pub moment_above_step : (up : ℕ → ℕ) (k : ℕ) → moment_above up (suc k) ≡ moment_above up k + force_above up k + force_above up (suc k)
unfolding moment_above force_above
moment_above_step up k =
    let f : ℕ → ℕ = λ i. up i * (2 * (suc k - i) - 1) in
    let h : ℕ → ℕ = λ i. up i * (2 * (k - i) - 1) in
    let twice : ℕ → ℕ = λ i. up i + up i in
    let s = sum_to_suc f k in
    let last = times_one (up k) (2 * (suc k - k) - 1) (omega arith) in
    let c = sum_to_cong f (λ i. h i + twice i) k (λ i l. plus_two (up i) (2 * (k - i) - 1) (2 * (suc k - i) - 1) (omega arith)) in
    let a = sum_to_add h twice k in
    let b = sum_to_add up up k in
    let t = sum_to_suc up k in
    omega arith

pub moment_below_step : (n : ℕ) (down : ℕ → ℕ) (k : ℕ) → k < n → moment_below n down k ≡ moment_below n down (suc k) + force_below n down k + force_below n down (suc k)
unfolding moment_below force_below
moment_below_step n down k l =
    let e : n - k ≡ suc (n - suc k) = omega arith in
    let f : ℕ → ℕ = λ j. down (k + j) * (2 * j + 1) in
    let h : ℕ → ℕ = λ j. down (suc k + j) * (2 * j + 1) in
    let d : ℕ → ℕ = λ j. down (suc k + j) in
    let first = sum_to_first f (n - suc k) in
    let z : down (k + 0) * (2 * 0 + 1) ≡ down k = times_one (down (k + 0)) (2 * 0 + 1) refl ∙ ap down (omega arith) in
    let c = sum_to_cong (λ j. f (suc j)) (λ j. h j + (d j + d j)) (n - suc k)
    (λ j _. ap (λ v. down v * (2 * suc j + 1)) (omega arith) ∙ plus_two (d j) (2 * j + 1) (2 * suc j + 1) (omega arith)) in
    let a = sum_to_add h (λ j. d j + d j) (n - suc k) in
    let b = sum_to_add d d (n - suc k) in
    let q : moment_below n down k ≡ sum_to f (suc (n - suc k)) = ap (sum_to f) e in
    let bs = below_step n down k l in
    omega arith

-- the moment changes by the difference of the forces above and below, at this level and at the next
pub moment_step : (n : ℕ) (up down : ℕ → ℕ) (k : ℕ) → k < n →
    moment_at n up down (suc k) + force_below n down k + force_below n down (suc k) ≡ moment_at n up down k + force_above up k + force_above up (suc k)
moment_step n up down k l = omega (arith, moment_above_step up k, moment_below_step n down k l)

-- the force above never falls with the level, and the force below never grows
above_mono : (up : ℕ → ℕ) (j d : ℕ) → force_above up j ≤ force_above up (j + d)
above_mono up j zero = let e : j + 0 ≡ j = omega arith in rw e (omega arith)
above_mono up j (suc d) = let e : j + suc d ≡ suc (j + d) = omega arith in let r = above_mono up j d in rw e (omega (arith, above_step up (j + d)))

below_anti : (n : ℕ) (down : ℕ → ℕ) (j d : ℕ) → j + d ≤ n → force_below n down (j + d) ≤ force_below n down j
below_anti n down j zero l = let e : j + 0 ≡ j = omega arith in rw e (omega arith)
below_anti n down j (suc d) l =
    let e : j + suc d ≡ suc (j + d) = omega arith in
    let lt : j + d < n = omega arith in
    let r = below_anti n down j d (omega arith) in
    rw e (omega (arith, below_step n down (j + d) lt))

pub above_le : (up : ℕ → ℕ) (j k : ℕ) → j ≤ k → force_above up j ≤ force_above up k
above_le up j k l = let e : j + (k - j) ≡ k = omega arith in rw e at (above_mono up j (k - j))

pub below_ge : (n : ℕ) (down : ℕ → ℕ) (j k : ℕ) → j ≤ k → k ≤ n → force_below n down k ≤ force_below n down j
below_ge n down j k l h = let e : j + (k - j) ≡ k = omega arith in let b : j + (k - j) ≤ n = omega arith in rw e at (below_anti n down j (k - j) b)
