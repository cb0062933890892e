-- Laws of sums over the first n strips.
use Rattle.std.specs.Prelude.{◌≡◌, ℕ, zero, suc, ◌+◌, ◌-◌, ◌*◌, ◌<◌, ◌≤◌, ◌⊎◌, refl}
use Rattle.std.proofs.Common.{inl, inr, arith}
use Rattle.std.proofs.Math.Decide.{dec_le}
use Rattle.section.specs.Strips.{sum_to}

pub sum_to_suc : (f : ℕ → ℕ) (n : ℕ) → sum_to f (suc n) ≡ sum_to f n + f n
unfolding sum_to
sum_to_suc f n = refl

pub sum_to_zero : (f : ℕ → ℕ) → sum_to f 0 ≡ 0
unfolding sum_to
sum_to_zero f = refl

pub sum_to_cong : (f h : ℕ → ℕ) (n : ℕ) → ((i : ℕ) → i < n → f i ≡ h i) → sum_to f n ≡ sum_to h n
unfolding sum_to
sum_to_cong f h zero e = refl
sum_to_cong f h (suc n) e = let r = sum_to_cong f h n (λ i l. e i (omega arith)) in let s = e n (omega arith) in omega arith

pub sum_to_add : (f h : ℕ → ℕ) (n : ℕ) → sum_to (λ i. f i + h i) n ≡ sum_to f n + sum_to h n
unfolding sum_to
sum_to_add f h zero = refl
sum_to_add f h (suc n) = let r = sum_to_add f h n in omega arith

-- a first strip less
pub sum_to_first : (f : ℕ → ℕ) (n : ℕ) → sum_to f (suc n) ≡ f 0 + sum_to (λ i. f (suc i)) n
unfolding sum_to
sum_to_first f zero = omega arith
sum_to_first f (suc n) = let r = sum_to_first f n in omega arith

pub sum_to_le : (f h : ℕ → ℕ) (n : ℕ) → ((i : ℕ) → i < n → f i ≤ h i) → sum_to f n ≤ sum_to h n
unfolding sum_to
sum_to_le f h zero e = omega arith
sum_to_le f h (suc n) e = let r = sum_to_le f h n (λ i l. e i (omega arith)) in let s = e n (omega arith) in omega arith

-- a sum in two
pub sum_to_split : (f : ℕ → ℕ) (k m : ℕ) → sum_to f (k + m) ≡ sum_to f k + sum_to (λ j. f (k + j)) m
sum_to_split f k zero = let e : k + 0 ≡ k = omega arith in rw (e, sum_to_zero) (omega arith)
sum_to_split f k (suc m) =
    let e : k + suc m ≡ suc (k + m) = omega arith in
    let r = sum_to_split f k m in
    rw e (omega (arith, sum_to_suc f (k + m), sum_to_suc (λ j. f (k + j)) m))

pub sum_to-times : (f : ℕ → ℕ) (c n : ℕ) → sum_to (λ i. f i * c) n ≡ sum_to f n * c
unfolding sum_to
sum_to-times f c zero = omega arith
sum_to-times f c (suc n) = let r = sum_to-times f c n in omega arith

pub le_or_lt : (k j : ℕ) → (k ≤ j) ⊎ (j < k)
le_or_lt k j = elim (dec_le k j) [ yes p ↦ inl p | no q ↦ inr (omega arith) ]

pub zeros : (f : ℕ → ℕ) (n : ℕ) → ((i : ℕ) → i < n → f i ≡ 0) → sum_to f n ≡ 0
unfolding sum_to
zeros f zero e = refl
zeros f (suc n) e = let r = zeros f n (λ i l. e i (omega arith)) in let s = e n (omega arith) in omega arith

pub sum_to_past : (f : ℕ → ℕ) (m n : ℕ) → m ≤ n → ((i : ℕ) → m ≤ i → f i ≡ 0) → sum_to f n ≡ sum_to f m
sum_to_past f m n l e =
    let q : m + (n - m) ≡ n = omega arith in
    let s = rw q at (sum_to_split f m (n - m)) in
    let z = zeros (λ j. f (m + j)) (n - m) (λ j _. e (m + j) (omega arith)) in
    omega arith

pub sum_to_mono : (f : ℕ → ℕ) (m n : ℕ) → m ≤ n → sum_to f m ≤ sum_to f n
sum_to_mono f m n l = let q : m + (n - m) ≡ n = omega arith in let s = rw q at (sum_to_split f m (n - m)) in omega arith
