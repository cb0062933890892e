-- The least number of studs, and the levels above and below which all strips are.
use Rattle.std.proofs.Common.{◌≡◌, ℕ, zero, suc, ◌+◌, ◌*◌, ◌/◌, ◌%◌, ◌<◌, ◌≤◌, min, ◌⊎◌, sym, refl, ap, subst, inl, inr, mod-lt, mul-le-mul_left, div-add-mod', arith}
use Rattle.std.proofs.lemmas.Bool.{cases_lt}
use Rattle.section.specs.Strips.{sum_to, force_above, force_below}
use Rattle.section.specs.Sums.{sum_to_cong}
use Rattle.questions.specs.Studs.{IsCount}

-- a quotient rounded up is the least multiplier that reaches
rounded_up : (x y n : ℕ) → 0 < y → n ≡ x / y + min 1 (x % y) → (x ≤ y * n) × ((m : ℕ) → x ≤ y * m → n ≤ m)
rounded_up x y n h e = go (x % y) refl
  where
    q : ℕ
    q = x / y

    whole : x / y * y + x % y ≡ x
    whole = div-add-mod' x y

    less : x % y < y
    less = mod-lt x h

    go : (r : ℕ) → x % y ≡ r → (x ≤ y * n) × ((m : ℕ) → x ≤ y * m → n ≤ m)
    go zero z =
        let is : n ≡ x / y = omega arith in (
          subst (λ (k : ℕ). x ≤ y * k) (sym is) (omega (arith, whole)),
          λ m l. at_least m (cases_lt m n) (λ k. let p = mul-le-mul_left y (let g : m + 1 ≤ x / y = omega arith in g) in omega (arith, whole)),
        )
      where
        at_least : (m : ℕ) → (m < n) ⊎ (n ≤ m) → (m < n → ⊥) → n ≤ m
        at_least m (inl k) f = absurd (f k)
        at_least m (inr k) f = k
    go (suc r) z =
        let is : n ≡ x / y + 1 = omega arith in (
          subst (λ (k : ℕ). x ≤ y * k) (sym is) (omega (arith, whole, less)),
          λ m l. at_least m (cases_lt m n) (λ k. let p = mul-le-mul_left y (let g : m ≤ x / y = omega arith in g) in omega (arith, whole)),
        )
      where
        at_least : (m : ℕ) → (m < n) ⊎ (n ≤ m) → (m < n → ⊥) → n ≤ m
        at_least m (inl k) f = absurd (f k)
        at_least m (inr k) f = k

pub is_count : (q p n : ℕ) → 1 ≤ q → n ≡ 100 * p / (85 * q * 256) + min 1 (100 * p % (85 * q * 256)) → IsCount q p n
is_count q p n h e = let r = rounded_up (100 * p) (85 * q * 256) n (omega arith) e in record { enough = r.0; least = r.1 }

-- all strips are above the lowest level, and below level 0
pub all_above : (f : ℕ → ℕ) → force_above f 4096 ≡ sum_to f 4096
unfolding force_above
all_above f = refl

pub all_below : (f : ℕ → ℕ) → force_below 4096 f 0 ≡ sum_to f 4096
unfolding force_below
all_below f = sum_to_cong (λ j. f (0 + j)) f 4096 (λ j _. ap f (let z : 0 + j ≡ j = omega arith in z))
