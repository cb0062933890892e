-- A sum's products with the factors of a range, in order and in size.
use Rattle.std.proofs.Common.{◌≡◌, ℕ, suc, ◌*◌, ◌^◌, ◌≤◌, Bool, true, false, cond, ℤ, pos, negsuc, ◌+ℤ◌, nat_abs, ◌≤ℤ◌, refl, ap, ◌∙◌, sym, subst, mul-le-mul_right, mul-le-mul, arith, to_z-of_z, w64, SFits, to_z, of_z}
use lib.Signed.{lt_z}
use Rattle.sheet.proofs.Sums.{halves}
use borrow.Author.Differences.{ints}
use Rattle.std.proofs.lemmas.Int.{clamps}
use Rattle.loads.specs.Factors.{Range}
use Rattle.questions.specs.Extremes.{times}
use Rattle.questions.specs.Products.{least, greatest, Small}

pub product_fits : (k : ℕ) (s : ℤ) → k ≤ 1000 → nat_abs s ≤ 2 ^ 37 → SFits w64 (times k s)
product_fits k s h l = let a = halves s (2 ^ 37) l in omega (arith, ints, mul-le-mul h a.0, mul-le-mul h a.1)

sized : (k : ℕ) (s : ℤ) → k ≤ 1000 → nat_abs s ≤ 2 ^ 37 → nat_abs (times k s) ≤ 1000 * 2 ^ 37
sized k s h l = let a = halves s (2 ^ 37) l in omega (arith, ints, mul-le-mul h a.0, mul-le-mul h a.1)

module _ (r : ℕ × ℕ) (s : ℤ) where
  pub least_below : (k : ℕ) → r.0 ≤ k → k ≤ r.1 → least r s ≤ℤ times k s
  least_below k a b = go s refl
    where
      go : (z : ℤ) → s ≡ z → least r z ≤ℤ times k z
      go (pos n) e = omega (arith, ints, clamps, mul-le-mul_right n a, mul-le-mul_right n b)
      go (negsuc n) e = omega (arith, ints, clamps, mul-le-mul_right (suc n) a, mul-le-mul_right (suc n) b)

  pub greatest_above : (k : ℕ) → r.0 ≤ k → k ≤ r.1 → times k s ≤ℤ greatest r s
  greatest_above k a b = go s refl
    where
      go : (z : ℤ) → s ≡ z → times k z ≤ℤ greatest r z
      go (pos n) e = omega (arith, ints, clamps, mul-le-mul_right n a, mul-le-mul_right n b)
      go (negsuc n) e = omega (arith, ints, clamps, mul-le-mul_right (suc n) a, mul-le-mul_right (suc n) b)

  -- the factors that give them
  abbrev pub low_factor : ℕ
  low_factor = cond (lt_z (times r.1 s) (times r.0 s)) r.1 r.0

  abbrev pub high_factor : ℕ
  high_factor = cond (lt_z (times r.1 s) (times r.0 s)) r.0 r.1

  through : (b : Bool) (m n : ℕ) → times (cond b m n) s ≡ cond b (times m s) (times n s)
  through true m n = refl
  through false m n = refl

  pub low_factor_meets : times low_factor s ≡ least r s
  low_factor_meets = through (lt_z (times r.1 s) (times r.0 s)) r.1 r.0

  pub high_factor_meets : times high_factor s ≡ greatest r s
  high_factor_meets = through (lt_z (times r.1 s) (times r.0 s)) r.0 r.1

  within : (b : Bool) (lo hi : ℕ) → lo ≤ hi → ((lo ≤ cond b hi lo) × (cond b hi lo ≤ hi)) × ((lo ≤ cond b lo hi) × (cond b lo hi ≤ hi))
  within true lo hi h = ((omega arith, omega arith), (omega arith, omega arith))
  within false lo hi h = ((omega arith, omega arith), (omega arith, omega arith))

  module _ (lawful : Range r) where
    pub low-factor-within : (r.0 ≤ low_factor) × (low_factor ≤ r.1)
    low-factor-within = (within (lt_z (times r.1 s) (times r.0 s)) r.0 r.1 lawful.0).0

    pub high-factor-within : (r.0 ≤ high_factor) × (high_factor ≤ r.1)
    high-factor-within = (within (lt_z (times r.1 s) (times r.0 s)) r.0 r.1 lawful.0).1

    module _ (small : nat_abs s ≤ 2 ^ 37) where
      pub least-small : nat_abs (least r s) ≤ 1000 * 2 ^ 37
      least-small = subst (λ (z : ℤ). nat_abs z ≤ 1000 * 2 ^ 37) low_factor_meets (sized low_factor s (native.Mathlib.Nat.le_trans low-factor-within.1 lawful.1) small)

      pub greatest-small : nat_abs (greatest r s) ≤ 1000 * 2 ^ 37
      greatest-small = subst (λ (z : ℤ). nat_abs z ≤ 1000 * 2 ^ 37) high_factor_meets (sized high_factor s (native.Mathlib.Nat.le_trans high-factor-within.1 lawful.1) small)

pub at_most : (r : ℕ × ℕ) → Range r → (r.0 ≤ 1000) × (r.1 ≤ 1000)
at_most r l = (native.Mathlib.Nat.le_trans l.0 l.1, l.1)

-- four products added as the code adds them, each through the bits of 64
abbrev pub bits : ℤ → ℤ
bits z = to_z w64 (of_z w64 z)

pub small_bits : (x : ℤ) → Small x → bits x ≡ x
small_bits x h = let k = halves x (1000 * 2 ^ 37) h in to_z-of_z {w = w64} (omega (arith, ints))

module _ (a b c d : ℤ) (p : Small a) (q : Small b) (r : Small c) (s : Small d) where
  two : SFits w64 (a +ℤ b)
  two = let h = halves a (1000 * 2 ^ 37) p in let k = halves b (1000 * 2 ^ 37) q in omega (arith, ints)

  three : SFits w64 (a +ℤ b +ℤ c)
  three = let h = halves a (1000 * 2 ^ 37) p in let k = halves b (1000 * 2 ^ 37) q in let l = halves c (1000 * 2 ^ 37) r in omega (arith, ints)

  four : SFits w64 (a +ℤ b +ℤ c +ℤ d)
  four =
      let h = halves a (1000 * 2 ^ 37) p in
      let k = halves b (1000 * 2 ^ 37) q in
      let l = halves c (1000 * 2 ^ 37) r in
      let m = halves d (1000 * 2 ^ 37) s in
      omega (arith, ints)

  three_is : bits (bits a +ℤ bits b) +ℤ bits c ≡ a +ℤ b +ℤ c
  three_is = (λ i. bits (small_bits a p i +ℤ small_bits b q i) +ℤ small_bits c r i) ∙ ap (λ (z : ℤ). z +ℤ c) (to_z-of_z two)

  four_is : bits (bits (bits a +ℤ bits b) +ℤ bits c) +ℤ bits d ≡ a +ℤ b +ℤ c +ℤ d
  four_is = (λ i. bits (three_is i) +ℤ small_bits d s i) ∙ ap (λ (z : ℤ). z +ℤ d) (to_z-of_z three)

  pub four_back : bits (bits (bits (bits a +ℤ bits b) +ℤ bits c) +ℤ bits d) ≡ a +ℤ b +ℤ c +ℤ d
  four_back = ap bits four_is ∙ to_z-of_z four

  pub three_fits : SFits w64 (bits (bits a +ℤ bits b) +ℤ bits c)
  three_fits = subst (SFits w64) (sym three_is) three

  pub four_fits : SFits w64 (bits (bits (bits a +ℤ bits b) +ℤ bits c) +ℤ bits d)
  four_fits = subst (SFits w64) (sym four_is) four

pub sum_bits : (z : ℤ) → nat_abs z ≤ 2 ^ 37 → bits z ≡ z
sum_bits z h = let k = halves z (2 ^ 37) h in to_z-of_z {w = w64} (omega (arith, ints))
