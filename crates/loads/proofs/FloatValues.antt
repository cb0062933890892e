-- What a finite float's operations do, over `HasValue x s a c`: x is finite, has the sign s, and is a / c in size. Assumes nothing.
use Rattle.std.proofs.Common.{◌≡◌, ℕ, zero, suc, ◌+◌, ◌-◌, ◌*◌, ◌/◌, ◌%◌, ◌^◌, ◌<◌, ◌≤◌, min, Bool, true, false, cond, ◌&&◌, ◌||◌, T, eqb, ltb, leb, ◌⊎◌, ℤ, pos, negsuc, neg_ℤ, sym, refl, ap, ◌∙◌, subst, inl, inr, le_of_eq, le_of_suc-le-suc, lt_of_le_of_lt, mul-le-mul_right, zero-lt-suc, mul-pos, lt_of_not-le, mul-one, not-le_of_lt, le_of_mul-le-mul_right, arith, ltb→lt, leb→le, pow_pos, pow-add, eq-eqb, eqb-true}
use Rattle.std.proofs.lemmas.Bool.{and_parts}
use mathlib.Core.Bool.{beq}
use native.Mathlib.Nat.{eq_of_mul-eq-mul_right}
use lib.Pow.{pow-lt}
use lib.Ieee.{Float, nan, inf, fin, Format, prec, emax, low, up, down, level, round, eq, of_int, to_signed, fits}
use lib.Ieee.Fits.{down_pos, and_l, and_r}
use lib.Ieee.Exact.{HasValue, round_exact}
use lib.Ieee.Nearest.{div_same}
use lib.Ieee.Back.{round_whole}
use Rattle.loads.specs.Values.{signed}

-- ---- a test of a Boolean
beq_refl : (s : Bool) → beq s s ≡ true
beq_refl true = refl
beq_refl false = refl

-- ---- what a format says of its values
pow_back : (i j : ℕ) → 2 ^ i ≤ 2 ^ j → i ≤ j
pow_back i j h = le_of_suc-le-suc (lt_of_not-le (λ (g : suc j ≤ i). not-le_of_lt (pow-lt g) h))

pub digits_lt : (f : Format) (s : Bool) (m : ℕ) (e : ℤ) → T (fits f (fin s m e)) → m < 2 ^ prec f
unfolding fits
digits_lt f s zero e t = pow_pos (prec f)
digits_lt f s (suc m) e t =
    ltb→lt (suc m) (2 ^ prec f)
    (and_r (eqb (suc m % 2) 1) (ltb (suc m) (2 ^ prec f))
    (and_l (eqb (suc m % 2) 1 && ltb (suc m) (2 ^ prec f)) (leb (down e) (2 ^ low f))
    (and_l (eqb (suc m % 2) 1 && ltb (suc m) (2 ^ prec f) && leb (down e) (2 ^ low f)) (ltb (suc m * up e) (2 ^ suc (emax f) * down e)) t)))

one_le_pow : (k : ℕ) → 1 ≤ 2 ^ k
one_le_pow k = pow_pos k

flat : (f : Format) (k : ℕ) → 1 * 2 ^ suc k ≡ 1 → 2 ^ suc k ≤ 2 ^ low f
flat f k h = omega (arith, one_le_pow (low f))

pub places_le : (f : Format) (s : Bool) (m k : ℕ) → T (fits f (fin s m (negsuc k))) → suc k ≤ low f
unfolding fits
places_le f s zero k t = pow_back (suc k) (low f) (flat f k (eqb-true _ _ (lift (eqb (1 * 2 ^ suc k) 1) t)))
  where
    lift : (b : Bool) → T b → b ≡ true
    lift true t = refl
    lift false t = absurd t
places_le f s (suc m) k t =
    pow_back (suc k) (low f) (leb→le (2 ^ suc k) (2 ^ low f)
    (and_r (eqb (suc m % 2) 1 && ltb (suc m) (2 ^ prec f)) (leb (2 ^ suc k) (2 ^ low f))
    (and_l (eqb (suc m % 2) 1 && ltb (suc m) (2 ^ prec f) && leb (2 ^ suc k) (2 ^ low f)) (ltb (suc m * 1) (2 ^ suc (emax f) * 2 ^ suc k)) t)))

-- ---- a multiple by a power of two is exact, where it stays in range
module _ (f : Format) (s : Bool) (t : ℕ) where
  -- m * 2 ^ j units, where that is the fraction a / d, is exact when a / d ≤ 2 ^ b
  small : (m j a d b : ℕ) → 0 < d → m < 2 ^ prec f → a ≤ 2 ^ b * d → b ≤ emax f → a * 2 ^ low f ≡ m * 2 ^ j * d → HasValue (round f s a d) s a d
  small m j a d b D M A B e =
      round_exact f s a d m j D M
      (lt_of_le_of_lt {m = 2 ^ b * 2 ^ low f} (le_of_mul-le-mul_right {k = d} (omega (arith, mul-le-mul_right (2 ^ low f) A)) D)
      (lt_of_le_of_lt (le_of_eq (sym (pow-add 2 b (low f)))) (pow-lt (omega arith)))) e

  again : (m k : ℕ) → m * 2 ^ k * 2 ^ t * 2 ^ low f ≡ m * 2 ^ (k + t + low f) * 1
  again m k = omega (arith, ap (λ (x : ℕ). m * x) (pow-add 2 (k + t) (low f) ∙ ap (λ (x : ℕ). x * 2 ^ low f) (pow-add 2 k t)))

  under : (m k : ℕ) → k ≤ low f → m * 2 ^ t * 2 ^ low f ≡ m * 2 ^ (t + (low f - k)) * 2 ^ k
  under m k h =
      let e : low f - k + k ≡ low f = omega arith in
      omega (arith, ap (λ (x : ℕ). m * x) (ap (λ (x : ℕ). 2 ^ t * 2 ^ x) (sym e) ∙ ap (λ (x : ℕ). 2 ^ t * x) (pow-add 2 (low f - k) k)), ap (λ (x : ℕ). m * x * 2 ^ k) (pow-add 2 t (low f - k)))

  pub scaled : (m : ℕ) (e : ℤ) (b : ℕ) → m < 2 ^ prec f → T (fits f (fin s m e)) → m * up e * 2 ^ t ≤ 2 ^ b * down e → b ≤ emax f → HasValue (round f s (m * up e * 2 ^ t) (down e)) s (m * up e * 2 ^ t) (down e)
  scaled m (pos k) b M F A B = small m (k + t + low f) (m * 2 ^ k * 2 ^ t) 1 b (zero-lt-suc 0) M A B (again m k)
  scaled m (negsuc k) b M F A B =
      small m (t + (low f - suc k)) (m * 1 * 2 ^ t) (2 ^ suc k) b (pow_pos (suc k)) M A B (ap (λ (x : ℕ). x * 2 ^ t * 2 ^ low f) (mul-one m) ∙ under m (suc k) (places_le f s m k F))

-- ---- a value cut to a whole number
below_end : (s : Bool) (v n h : ℕ) → v ≡ n → n < 2 ^ h → cond s (neg_ℤ (pos (min v (2 ^ h)))) (pos (min v (2 ^ h - 1))) ≡ signed s n
below_end true v n h e l = ap (λ (x : ℕ). neg_ℤ (pos x)) (let g : min v (2 ^ h) ≡ n = omega arith in g)
below_end false v n h e l = ap pos (let g : min v (2 ^ h - 1) ≡ n = omega arith in g)

pub cut : (h : ℕ) (y : Float) (s : Bool) (a d : ℕ) → 0 < d → HasValue y s a d → a / d < 2 ^ h → to_signed h y ≡ signed s (a / d)
unfolding to_signed
cut h nan s a d D v l = absurd v
cut h (inf t) s a d D v l = absurd v
cut h (fin t m e) s a d D v l =
    subst (λ (u : Bool). cond u (neg_ℤ (pos (min (m * up e / down e) (2 ^ h)))) (pos (min (m * up e / down e) (2 ^ h - 1))) ≡ signed s (a / d)) (sym v.0)
    (below_end s (m * up e / down e) (a / d) h (div_same (m * up e) (down e) a d (down_pos e) D v.1) l)

-- ---- two values compared
module _ (m : ℕ) (e : ℤ) (n : ℕ) (g : ℤ) (a c b d : ℕ) (C : 0 < c) (D : 0 < d) (p : m * up e * c ≡ a * down e) (q : n * up g * d ≡ b * down g) where
  same_out : m * up e * down g ≡ n * up g * down e → a * d ≡ b * c
  same_out h =
      eq_of_mul-eq-mul_right (down e * down g) (mul-pos (down_pos e) (down_pos g)) (a * d) (b * c)
      (omega (arith, ap (λ (z : ℕ). z * (c * d)) h, ap (λ (z : ℕ). z * (down g * d)) p, ap (λ (z : ℕ). z * (down e * c)) q))

  same_in : a * d ≡ b * c → m * up e * down g ≡ n * up g * down e
  same_in h =
      eq_of_mul-eq-mul_right (c * d) (mul-pos C D) (m * up e * down g) (n * up g * down e)
      (omega (arith, ap (λ (z : ℕ). z * (down e * down g)) h, ap (λ (z : ℕ). z * (down g * d)) p, ap (λ (z : ℕ). z * (down e * c)) q))

pub eq_out : (x y : Float) (s t : Bool) (a c b d : ℕ) → 0 < c → 0 < d → HasValue x s a c → HasValue y t b d → eq x y ≡ true → a * d ≡ b * c
unfolding eq
eq_out nan y s t a c b d C D v w h = absurd v
eq_out (inf u) y s t a c b d C D v w h = absurd v
eq_out (fin u m e) nan s t a c b d C D v w h = absurd w
eq_out (fin u m e) (inf z) s t a c b d C D v w h = absurd w
eq_out (fin u m e) (fin z n g) s t a c b d C D v w h = same_out m e n g a c b d C D v.1 w.1 (eqb-true _ _ (and_parts _ _ h).0)

no_size : (m : ℕ) (e : ℤ) (c a : ℕ) → 0 < c → m * up e * c ≡ a * down e → a ≡ 0 → m * up e ≡ 0
no_size m e c a C p z = eq_of_mul-eq-mul_right c C (m * up e) 0 (omega (arith, ap (λ (x : ℕ). x * down e) z))

levels : (u z : Bool) (A B : ℕ) → A ≡ B → (u ≡ z) ⊎ (A ≡ 0) → level u A z B ≡ true
levels u z A B h (inl k) = rw (eq-eqb A B h) (subst (λ (x : Bool). (beq u x || eqb A 0) ≡ true) k (rw (beq_refl u) refl))
levels true true A B h (inr k) = rw (eq-eqb A B h) refl
levels false false A B h (inr k) = rw (eq-eqb A B h) refl
levels true false A B h (inr k) = rw (eq-eqb A B h, eq-eqb A 0 k) refl
levels false true A B h (inr k) = rw (eq-eqb A B h, eq-eqb A 0 k) refl

pub eq_in : (x y : Float) (s t : Bool) (a c b d : ℕ) → 0 < c → 0 < d → HasValue x s a c → HasValue y t b d → (s ≡ t) ⊎ (a ≡ 0) → a * d ≡ b * c → eq x y ≡ true
unfolding eq
eq_in nan y s t a c b d C D v w o h = absurd v
eq_in (inf u) y s t a c b d C D v w o h = absurd v
eq_in (fin u m e) nan s t a c b d C D v w o h = absurd w
eq_in (fin u m e) (inf z) s t a c b d C D v w o h = absurd w
eq_in (fin u m e) (fin z n g) s t a c b d C D v w (inl k) h =
    levels u z _ _ (same_in m e n g a c b d C D v.1 w.1 h) (inl (v.0 ∙ k ∙ sym w.0))
eq_in (fin u m e) (fin z n g) s t a c b d C D v w (inr k) h =
    levels u z _ _ (same_in m e n g a c b d C D v.1 w.1 h) (inr (ap (λ (x : ℕ). x * down g) (no_size m e c a C v.1 k) ∙ native.Mathlib.Nat.zero-mul (down g)))

-- ---- a whole number as a float
pub of_signed : (f : Format) (s : Bool) (n : ℕ) → n ≤ 2 ^ prec f → (t : Bool) × HasValue (of_int f (signed s n)) t n 1 × ((t ≡ s) ⊎ (n ≡ 0))
unfolding of_int
of_signed f false n h = (false, round_whole f false n h, inl refl)
of_signed f true zero h = (false, round_whole f false 0 h, inr refl)
of_signed f true (suc n) h = (true, round_whole f true (suc n) h, inl refl)
