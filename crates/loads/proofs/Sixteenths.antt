-- What `sixteenths` answers at each float. Assumes nothing.
use Rattle.std.proofs.Common.{◌≡◌, ℕ, ◌+◌, ◌*◌, ◌/◌, ◌%◌, ◌<◌, ◌≤◌, Bool, true, false, ◌&&◌, ◌||◌, T, ltb, ℤ, pos, Ok, Err, sym, refl, ap, ◌∙◌, subst, inl, inr, zero-lt-suc, mul-one, arith, lit≤, ltb-false, ltb-true, le-ltb, lt-ltb, eq-eqb, ne_eqb, eqb-true}
use Rattle.std.proofs.lemmas.Bool.{eqb-false, or_cases, or_parts, false≢true}
use Rattle.std.proofs.Math.Bool.{and-true}
use lib.Ieee.{Float, nan, inf, fin, binary64, up, down, round, mul, eq, le, lt, neg, of_int, of_bits, to_signed, fits}
use lib.Ieee.Fits.{down_pos}
use lib.Ieee.Exact.{HasValue}
use Rattle.faults.specs.declared.value.ValueFault.TheVariants.{OutOfRange, NotSixteenths}
use Rattle.loads.specs.Values.{signed, judged_fraction, judged}
use Rattle.loads.proofs.FloatValues.{digits_lt, scaled, cut, eq_out, eq_in, of_signed}

-- ---- the literals
abbrev pub most : Float
most = of_bits binary64 0x4100_0000_0000_0000

abbrev pub sixteen : Float
sixteen = of_bits binary64 0x4030_0000_0000_0000

most_is : most ≡ fin false 1 (pos 17)
unfolding of_bits
most_is = refl

least_is : neg most ≡ fin true 1 (pos 17)
unfolding of_bits neg
least_is = refl

pub sixteen_is : sixteen ≡ fin false 1 (pos 4)
unfolding of_bits
sixteen_is = refl

-- ---- the range
le_yes : (a b : ℕ) (q : Bool) → (q ≡ true → a ≡ b) → (ltb a b || (q && true)) ≡ true → a ≤ b
le_yes a b q k h = elim (or_cases (ltb a b) (q && true) h) [ inl l ↦ omega (arith, ltb-true a b l) | inr z ↦ omega (arith, k (sym (and-true q) ∙ z)) ]

le_no : (a b : ℕ) (q : Bool) → (q ≡ false → a ≡ b → ⊥) → (ltb a b || (q && true)) ≡ false → b < a
le_no a b q k h =
    let r = or_parts (ltb a b) (q && true) h in
    let l : b ≤ a = ltb-false a b r.0 in
    let n : a ≡ b → ⊥ = k (sym (and-true q) ∙ r.1) in
    omega arith

abbrev Within : Float → Type 0
Within nan = ⊥
Within (inf s) = ⊥
Within (fin s m e) = m * up e ≤ 131072 * down e

within : (x : Float) → le (fin true 1 (pos 17)) x ≡ true → le x (fin false 1 (pos 17)) ≡ true → Within x
unfolding le
within nan h k = absurd (false≢true h)
within (inf true) h k = absurd (false≢true h)
within (inf false) h k = absurd (false≢true k)
within (fin true m e) h k = omega (arith, le_yes (m * up e * 1) (131072 * down e) _ (λ z. sym (eqb-true _ _ z)) h)
within (fin false m e) h k = omega (arith, le_yes (m * up e * 1) (131072 * down e) _ (eqb-true _ _) k)

past : (s : Bool) (a d : ℕ) → 131072 * d < a → Err OutOfRange ≡ judged_fraction s a d
past s a d h = rw (lt-ltb (131072 * d) a h) refl

some : (a d : ℕ) → 0 < d → (ltb 0 (131072 * d + a) || false) ≡ false → ⊥
some a d D h = omega (arith, ltb-false _ _ (or_parts (ltb 0 (131072 * d + a)) false h).0)

low : (x : Float) → le (fin true 1 (pos 17)) x ≡ false → Err OutOfRange ≡ judged x
unfolding le
low nan h = refl
low (inf s) h = refl
low (fin true m e) h = past true (m * up e) (down e) (omega (arith, le_no (m * up e * 1) (131072 * down e) _ (λ z k. eqb-false _ _ z (sym k)) h))
low (fin false m e) h = absurd (omega (arith, down_pos e, ltb-false _ _ (or_parts (ltb 0 (131072 * down e + m * up e * 1)) _ h).0))

high : (x : Float) → le x (fin false 1 (pos 17)) ≡ false → Err OutOfRange ≡ judged x
unfolding le
high nan h = refl
high (inf s) h = refl
high (fin true m e) h = absurd (omega (arith, down_pos e, ltb-false _ _ (or_parts (ltb 0 (m * up e * 1 + 131072 * down e)) _ h).0))
high (fin false m e) h = past false (m * up e) (down e) (omega (arith, le_no (m * up e * 1) (131072 * down e) _ (eqb-false _ _) h))

pub out_low : (x : Float) → le (neg most) x ≡ false → Err OutOfRange ≡ judged x
out_low x h = low x (subst (λ (z : Float). le z x ≡ false) least_is h)

pub out_high : (x : Float) → le x most ≡ false → Err OutOfRange ≡ judged x
out_high x h = high x (subst (λ (z : Float). le x z ≡ false) most_is h)

-- ---- in range: sixteen times the value is exact, cut to a whole number it is compared with itself
pub unlike_plus : (s : Bool) → lib.Ieee.unlike s false ≡ s
unlike_plus true = refl
unlike_plus false = refl

times_is : (s : Bool) (m : ℕ) (e : ℤ) → mul binary64 (fin s m e) (fin false 1 (pos 4)) ≡ round binary64 s (m * up e * 16) (down e)
unfolding mul
times_is s m e = ap (λ (u : Bool). round binary64 u (m * up e * 16) (down e * 1)) (unlike_plus s) ∙ ap (λ (d : ℕ). round binary64 s (m * up e * 16) d) (mul-one (down e))

product : (s : Bool) (m : ℕ) (e : ℤ) → T (fits binary64 (fin s m e)) → m * up e ≤ 131072 * down e → HasValue (mul binary64 (fin s m e) sixteen) s (16 * (m * up e)) (down e)
product s m e F h =
    subst (λ (z : Float). HasValue (mul binary64 (fin s m e) z) s (16 * (m * up e)) (down e)) (sym sixteen_is)
    (subst (λ (z : Float). HasValue z s (16 * (m * up e)) (down e)) (sym (times_is s m e))
    (subst (λ (a : ℕ). HasValue (round binary64 s (m * up e * 16) (down e)) s a (down e)) (native.Mathlib.Nat.mul_comm (m * up e) 16)
    (scaled binary64 s 4 m e 21 (digits_lt binary64 s m e F) F (omega arith) (lit≤ tt))))

module _ (s : Bool) (a d : ℕ) (D : 0 < d) (A : a ≤ 131072 * d) where
  few : 16 * a / d ≤ 2097152
  few = native.Mathlib.Nat.le_of_suc-le-suc ((native.Mathlib.Nat.div-lt_iff_lt-mul D).1 (omega arith))

  module _ (y : Float) (v : HasValue y s (16 * a) d) where
    n : ℤ
    n = signed s (16 * a / d)

    whole : to_signed 31 y ≡ signed s (16 * a / d)
    whole = cut 31 y s (16 * a) d D v (omega (arith, few))

    meets : eq (of_int binary64 (signed s (16 * a / d))) y ≡ true → 16 * a % d ≡ 0
    meets h =
        let k = of_signed binary64 s (16 * a / d) (omega (arith, few)) in
        omega (arith, eq_out (of_int binary64 (signed s (16 * a / d))) y k.0 s (16 * a / d) 1 (16 * a) d (zero-lt-suc 0) D k.1 v h, native.Mathlib.Nat.div-add-mod' (16 * a) d)

    differs : eq (of_int binary64 (signed s (16 * a / d))) y ≡ false → 16 * a % d ≡ 0 → ⊥
    differs h z =
        let k = of_signed binary64 s (16 * a / d) (omega (arith, few)) in
        false≢true (sym h ∙ eq_in (of_int binary64 (signed s (16 * a / d))) y k.0 s (16 * a / d) 1 (16 * a) d (zero-lt-suc 0) D k.1 v k.2 (omega (arith, native.Mathlib.Nat.div-add-mod' (16 * a) d)))

    taken : (r : ℤ) → r ≡ to_signed 31 y → eq (of_int binary64 r) y ≡ true → Ok r ≡ judged_fraction s a d
    taken r e h =
        rw (le-ltb (131072 * d) a A, eq-eqb (16 * a % d) 0 (meets (subst (λ (z : ℤ). eq (of_int binary64 z) y ≡ true) (e ∙ whole) h))) (ap Ok (e ∙ whole))

    left : (r : ℤ) → r ≡ to_signed 31 y → eq (of_int binary64 r) y ≡ false → Err NotSixteenths ≡ judged_fraction s a d
    left r e h =
        rw (le-ltb (131072 * d) a A, ne_eqb (16 * a % d) 0 (differs (subst (λ (z : ℤ). eq (of_int binary64 z) y ≡ false) (e ∙ whole) h))) refl

inside : (x : Float) → le (neg most) x ≡ true → le x most ≡ true → Within x
inside x h k = within x (subst (λ (z : Float). le z x ≡ true) least_is h) (subst (λ (z : Float). le x z ≡ true) most_is k)

module _ (r : ℤ) where
  taken_at : (x : Float) → T (fits binary64 x) → Within x → r ≡ to_signed 31 (mul binary64 x sixteen) → eq (of_int binary64 r) (mul binary64 x sixteen) ≡ true → Ok r ≡ judged x
  taken_at nan F w e t = absurd w
  taken_at (inf s) F w e t = absurd w
  taken_at (fin s m g) F w e t = taken s (m * up g) (down g) (down_pos g) w (mul binary64 (fin s m g) sixteen) (product s m g F w) r e t

  left_at : (x : Float) → T (fits binary64 x) → Within x → r ≡ to_signed 31 (mul binary64 x sixteen) → eq (of_int binary64 r) (mul binary64 x sixteen) ≡ false → Err NotSixteenths ≡ judged x
  left_at nan F w e t = absurd w
  left_at (inf s) F w e t = absurd w
  left_at (fin s m g) F w e t = left s (m * up g) (down g) (down_pos g) w (mul binary64 (fin s m g) sixteen) (product s m g F w) r e t

pub accepted : (x : Float) (r : ℤ) → T (fits binary64 x) → le (neg most) x ≡ true → le x most ≡ true → r ≡ to_signed 31 (mul binary64 x sixteen) → eq (of_int binary64 r) (mul binary64 x sixteen) ≡ true → Ok r ≡ judged x
accepted x r F h k e t = taken_at r x F (inside x h k) e t

pub refused : (x : Float) (r : ℤ) → T (fits binary64 x) → le (neg most) x ≡ true → le x most ≡ true → r ≡ to_signed 31 (mul binary64 x sixteen) → eq (of_int binary64 r) (mul binary64 x sixteen) ≡ false → Err NotSixteenths ≡ judged x
refused x r F h k e t = left_at r x F (inside x h k) e t
