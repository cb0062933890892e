-- A whole number of sixteenths as a float. Assumes nothing.
use Rattle.std.proofs.Common.{◌≡◌, ℕ, suc, ◌*◌, ◌/◌, ◌%◌, ◌^◌, ◌<◌, ◌≤◌, Bool, true, false, cond, not, ltb, ◌⊎◌, ℤ, pos, negsuc, nat_abs, Ok, Err, sym, refl, ap, ◌∙◌, subst, inl, inr, lt_of_lt_of_le, mul-le-mul_right, zero-lt-suc, mul_comm, mul-lt-mul_of_pos_right, mul-pos, mul-div_cancel, arith, lit≤, pow_mono, pow-add, shl_lt, le-ltb, lt-ltb, eq-eqb}
use native.Mathlib.Nat.{mul-mod_left}
use lib.Signed.{non_neg}
use Rattle.std.proofs.lemmas.Bool.{cases_lt}
use lib.Ieee.{Float, nan, inf, fin, binary64, up, down, round, div, of_int}
use lib.Ieee.Fits.{down_pos}
use lib.Ieee.Exact.{HasValue, round_exact}
use lib.Ieee.Scale.{round_same}
use lib.Ieee.Back.{round_whole}
use Rattle.faults.specs.declared.value.ValueFault.TheVariants.{OutOfRange}
use Rattle.loads.specs.Values.{signed, judged_fraction, judged, IsSixteenths, judged_sixteenths}
use Rattle.loads.proofs.Sixteenths.{sixteen, sixteen_is, unlike_plus}

abbrev negative : ℤ → Bool
negative z = not (non_neg z)

-- ---- the whole number as a float
as_float : (z : ℤ) → nat_abs z ≤ 2147483648 → HasValue (of_int binary64 z) (negative z) (nat_abs z) 1
unfolding of_int
as_float (pos n) h = round_whole binary64 false n (omega arith)
as_float (negsuc n) h = round_whole binary64 true (suc n) (omega arith)

-- ---- its sixteenth is exact
exact : (s : Bool) (a : ℕ) → a ≤ 2147483648 → HasValue (round binary64 s a 16) s a 16
exact s a h =
    round_exact binary64 s a 16 a 1070 (zero-lt-suc 15) (omega arith)
    (lt_of_lt_of_le (shl_lt 32 1070 (omega arith)) (pow_mono {i = 1102} {j = 2098} (lit≤ tt)))
    (ap (λ (x : ℕ). a * x) (pow-add 2 1070 4) ∙ sym (native.Mathlib.Nat.mul_assoc a (2 ^ 1070) (2 ^ 4)))

quotient : (x : Float) (s : Bool) (a : ℕ) → HasValue x s a 1 → div binary64 x (fin false 1 (pos 4)) ≡ round binary64 s a 16
unfolding div
quotient nan s a v = absurd v
quotient (inf t) s a v = absurd v
quotient (fin t m e) s a v =
    ap (λ (u : Bool). round binary64 u (m * up e * 1) (16 * down e)) (unlike_plus t ∙ v.0)
    ∙ round_same binary64 s (m * up e * 1) (16 * down e) a 16 (mul-pos (zero-lt-suc 15) (down_pos e)) (zero-lt-suc 15) (omega (arith, v.1))

sixteenth : (z : ℤ) → nat_abs z ≤ 2147483648 → HasValue (div binary64 (of_int binary64 z) sixteen) (negative z) (nat_abs z) 16
sixteenth z h =
    subst (λ (y : Float). HasValue (div binary64 (of_int binary64 z) y) (negative z) (nat_abs z) 16) (sym sixteen_is)
    (subst (λ (y : Float). HasValue y (negative z) (nat_abs z) 16) (sym (quotient (of_int binary64 z) (negative z) (nat_abs z) (as_float z h))) (exact (negative z) (nat_abs z) h))

is_from : (z : ℤ) (x : Float) → HasValue x (negative z) (nat_abs z) 16 → IsSixteenths z x
is_from z nan v = v
is_from z (inf s) v = v
is_from z (fin s m e) v = (v.0, mul_comm 16 (m * up e) ∙ v.1)

pub is_sixteenths : (z : ℤ) → nat_abs z ≤ 2147483648 → IsSixteenths z (div binary64 (of_int binary64 z) sixteen)
is_sixteenths z h = is_from z _ (sixteenth z h)

-- ---- and back
resigned : (z : ℤ) → signed (negative z) (nat_abs z) ≡ z
resigned (pos n) = refl
resigned (negsuc n) = refl

settled : (s : Bool) (a d n : ℕ) → 0 < d → 16 * a ≡ n * d → judged_fraction s a d ≡ cond (ltb 2097152 n) (Err OutOfRange) (Ok (signed s n))
settled s a d n D e = go (cases_lt 2097152 n)
  where
    go : (2097152 < n) ⊎ (n ≤ 2097152) → judged_fraction s a d ≡ cond (ltb 2097152 n) (Err OutOfRange) (Ok (signed s n))
    go (inl N) = rw (lt-ltb (131072 * d) a (omega (arith, mul-lt-mul_of_pos_right N D)), lt-ltb 2097152 n N) refl
    go (inr N) =
        let r : 16 * a % d ≡ 0 = ap (λ (x : ℕ). x % d) e ∙ mul-mod_left n d in
        let q : 16 * a / d ≡ n = ap (λ (x : ℕ). x / d) e ∙ mul-div_cancel n D in
        rw (le-ltb (131072 * d) a (omega (arith, mul-le-mul_right d N)), eq-eqb (16 * a % d) 0 r, le-ltb 2097152 n N) (ap (λ (x : ℕ). Ok (signed s x)) q)

pub round_trip : (z : ℤ) (x : Float) → IsSixteenths z x → judged x ≡ judged_sixteenths z
round_trip z nan v = absurd v
round_trip z (inf s) v = absurd v
round_trip z (fin s m e) v =
    settled s (m * up e) (down e) (nat_abs z) (down_pos e) v.1
    ∙ ap (λ (u : ℤ). cond (ltb 2097152 (nat_abs z)) (Err OutOfRange) (Ok u)) (ap (λ (u : Bool). signed u (nat_abs z)) v.0 ∙ resigned z)
