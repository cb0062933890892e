-- `judged` says what it should. Assumes nothing.
use Rattle.std.proofs.Common.{◌≡◌, ℕ, zero, suc, ◌+◌, ◌*◌, ◌/◌, ◌%◌, ◌<◌, ◌≤◌, Bool, true, false, cond, eqb, ltb, ℤ, nat_abs, Ok, Err, Result, sym, refl, ap, ◌∙◌, subst, div-add-mod', arith, ltb-false, ltb-true, eqb-true}
use native.Mathlib.Nat.{mul-mod_left}
use Rattle.std.proofs.lemmas.Bool.{eqb-false}
use lib.Ieee.{Float, nan, inf, fin, up, down}
use Rattle.faults.specs.declared.value.ValueFault.{ValueFault}
use Rattle.faults.specs.declared.value.ValueFault.TheVariants.{OutOfRange, NotSixteenths}
use Rattle.loads.specs.Values.{signed, judged_fraction, judged, Judges}

size : (s : Bool) (n : ℕ) → nat_abs (signed s n) ≡ n
size true zero = refl
size true (suc n) = refl
size false n = refl

whole : (a d n : ℕ) → n * d + a % d ≡ a → a % d ≡ 0 → a ≡ n * d
whole a d n e z = omega arith

says : (s : Bool) (m : ℕ) (e : ℤ) → Judges (fin s m e) (judged_fraction s (m * up e) (down e))
says s m e = go (ltb (131072 * d) a) (eqb (16 * a % d) 0) (ltb-true (131072 * d) a) (ltb-false (131072 * d) a) (eqb-true (16 * a % d) 0) (eqb-false (16 * a % d) 0)
  where
    a : ℕ
    a = m * up e

    d : ℕ
    d = down e

    go : (p q : Bool) → (p ≡ true → 131072 * down e < m * up e) → (p ≡ false → m * up e ≤ 131072 * down e) → (q ≡ true → 16 * (m * up e) % down e ≡ 0) → (q ≡ false → 16 * (m * up e) % down e ≡ 0 → ⊥)
        → Judges (fin s m e) (cond p (Err OutOfRange) (cond q (Ok (signed s (16 * (m * up e) / down e))) (Err NotSixteenths)))
    go true q h k i j = h refl
    go false true h k i j =
        let n = 16 * (m * up e) / down e in
        (k refl, ap (signed s) (sym (size s n)), whole (16 * (m * up e)) (down e) n (div-add-mod' (16 * (m * up e)) (down e)) (i refl) ∙ ap (λ (x : ℕ). x * down e) (sym (size s n)))
    go false false h k i j = (k refl, λ n g. j refl (ap (λ (x : ℕ). x % down e) g ∙ mul-mod_left n (down e)))

pub judged_means : (x : Float) (r : Result ℤ ValueFault) → r ≡ judged x → Judges x r
judged_means nan r e = e
judged_means (inf s) r e = e
judged_means (fin s m e) r h = subst (λ (z : Result ℤ ValueFault). Judges (fin s m e) z) (sym h) (says s m e)
