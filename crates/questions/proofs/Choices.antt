-- The factored sum by load types, and the extremes from each type's least and greatest product.
use Rattle.std.proofs.Common.{◌≡◌, ℕ, ◌*◌, ◌<◌, ◌≤◌, max, Bool, true, false, cond, eqb, ◌⊎◌, List, [], ◌∷◌, ℤ, pos, ◌+ℤ◌, nat_abs, ◌≤ℤ◌, ◌<ℤ◌, Some, None, Option, sym, ap, ◌∙◌, subst, inl, inr, mul-le-mul_left, arith}
use lib.Signed.{lt_z}
use borrow.Author.Differences.{ints, sum_is_lem, le_out}
use Rattle.std.proofs.lemmas.Bool.{cases_lt}
use Rattle.loads.specs.declared.load_type.LoadType.{LoadType}
use Rattle.loads.specs.declared.load_type.LoadType.TheVariants.{Dc, Dw, Ll, Ws}
use Rattle.loads.specs.declared.kind.EffectKind.{EffectKind}
use Rattle.loads.specs.Factors.{index, range, Lawful}
use Rattle.loads.specs.Kinds.{same_kind}
use Rattle.sheet.specs.declared.row.Row.{Row}
use Rattle.sheet.specs.Totals.{adds, type_sum}
use Rattle.questions.specs.declared.answers.Extremes.{Extremes}
use Rattle.questions.specs.Extremes.{Choice, Chosen, times, factored_slot, factored, IsExtremes}
use Rattle.questions.specs.Products.{least, greatest}
use Rattle.questions.proofs.Products.{least_below, greatest_above, low_factor, high_factor, low_factor_meets, high_factor_meets, low-factor-within, high-factor-within}

-- the four load types added
abbrev pub four : (LoadType → ℤ) → ℤ
four f = f Dc +ℤ f Dw +ℤ f Ll +ℤ f Ws

four_ap : (f g : LoadType → ℤ) → ((t : LoadType) → f t ≡ g t) → four f ≡ four g
four_ap f g e = λ i. e Dc i +ℤ e Dw i +ℤ e Ll i +ℤ e Ws i

four_le : (f g : LoadType → ℤ) → ((t : LoadType) → f t ≤ℤ g t) → four f ≤ℤ four g
four_le f g h = let a = h Dc in let b = h Dw in let c = h Ll in let d = h Ws in omega (arith, ints)

times_add : (n : ℕ) (a b : ℤ) → times n (a +ℤ b) ≡ times n a +ℤ times n b
times_add n a b = omega (arith, ints, ap (λ (x : ℕ). n * x) (sum_is_lem a b))

times_le : (n : ℕ) (a b : ℤ) → a ≤ℤ b → times n a ≤ℤ times n b
times_le n a b h = omega (arith, ints, mul-le-mul_left n (le_out a b h))

-- a slot's share is one type's
slot_by_types : (c : Choice) (k : EffectKind) (o : Option Row) → factored_slot c k o ≡ four (λ t. times (c t) (adds t k o))
slot_by_types c k None = omega (arith, ints)
slot_by_types c k (Some r) = go r.load (same_kind r.kind k) r.sixteenths
  where
    go : (u : LoadType) (b : Bool) (z : ℤ) → cond b (times (c u) z) (pos 0) ≡ four (λ t. times (c t) (cond (eqb (index u) (index t)) (cond b z (pos 0)) (pos 0)))
    go Dc true z = omega (arith, ints)
    go Dw true z = omega (arith, ints)
    go Ll true z = omega (arith, ints)
    go Ws true z = omega (arith, ints)
    go Dc false z = omega (arith, ints)
    go Dw false z = omega (arith, ints)
    go Ll false z = omega (arith, ints)
    go Ws false z = omega (arith, ints)

four_add : (f g : LoadType → ℤ) → four (λ t. f t +ℤ g t) ≡ four f +ℤ four g
four_add f g = omega (arith, ints)

-- one factor for a type's rows is a factor for its sum
pub by_types : (c : Choice) (k : EffectKind) (rows : List (Option Row)) → factored c k rows ≡ four (λ t. times (c t) (type_sum t k rows))
by_types c k [] = omega (arith, ints)
by_types c k (o ∷ rows) =
    (λ i. slot_by_types c k o i +ℤ by_types c k rows i)
    ∙ sym (four_add (λ t. times (c t) (adds t k o)) (λ t. times (c t) (type_sum t k rows)))
    ∙ four_ap _ _ (λ t. sym (times_add (c t) (adds t k o) (type_sum t k rows)))

-- the extremes are the four types' least and greatest products added
pub extremes_are : (fs : List (ℕ × ℕ)) (k : EffectKind) (rows : List (Option Row)) → Lawful fs →
    IsExtremes fs k rows (record { low = four (λ t. least (range fs t) (type_sum t k rows)); high = four (λ t. greatest (range fs t) (type_sum t k rows)) })
extremes_are fs k rows lawful = record {
  between = λ c chosen. (
    subst (λ (z : ℤ). four (λ t. least (range fs t) (type_sum t k rows)) ≤ℤ z) (sym (by_types c k rows)) (four_le _ _ (λ t. least_below (range fs t) (type_sum t k rows) (c t) (chosen t).0 (chosen t).1)),
    subst (λ (z : ℤ). z ≤ℤ four (λ t. greatest (range fs t) (type_sum t k rows))) (sym (by_types c k rows)) (four_le _ _ (λ t. greatest_above (range fs t) (type_sum t k rows) (c t) (chosen t).0 (chosen t).1)),
  );
  low_met = (
    (λ t. low_factor (range fs t) (type_sum t k rows)),
    (λ t. low-factor-within (range fs t) (type_sum t k rows) (lawful t)),
    by_types _ k rows ∙ four_ap _ _ (λ t. low_factor_meets (range fs t) (type_sum t k rows)),
  );
  high_met = (
    (λ t. high_factor (range fs t) (type_sum t k rows)),
    (λ t. high-factor-within (range fs t) (type_sum t k rows) (lawful t)),
    by_types _ k rows ∙ four_ap _ _ (λ t. high_factor_meets (range fs t) (type_sum t k rows)),
  );
}

pub extremes_from : (fs : List (ℕ × ℕ)) (k : EffectKind) (rows : List (Option Row)) (e : Extremes) → Lawful fs →
    e.low ≡ four (λ t. least (range fs t) (type_sum t k rows)) → e.high ≡ four (λ t. greatest (range fs t) (type_sum t k rows)) → IsExtremes fs k rows e
extremes_from fs k rows e lawful p q = subst (IsExtremes fs k rows) (λ i. record { low = sym p i; high = sym q i }) (extremes_are fs k rows lawful)

-- the greatest sum stands for all: where it does not exceed a bound, no choice's sum does
pub none_above : (fs : List (ℕ × ℕ)) (k : EffectKind) (rows : List (Option Row)) (e : Extremes) (m n : ℕ) → IsExtremes fs k rows e → lt_z (pos m) (times n e.high) ≡ false →
    (choice : Choice) → Chosen fs choice → pos m <ℤ times n (factored choice k rows) → ⊥
none_above fs k rows e m n is below choice chosen x =
    let b = (is.between choice chosen).1 in
    omega (arith, ints, times_le n (factored choice k rows) e.high b)

-- in magnitude: some sum is as large as the larger of the two extremes
module _ (fs : List (ℕ × ℕ)) (k : EffectKind) (rows : List (Option Row)) (e : Extremes) (is : IsExtremes fs k rows e) where
  pub some_larger : (m : ℕ) → m < max (nat_abs e.low) (nat_abs e.high) * 16000 → (choice : Choice) × Chosen fs choice × (m < nat_abs (factored choice k rows) * 16000)
  some_larger m x = go (cases_lt (nat_abs e.low) (nat_abs e.high))
    where
      go : (nat_abs e.low < nat_abs e.high) ⊎ (nat_abs e.high ≤ nat_abs e.low) → (choice : Choice) × Chosen fs choice × (m < nat_abs (factored choice k rows) * 16000)
      go (inl h) = let f = is.high_met in (f.0, f.1, subst (λ (z : ℤ). m < nat_abs z * 16000) (sym f.2) (let g : m < nat_abs e.high * 16000 = omega arith in g))
      go (inr h) = let f = is.low_met in (f.0, f.1, subst (λ (z : ℤ). m < nat_abs z * 16000) (sym f.2) (let g : m < nat_abs e.low * 16000 = omega arith in g))

-- the extremes are the only ones
pub extremes_only : (fs : List (ℕ × ℕ)) (k : EffectKind) (rows : List (Option Row)) (e f : Extremes) → IsExtremes fs k rows e → IsExtremes fs k rows f → f ≡ e
extremes_only fs k rows e f x y =
    let a = x.low_met in
    let b = y.low_met in
    let c = x.high_met in
    let d = y.high_met in
    let p = (x.between b.0 b.1).0 in
    let q = (y.between a.0 a.1).0 in
    let r = (x.between d.0 d.1).1 in
    let s = (y.between c.0 c.1).1 in
    let low : f.low ≡ e.low = omega (arith, ints, b.2, a.2) in
    let high : f.high ≡ e.high = omega (arith, ints, d.2, c.2) in
    λ i. record { low = low i; high = high i }
