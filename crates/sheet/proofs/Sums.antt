-- Sums of whole numbers over a list, after one element is set.
use Rattle.std.proofs.Common.{◌≡◌, ℕ, zero, suc, ◌*◌, ◌^◌, ◌<◌, ◌≤◌, Bool, true, false, cond, eqb, ◌⊎◌, List, [], ◌∷◌, length, get_or, set, ℤ, pos, negsuc, ◌+ℤ◌, ◌-ℤ◌, neg_ℤ, nat_abs, is_some, Some, None, Option, sym, refl, ap, ◌∙◌, subst, inl, inr, arith, length-set, to_z-of_z, w64, SFits, to_z, of_z, eq-eqb, ne_eqb}
use borrow.Author.Differences as diff
use borrow.Author.Differences.{ints}
use Rattle.std.proofs.lemmas.List.{get_or-set_same, get_or-set_other}
use Rattle.std.proofs.lemmas.Bool.{cases_eq}
use Rattle.loads.specs.declared.load_type.LoadType.{LoadType}
use Rattle.loads.specs.declared.load_type.LoadType.TheVariants.{Dc, Dw, Ll, Ws}
use Rattle.loads.specs.declared.kind.EffectKind.{EffectKind}
use Rattle.loads.specs.declared.kind.EffectKind.TheVariants.{Moment, Shear}
use Rattle.loads.specs.Kinds.{same_kind}
use Rattle.loads.specs.Factors.{index}
use Rattle.sheet.specs.declared.row.Row.{Row}
use Rattle.sheet.specs.Slots.{empties, content}
use Rattle.sheet.proofs.Roles.{get_or-empties, none_of}
use Rattle.sheet.specs.Totals.{total, of_kind, adds, type_sum, type_sums, sixteenths_in, Small}

total-set : {X : Type 0} (f : X → ℤ) (xs : List X) (i : ℕ) (v d : X) → i < length xs → total f (set xs i v) +ℤ f (get_or xs i d) ≡ total f xs +ℤ f v
total-set f [] i v d h = absurd (omega arith)
total-set f (x ∷ xs) zero v d h = omega (arith, ints)
total-set f (x ∷ xs) (suc i) v d h = let r = total-set f xs i v d (omega arith) in omega (arith, ints)

pub halves : (s : ℤ) (h : ℕ) → nat_abs s ≤ h → (diff.up s ≤ h) × (diff.down s ≤ h)
halves (pos n) h l = omega arith
halves (negsuc n) h l = omega arith

-- a number of at most 2 ^ 31 in magnitude, and a sum of n such
grown : (a b : ℤ) (n : ℕ) → nat_abs a ≤ 2 ^ 31 → nat_abs b ≤ n * 2 ^ 31 → nat_abs (a +ℤ b) ≤ suc n * 2 ^ 31
grown a b n p q = let x = halves a (2 ^ 31) p in let y = halves b (n * 2 ^ 31) q in omega (arith, ints)

total_small : {X : Type 0} (f : X → ℤ) (xs : List X) (d : X) → ((i : ℕ) → nat_abs (f (get_or xs i d)) ≤ 2 ^ 31) → nat_abs (total f xs) ≤ length xs * 2 ^ 31
total_small f [] d s = omega arith
total_small f (x ∷ xs) d s = grown (f x) (total f xs) (length xs) (s 0) (total_small f xs d (λ i. s (suc i)))

index_below : (t : LoadType) → index t < 4
index_below Dc = omega arith
index_below Dw = omega arith
index_below Ll = omega arith
index_below Ws = omega arith

cond_small : (b : Bool) (z : ℤ) → nat_abs z ≤ 2 ^ 31 → nat_abs (cond b z (pos 0)) ≤ 2 ^ 31
cond_small true z h = h
cond_small false z h = omega arith

adds_small : (t : LoadType) (k : EffectKind) (o : Option Row) → nat_abs (sixteenths_in o) ≤ 2 ^ 31 → nat_abs (adds t k o) ≤ 2 ^ 31
adds_small t k None h = omega arith
adds_small t k (Some r) h = cond_small (eqb (index r.load) (index t)) (of_kind k r) (cond_small (same_kind r.kind k) r.sixteenths h)

-- the sum of 64 rows
pub sum_small : (t : LoadType) (k : EffectKind) (xs : List (Option Row)) → length xs ≡ 64 → Small xs → nat_abs (type_sum t k xs) ≤ 2 ^ 37
sum_small t k xs long small = omega (arith, total_small (adds t k) xs None (λ i. adds_small t k (content xs i) (small i)))

pub sum_read : (t : LoadType) (k : EffectKind) (xs : List (Option Row)) → get_or (type_sums k xs) (index t) (pos 0) ≡ type_sum t k xs
sum_read Dc k xs = refl
sum_read Dw k xs = refl
sum_read Ll k xs = refl
sum_read Ws k xs = refl

four : (us : List ℤ) (k : EffectKind) (xs : List (Option Row)) → length us ≡ 4 → ((t : LoadType) → get_or us (index t) (pos 0) ≡ type_sum t k xs) → us ≡ type_sums k xs
four [] k xs l e = absurd (omega arith)
four (a ∷ []) k xs l e = absurd (omega arith)
four (a ∷ b ∷ []) k xs l e = absurd (omega arith)
four (a ∷ b ∷ c ∷ []) k xs l e = absurd (omega arith)
four (a ∷ b ∷ c ∷ d ∷ []) k xs l e = λ n. e Dc n ∷ e Dw n ∷ e Ll n ∷ e Ws n ∷ []
four (a ∷ b ∷ c ∷ d ∷ x ∷ rest) k xs l e = absurd (omega arith)

-- one slot's content is set, and the sum of one load type changes by x
module _ (k : EffectKind) (xs : List (Option Row)) (s : ℕ) (h : s < length xs) (v : Option Row) (l : LoadType) (x : ℤ)
    (differs : (t : LoadType) → adds t k v ≡ adds t k (content xs s) +ℤ cond (eqb (index l) (index t)) x (pos 0)) (ss : List ℤ) (are : ss ≡ type_sums k xs) where
  old : (t : LoadType) → get_or ss (index t) (pos 0) ≡ type_sum t k xs
  old t = ap (λ (us : List ℤ). get_or us (index t) (pos 0)) are ∙ sum_read t k xs

  new : (t : LoadType) → type_sum t k (set xs s v) ≡ get_or ss (index t) (pos 0) +ℤ cond (eqb (index l) (index t)) x (pos 0)
  new t = let a = total-set (adds t k) xs s v None h in let b = differs t in let c = old t in omega (arith, ints)

  long : length ss ≡ 4
  long = ap length are

  module _ (w : ℤ) (is : w ≡ get_or ss (index l) (pos 0) +ℤ x) where
    at-type : (t : LoadType) → (index t ≡ index l) ⊎ (index t ≡ index l → ⊥) → get_or (set ss (index l) w) (index t) (pos 0) ≡ get_or ss (index t) (pos 0) +ℤ cond (eqb (index l) (index t)) x (pos 0)
    at-type t (inl a) =
        let j : index l < length ss = omega (arith, long, index_below l) in
        ap (λ (n : ℕ). get_or (set ss (index l) w) n (pos 0)) a
        ∙ get_or-set_same ss (index l) w (pos 0) j
        ∙ is
        ∙ ap (λ (n : ℕ). get_or ss n (pos 0) +ℤ x) (sym a)
        ∙ ap (λ (b : Bool). get_or ss (index t) (pos 0) +ℤ cond b x (pos 0)) (sym (eq-eqb (index l) (index t) (sym a)))
    at-type t (inr n) =
        let z : get_or ss (index t) (pos 0) ≡ get_or ss (index t) (pos 0) +ℤ pos 0 = omega (arith, ints) in
        get_or-set_other ss (index l) (index t) w (pos 0) n
        ∙ z
        ∙ ap (λ (b : Bool). get_or ss (index t) (pos 0) +ℤ cond b x (pos 0)) (sym (ne_eqb (index l) (index t) (λ q. n (sym q))))

    pub summed : set ss (index l) w ≡ type_sums k (set xs s v)
    summed = four (set ss (index l) w) k (set xs s v) (length-set ss (index l) w ∙ long) (λ t. at-type t (cases_eq (index t) (index l)) ∙ sym (new t))

pub small_set : (xs : List (Option Row)) (s : ℕ) (v : Option Row) → s < length xs → Small xs → nat_abs (sixteenths_in v) ≤ 2 ^ 31 → Small (set xs s v)
small_set xs s v h small e i = go (cases_eq i s)
  where
    go : (i ≡ s) ⊎ (i ≡ s → ⊥) → nat_abs (sixteenths_in (content (set xs s v) i)) ≤ 2 ^ 31
    go (inl a) = subst (λ (o : Option Row). nat_abs (sixteenths_in o) ≤ 2 ^ 31) (sym (ap (λ (n : ℕ). content (set xs s v) n) a ∙ get_or-set_same xs s v None h)) e
    go (inr a) = subst (λ (o : Option Row). nat_abs (sixteenths_in o) ≤ 2 ^ 31) (sym (get_or-set_other xs s i v None a)) (small i)

-- no rows
pub small_empties : (n : ℕ) → Small (empties n)
small_empties n i = subst (λ (o : Option Row). nat_abs (sixteenths_in o) ≤ 2 ^ 31) (sym (get_or-empties n i)) (omega arith)

none_sum : (t : LoadType) (k : EffectKind) (n : ℕ) → type_sum t k (empties n) ≡ pos 0
none_sum t k zero = refl
none_sum t k (suc n) = let r = none_sum t k n in omega (arith, ints)

pub sums_empties : (k : EffectKind) (n : ℕ) → pos 0 ∷ pos 0 ∷ pos 0 ∷ pos 0 ∷ [] ≡ type_sums k (empties n)
sums_empties k n = four (pos 0 ∷ pos 0 ∷ pos 0 ∷ pos 0 ∷ []) k (empties n) refl zeros
  where
    zeros : (t : LoadType) → get_or (pos 0 ∷ pos 0 ∷ pos 0 ∷ pos 0 ∷ []) (index t) (pos 0) ≡ type_sum t k (empties n)
    zeros Dc = sym (none_sum Dc k n)
    zeros Dw = sym (none_sum Dw k n)
    zeros Ll = sym (none_sum Ll k n)
    zeros Ws = sym (none_sum Ws k n)

-- a sum and a row's sixteenths go to 64 bits and back, and so does what they come to
module _ (a b : ℤ) (p : nat_abs a ≤ 2 ^ 37) (q : nat_abs b ≤ 2 ^ 31) where
  a_fits : SFits w64 a
  a_fits = let x = halves a (2 ^ 37) p in omega (arith, ints)

  b_fits : SFits w64 b
  b_fits = let x = halves b (2 ^ 31) q in omega (arith, ints)

  plus : to_z w64 (of_z w64 a) +ℤ to_z w64 (of_z w64 b) ≡ a +ℤ b
  plus = λ n. to_z-of_z a_fits n +ℤ to_z-of_z b_fits n

  minus : to_z w64 (of_z w64 a) -ℤ to_z w64 (of_z w64 b) ≡ a -ℤ b
  minus = λ n. to_z-of_z a_fits n -ℤ to_z-of_z b_fits n

  more_fits : SFits w64 (a +ℤ b)
  more_fits = let x = halves a (2 ^ 37) p in let y = halves b (2 ^ 31) q in omega (arith, ints)

  less_fits : SFits w64 (a -ℤ b)
  less_fits = let x = halves a (2 ^ 37) p in let y = halves b (2 ^ 31) q in omega (arith, ints)

  plus_fits : SFits w64 (to_z w64 (of_z w64 a) +ℤ to_z w64 (of_z w64 b))
  plus_fits = subst (SFits w64) (sym plus) more_fits

  minus_fits : SFits w64 (to_z w64 (of_z w64 a) -ℤ to_z w64 (of_z w64 b))
  minus_fits = subst (SFits w64) (sym minus) less_fits

  plus_is : to_z w64 (of_z w64 (to_z w64 (of_z w64 a) +ℤ to_z w64 (of_z w64 b))) ≡ a +ℤ b
  plus_is = ap (λ (z : ℤ). to_z w64 (of_z w64 z)) plus ∙ to_z-of_z more_fits

  minus_is : to_z w64 (of_z w64 (to_z w64 (of_z w64 a) -ℤ to_z w64 (of_z w64 b))) ≡ a +ℤ neg_ℤ b
  minus_is = let e : a -ℤ b ≡ a +ℤ neg_ℤ b = omega (arith, ints) in ap (λ (z : ℤ). to_z w64 (of_z w64 z)) minus ∙ to_z-of_z less_fits ∙ e

cancel : (b : Bool) (z : ℤ) → pos 0 ≡ cond b z (pos 0) +ℤ cond b (neg_ℤ z) (pos 0)
cancel true z = omega (arith, ints)
cancel false z = omega (arith, ints)

-- the sums of one kind as the code changes them, by a row's sixteenths x where it is of that kind
module _ (k : EffectKind) (xs : List (Option Row)) (long : length xs ≡ 64) (small : Small xs) (ss : List ℤ) (are : ss ≡ type_sums k xs)
    (r : Row) (x : ℤ) (is : x ≡ of_kind k r) (tiny : nat_abs x ≤ 2 ^ 31) (j : ℕ) (at : j ≡ index r.load) where
  sum_at : nat_abs (get_or ss j (pos 0)) ≤ 2 ^ 37
  sum_at =
      subst (λ (z : ℤ). nat_abs z ≤ 2 ^ 37) (sym ((λ n. get_or (are n) (at n) (pos 0)) ∙ sum_read r.load k xs)) (sum_small r.load k xs long small)

  pub put_fits : SFits w64 (to_z w64 (of_z w64 (get_or ss j (pos 0))) +ℤ to_z w64 (of_z w64 x))
  put_fits = plus_fits (get_or ss j (pos 0)) x sum_at tiny

  pub out_fits : SFits w64 (to_z w64 (of_z w64 (get_or ss j (pos 0))) -ℤ to_z w64 (of_z w64 x))
  out_fits = minus_fits (get_or ss j (pos 0)) x sum_at tiny

  module _ (s : ℕ) (h : s < length xs) where
    pub put-summed : is_some (content xs s) ≡ false → set ss j (to_z w64 (of_z w64 (to_z w64 (of_z w64 (get_or ss j (pos 0))) +ℤ to_z w64 (of_z w64 x)))) ≡ type_sums k (set xs s (Some r))
    put-summed empty =
        ap (set ss j) (plus_is (get_or ss j (pos 0)) x sum_at tiny) ∙ ap (λ (i : ℕ). set ss i (get_or ss i (pos 0) +ℤ x)) at
        ∙ summed k xs s h (Some r) r.load x differs ss are (get_or ss (index r.load) (pos 0) +ℤ x) refl
      where
        differs : (t : LoadType) → adds t k (Some r) ≡ adds t k (content xs s) +ℤ cond (eqb (index r.load) (index t)) x (pos 0)
        differs t =
            let z : cond (eqb (index r.load) (index t)) x (pos 0) ≡ pos 0 +ℤ cond (eqb (index r.load) (index t)) x (pos 0) = omega (arith, ints) in
            ap (λ (y : ℤ). cond (eqb (index r.load) (index t)) y (pos 0)) (sym is) ∙ z
            ∙ ap (λ (o : Option Row). adds t k o +ℤ cond (eqb (index r.load) (index t)) x (pos 0)) (sym (none_of (content xs s) empty))

    pub out-summed : content xs s ≡ Some r → set ss j (to_z w64 (of_z w64 (to_z w64 (of_z w64 (get_or ss j (pos 0))) -ℤ to_z w64 (of_z w64 x)))) ≡ type_sums k (set xs s None)
    out-summed holds =
        ap (set ss j) (minus_is (get_or ss j (pos 0)) x sum_at tiny) ∙ ap (λ (i : ℕ). set ss i (get_or ss i (pos 0) +ℤ neg_ℤ x)) at
        ∙ summed k xs s h None r.load (neg_ℤ x) differs ss are (get_or ss (index r.load) (pos 0) +ℤ neg_ℤ x) refl
      where
        differs : (t : LoadType) → adds t k None ≡ adds t k (content xs s) +ℤ cond (eqb (index r.load) (index t)) (neg_ℤ x) (pos 0)
        differs t =
            cancel (eqb (index r.load) (index t)) x
            ∙ ap (λ (y : ℤ). cond (eqb (index r.load) (index t)) y (pos 0) +ℤ cond (eqb (index r.load) (index t)) (neg_ℤ x) (pos 0)) is
            ∙ ap (λ (o : Option Row). adds t k o +ℤ cond (eqb (index r.load) (index t)) (neg_ℤ x) (pos 0)) (sym holds)

either_kind : (k : EffectKind) (z : ℤ) → nat_abs (cond (same_kind k Moment) z (pos 0)) ≤ 2 ^ 31 → nat_abs (cond (same_kind k Shear) z (pos 0)) ≤ 2 ^ 31 → nat_abs z ≤ 2 ^ 31
either_kind Moment z p q = p
either_kind Shear z p q = q

pub row_small : (r : Row) (m s : ℤ) → m ≡ of_kind Moment r → nat_abs m ≤ 2 ^ 31 → s ≡ of_kind Shear r → nat_abs s ≤ 2 ^ 31 → nat_abs r.sixteenths ≤ 2 ^ 31
row_small r m s a p b q =
    either_kind r.kind r.sixteenths (subst (λ (z : ℤ). nat_abs z ≤ 2 ^ 31) a p) (subst (λ (z : ℤ). nat_abs z ≤ 2 ^ 31) b q)
