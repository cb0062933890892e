-- The test of lawful factors, and the published table's lawfulness.
use Rattle.std.proofs.Common.{◌≡◌, ℕ, zero, suc, Bool, true, false, ◌&&◌, List, [], ◌∷◌, length, get_or, refl, arith}
use Rattle.std.specs.List.{list_all}
use Rattle.std.proofs.lemmas.Bool.{and_parts, and_from}
use Rattle.std.proofs.lemmas.Bool.Decides.{nat_tests}
use Rattle.loads.specs.declared.load_type.LoadType.{LoadType}
use Rattle.loads.specs.declared.load_type.LoadType.TheVariants.{Dc, Dw, Ll, Ws}
use Rattle.loads.specs.Factors.{range, Range, Lawful, is_range, is_lawful, states}

range_of : (r : ℕ × ℕ) → is_range r ≡ true → Range r
range_of r e = grind (arith, nat_tests)

of_range : (r : ℕ × ℕ) → Range r → is_range r ≡ true
of_range r e = grind (arith, nat_tests)

module _ (rs : List (ℕ × ℕ)) where
  pub lawful_from : is_lawful rs ≡ true → Lawful rs
  lawful_from e t = range_of (range rs t) (go t)
    where
      last : ((is_range (range rs Dc) && is_range (range rs Dw) && is_range (range rs Ll)) ≡ true) × (is_range (range rs Ws) ≡ true)
      last = and_parts _ _ e

      go : (t : LoadType) → is_range (range rs t) ≡ true
      go Dc = (and_parts _ _ (and_parts _ _ last.0).0).0
      go Dw = (and_parts _ _ (and_parts _ _ last.0).0).1
      go Ll = (and_parts _ _ last.0).1
      go Ws = last.1

  pub test_from : Lawful rs → is_lawful rs ≡ true
  test_from l = and_from _ _ (and_from _ _ (and_from _ _ (at Dc) (at Dw)) (at Ll)) (at Ws)
    where
      at : (t : LoadType) → is_range (range rs t) ≡ true
      at t = of_range (range rs t) (l t)

-- a chain's test of a list of four
and_list : (a b c d : Bool) → (a && (b && (c && (d && true)))) ≡ (a && b && c && d)
and_list true true true true = refl
and_list true true true false = refl
and_list true true false d = refl
and_list true false c d = refl
and_list false b c d = refl

pub is_lawful_of : (rs : List (ℕ × ℕ)) → length rs ≡ 4 → list_all is_range rs ≡ is_lawful rs
is_lawful_of [] e = absurd (omega arith)
is_lawful_of (a ∷ []) e = absurd (omega arith)
is_lawful_of (a ∷ b ∷ []) e = absurd (omega arith)
is_lawful_of (a ∷ b ∷ c ∷ []) e = absurd (omega arith)
is_lawful_of (a ∷ b ∷ c ∷ d ∷ []) e = and_list (is_range a) (is_range b) (is_range c) (is_range d)
is_lawful_of (a ∷ b ∷ c ∷ d ∷ r ∷ rs) e = absurd (omega arith)

-- the table's one test
all_at : (rss : List (List (ℕ × ℕ))) → list_all is_lawful rss ≡ true → (i : ℕ) → is_lawful (get_or rss i []) ≡ true
all_at [] e i = refl
all_at (r ∷ rs) e zero = (and_parts (is_lawful r) (list_all is_lawful rs) e).0
all_at (r ∷ rs) e (suc i) = all_at rs (and_parts (is_lawful r) (list_all is_lawful rs) e).1 i

pub published_lawful : (i : ℕ) → Lawful (get_or states i [])
published_lawful i = lawful_from (get_or states i []) (all_at states refl i)
