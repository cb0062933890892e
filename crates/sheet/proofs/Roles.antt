-- The three roles stand at most once, after each change.
use Rattle.std.proofs.Common.{◌≡◌, ℕ, zero, suc, ◌<◌, false, ◌⊎◌, List, [], ◌∷◌, length, get_or, set, Some, None, Option, sym, is_some, refl, ap, ◌∙◌, inl, inr, arith}
use Rattle.std.proofs.lemmas.List.{get_or-set_same, get_or-set_other}
use Rattle.std.proofs.lemmas.Bool.{or_parts, cases_eq}
use borrow.Author.Tests.{clash as no_test}
use Rattle.sheet.specs.declared.plate.Role.{Role}
use Rattle.sheet.specs.declared.plate.Role.TheVariants.{TopFlange, Web, BottomFlange, Other}
use Rattle.sheet.specs.declared.plate.Plate.{Plate}
use Rattle.sheet.specs.Slots.{empties}
use Rattle.sheet.specs.Plates.{clash, clash_in, stands, lowered_in, lowered}
use Rattle.sheet.specs.Invariants.{Once, clash_of}

pub clash_sym : (a b : Role) → clash a b ≡ clash b a
clash_sym TopFlange TopFlange = refl
clash_sym TopFlange Web = refl
clash_sym TopFlange BottomFlange = refl
clash_sym TopFlange Other = refl
clash_sym Web TopFlange = refl
clash_sym Web Web = refl
clash_sym Web BottomFlange = refl
clash_sym Web Other = refl
clash_sym BottomFlange TopFlange = refl
clash_sym BottomFlange Web = refl
clash_sym BottomFlange BottomFlange = refl
clash_sym BottomFlange Other = refl
clash_sym Other TopFlange = refl
clash_sym Other Web = refl
clash_sym Other BottomFlange = refl
clash_sym Other Other = refl

pub clash_of_sym : (x : Option Plate) (p : Plate) → clash_of x (Some p) ≡ clash_in p.role x
clash_of_sym None p = refl
clash_of_sym (Some q) p = clash_sym q.role p.role

pub none_of : {X : Type 0} (o : Option X) → is_some o ≡ false → o ≡ None
none_of None e = refl
none_of (Some x) e = absurd (no_test (sym e))

pub get_or-empties : {X : Type 0} (n i : ℕ) → get_or (empties {X = X} n) i None ≡ None
get_or-empties zero i = refl
get_or-empties (suc n) zero = refl
get_or-empties (suc n) (suc i) = get_or-empties n i

pub once_empties : (n : ℕ) → Once (empties n)
once_empties n i j h = ap (λ x. clash_of x (get_or (empties n) j None)) (get_or-empties n i)

pub get_or-lowered : (n : ℕ) (xs : List (Option Plate)) (i : ℕ) → get_or (lowered n xs) i None ≡ lowered_in n (get_or xs i None)
get_or-lowered n [] i = refl
get_or-lowered n (x ∷ xs) zero = refl
get_or-lowered n (x ∷ xs) (suc i) = get_or-lowered n xs i

clash-lowered : (n : ℕ) (x y : Option Plate) → clash_of (lowered_in n x) (lowered_in n y) ≡ clash_of x y
clash-lowered n None y = refl
clash-lowered n (Some p) None = refl
clash-lowered n (Some p) (Some q) = refl

pub once_lowered : (n : ℕ) (xs : List (Option Plate)) → Once xs → Once (lowered n xs)
once_lowered n xs once i j h =
    ap (λ x. clash_of x (get_or (lowered n xs) j None)) (get_or-lowered n xs i) ∙ ap (clash_of (lowered_in n (get_or xs i None))) (get_or-lowered n xs j)
    ∙ clash-lowered n (get_or xs i None) (get_or xs j None) ∙ once i j h

none_clashes : (r : Role) (xs : List (Option Plate)) (i : ℕ) → stands r xs ≡ false → clash_in r (get_or xs i None) ≡ false
none_clashes r [] i e = refl
none_clashes r (x ∷ xs) zero e = (or_parts (clash_in r x) (stands r xs) e).0
none_clashes r (x ∷ xs) (suc i) e = none_clashes r xs i (or_parts (clash_in r x) (stands r xs) e).1

pub once_put : (xs : List (Option Plate)) (s : ℕ) (p : Plate) → s < length xs → Once xs → stands p.role xs ≡ false → Once (set xs s (Some p))
once_put xs s p h once apart i j lt = go (cases_eq i s) (cases_eq j s)
  where
    go : (i ≡ s) ⊎ (i ≡ s → ⊥) → (j ≡ s) ⊎ (j ≡ s → ⊥) → clash_of (get_or (set xs s (Some p)) i None) (get_or (set xs s (Some p)) j None) ≡ false
    go (inl a) (inl b) = absurd (omega arith)
    go (inl a) (inr b) =
        ap (λ x. clash_of x (get_or (set xs s (Some p)) j None)) (ap (λ k. get_or (set xs s (Some p)) k None) a ∙ get_or-set_same xs s (Some p) None h)
        ∙ ap (clash_in p.role) (get_or-set_other xs s j (Some p) None b) ∙ none_clashes p.role xs j apart
    go (inr a) (inl b) =
        ap (λ y. clash_of (get_or (set xs s (Some p)) i None) y) (ap (λ k. get_or (set xs s (Some p)) k None) b ∙ get_or-set_same xs s (Some p) None h)
        ∙ clash_of_sym (get_or (set xs s (Some p)) i None) p
        ∙ ap (clash_in p.role) (get_or-set_other xs s i (Some p) None a) ∙ none_clashes p.role xs i apart
    go (inr a) (inr b) =
        ap (λ x. clash_of x (get_or (set xs s (Some p)) j None)) (get_or-set_other xs s i (Some p) None a)
        ∙ ap (clash_of (get_or xs i None)) (get_or-set_other xs s j (Some p) None b) ∙ once i j lt

clash_none : (x : Option Plate) → clash_of x None ≡ false
clash_none None = refl
clash_none (Some p) = refl

pub once_lift : (xs : List (Option Plate)) (s : ℕ) → s < length xs → Once xs → Once (set xs s None)
once_lift xs s h once i j lt = go (cases_eq i s) (cases_eq j s)
  where
    go : (i ≡ s) ⊎ (i ≡ s → ⊥) → (j ≡ s) ⊎ (j ≡ s → ⊥) → clash_of (get_or (set xs s None) i None) (get_or (set xs s None) j None) ≡ false
    go (inl a) b = ap (λ x. clash_of x (get_or (set xs s None) j None)) (ap (λ k. get_or (set xs s None) k None) a ∙ get_or-set_same xs s None None h)
    go (inr a) (inl b) =
        ap (clash_of (get_or (set xs s None) i None)) (ap (λ k. get_or (set xs s None) k None) b ∙ get_or-set_same xs s None None h) ∙ clash_none (get_or (set xs s None) i None)
    go (inr a) (inr b) =
        ap (λ x. clash_of x (get_or (set xs s None) j None)) (get_or-set_other xs s i None None a)
        ∙ ap (clash_of (get_or xs i None)) (get_or-set_other xs s j None None b) ∙ once i j lt
