-- The lowest foot of the standing plates, as it is found and as it changes with one slot.
use Rattle.std.proofs.Common.{◌≡◌, ℕ, zero, suc, ◌+◌, ◌*◌, ◌<◌, ◌≤◌, max, Bool, true, false, cond, ◌||◌, eqb, ltb, List, [], ◌∷◌, map, length, set, Some, None, Option, sym, refl, ap, ◌∙◌, subst, ⊎_elim, arith, mul-le-mul, ltb-false, eq-eqb, ne_eqb}
use Rattle.std.specs.List.{fold, reduce}
use Rattle.std.specs.Option.{option_map, unwrap_or, option_cmp}
use Rattle.std.specs.Ordering.{nat_cmp, ord_max, is_lt}
use Rattle.std.specs.declared.cmp.Ordering.{Ordering}
use Rattle.std.specs.declared.cmp.Ordering.TheVariants.{Less, Equal, Greater}
use Rattle.std.proofs.lemmas.Cmp.{ranked}
use Rattle.std.proofs.lemmas.Bool.Decides.{nat_tests}
use Rattle.section.specs.Sums.{le_or_lt}
use Rattle.section.specs.Strips.{no_strips}
use Rattle.section.specs.Parts.{IsDepth}
use Rattle.section.proofs.ClosedForm.{block_depth}
use Rattle.section.proofs.Together.{depth_both, depth_none}
use Rattle.sheet.specs.declared.plate.Plate.{Plate}
use Rattle.sheet.specs.Slots.{empties, content}
use Rattle.sheet.specs.Plates.{lower_foot, lowest_foot, passes, lowered}
use Rattle.sheet.specs.Invariants.{within, Within}
use Rattle.sheet.specs.PlateStrips.{plate_strips}
use Rattle.sheet.proofs.Standing.{plates_in}

-- the greatest of the feet
fold-max : (a b : ℕ) (ns : List ℕ) → fold max (max a b) ns ≡ max a (fold max b ns)
fold-max a b [] = refl
fold-max a b (n ∷ ns) = let e : max (max a b) n ≡ max a (max b n) = omega arith in ap (λ k. fold max k ns) e ∙ fold-max a (max b n) ns

greatest : (a : ℕ) (ns : List ℕ) → fold max a ns ≡ lower_foot a (reduce max ns)
greatest a [] = refl
greatest a (n ∷ ns) = fold-max a n ns

pub foot_found : (xs : List (Option Plate)) → reduce max (map (λ p. p.top + p.height) (plates_in xs)) ≡ lowest_foot xs
foot_found [] = refl
foot_found (None ∷ xs) = foot_found xs
foot_found (Some p ∷ xs) =
    ap Some (greatest (p.top + p.height) (map (λ q. q.top + q.height) (plates_in xs)) ∙ ap (lower_foot (p.top + p.height)) (foot_found xs))

-- a new set of slots
pub foot-empties : (n : ℕ) → None ≡ lowest_foot (empties n)
foot-empties zero = refl
foot-empties (suc n) = foot-empties n

-- a plate comes, and the code takes the lower of two feet
pub lower_of : (f : ℕ) (o : Option ℕ) → ord_max (option_cmp nat_cmp) o (Some f) ≡ Some (lower_foot f o)
lower_of f None = refl
lower_of f (Some g) = go (nat_cmp f g) refl
  where
    go : (o : Ordering) → nat_cmp f g ≡ o → cond (is_lt o) (Some g) (Some f) ≡ Some (max f g)
    go Less e = let m : g ≡ max f g = omega (arith, ranked f g Less (sym e)) in ap Some m
    go Equal e = let m : f ≡ max f g = omega (arith, ranked f g Equal (sym e)) in ap Some m
    go Greater e = let m : f ≡ max f g = omega (arith, ranked f g Greater (sym e)) in ap Some m

swapped : (f g : ℕ) (o : Option ℕ) → lower_foot f (Some (lower_foot g o)) ≡ lower_foot g (Some (lower_foot f o))
swapped f g None = omega arith
swapped f g (Some h) = omega arith

pub foot_put : (xs : List (Option Plate)) (s : ℕ) (p : Plate) → s < length xs → content xs s ≡ None → Some (lower_foot (p.top + p.height) (lowest_foot xs)) ≡ lowest_foot (set xs s (Some p))
foot_put [] s p h e = absurd (omega arith)
foot_put (None ∷ xs) zero p h e = refl
foot_put (Some q ∷ xs) zero p h e = absurd cc
foot_put (None ∷ xs) (suc s) p h e = foot_put xs s p (omega arith) e
foot_put (Some q ∷ xs) (suc s) p h e =
    ap Some (swapped (p.top + p.height) (q.top + q.height) (lowest_foot xs) ∙ ap (lower_foot (q.top + q.height)) (foot_put xs s p (omega arith) e))

-- a plate is taken out
pub foot_out : (xs : List (Option Plate)) (s : ℕ) (p : Plate) → s < length xs → content xs s ≡ Some p → lowest_foot xs ≡ Some (lower_foot (p.top + p.height) (lowest_foot (set xs s None)))
foot_out [] s p h e = absurd (omega arith)
foot_out (None ∷ xs) zero p h e = absurd cc
foot_out (Some q ∷ xs) zero p h e = ap (λ o. lowest_foot (o ∷ xs)) e
foot_out (None ∷ xs) (suc s) p h e = foot_out xs s p (omega arith) e
foot_out (Some q ∷ xs) (suc s) p h e =
    ap Some (ap (lower_foot (q.top + q.height)) (foot_out xs s p (omega arith) e) ∙ swapped (q.top + q.height) (p.top + p.height) (lowest_foot (set xs s None)))

-- the kept foot where it was not that plate's, and otherwise the one that is found anew
abbrev pub kept_or : ℕ → Option ℕ → Option ℕ → Option ℕ
kept_or f None rest = rest
kept_or f (Some g) rest = cond (eqb g f) rest (Some g)

pub foot_left : (f : ℕ) (kept rest : Option ℕ) → kept ≡ Some (lower_foot f rest) → kept_or f kept rest ≡ rest
foot_left f kept rest e = ap (λ o. kept_or f o rest) e ∙ go rest
  where
    go : (o : Option ℕ) → kept_or f (Some (lower_foot f o)) o ≡ o
    go None = rw (eq-eqb f f refl) refl
    go (Some g) =
        ⊎_elim
        (λ l. let e : max f g ≡ f = omega arith in rw (eq-eqb (max f g) f e) refl)
        (λ l. let e : max f g ≡ g = omega arith in rw (e, ne_eqb g f (λ q. omega arith)) refl)
        (le_or_lt g f)

-- the plates lowered
pub foot-lowered : (n : ℕ) (xs : List (Option Plate)) → lowest_foot (lowered n xs) ≡ option_map (λ f. f + n) (lowest_foot xs)
foot-lowered n [] = refl
foot-lowered n (None ∷ xs) = foot-lowered n xs
foot-lowered n (Some p ∷ xs) = ap (λ o. Some (lower_foot (p.top + n + p.height) o)) (foot-lowered n xs) ∙ ap Some (both (lowest_foot xs))
  where
    both : (o : Option ℕ) → lower_foot (p.top + n + p.height) (option_map (λ f. f + n) o) ≡ lower_foot (p.top + p.height) o + n
    both None = omega arith
    both (Some g) = omega arith

-- whether one of them passes is whether the lowest does
abbrev pub foot_passes : ℕ → Option ℕ → Bool
foot_passes n None = false
foot_passes n (Some f) = ltb 4096 (f + n)

pub passes_lowest : (n : ℕ) (xs : List (Option Plate)) → foot_passes n (lowest_foot xs) ≡ passes n xs
passes_lowest n [] = refl
passes_lowest n (None ∷ xs) = passes_lowest n xs
passes_lowest n (Some p ∷ xs) = both (lowest_foot xs) ∙ ap (λ b. ltb 4096 (p.top + n + p.height) || b) (passes_lowest n xs)
  where
    both : (o : Option ℕ) → ltb 4096 (lower_foot (p.top + p.height) o + n) ≡ ltb 4096 (p.top + n + p.height) || foot_passes n o
    both None = grind (arith, nat_tests)
    both (Some g) = grind (arith, nat_tests)

-- where none passes, the lowest stays above the end
pub foot_stays : (n : ℕ) (xs : List (Option Plate)) → passes n xs ≡ false → (f : ℕ) → lowest_foot xs ≡ Some f → f + n ≤ 4096
foot_stays n xs low f e = ltb-false 4096 (f + n) (sym (ap (foot_passes n) e) ∙ passes_lowest n xs ∙ low)

-- the depth of the plates is their lowest foot, as each has a strip
sized : (p : Plate) → within p ≡ true → (1 ≤ p.breadth) × (1 ≤ p.height) × (30000 ≤ p.fy)
sized p e = (grind (arith, nat_tests), grind (arith, nat_tests), grind (arith, nat_tests))

strong : (p : Plate) → within p ≡ true → 0 < p.breadth * p.fy * p.height
strong p e = let z = sized p e in let m = mul-le-mul (mul-le-mul z.0 z.2) z.1 in omega arith

pub foot_depth : (xs : List (Option Plate)) → Within xs → IsDepth (plate_strips xs) (plate_strips xs) (unwrap_or (lowest_foot xs) 0)
foot_depth [] w = depth_none
foot_depth (None ∷ xs) w =
    subst (IsDepth (plate_strips (None ∷ xs)) (plate_strips (None ∷ xs))) (omega arith)
    (depth_both no_strips (plate_strips xs) no_strips (plate_strips xs) 0 (unwrap_or (lowest_foot xs) 0) depth_none (foot_depth xs (λ j. w (suc j))))
foot_depth (Some p ∷ xs) w =
    subst (IsDepth (plate_strips (Some p ∷ xs)) (plate_strips (Some p ∷ xs))) (both (lowest_foot xs))
    (depth_both _ (plate_strips xs) _ (plate_strips xs) (p.top + p.height) (unwrap_or (lowest_foot xs) 0) (block_depth p.top p.height (p.breadth * p.fy) (strong p (w 0))) (foot_depth xs (λ j. w (suc j))))
  where
    both : (o : Option ℕ) → max (p.top + p.height) (unwrap_or o 0) ≡ lower_foot (p.top + p.height) o
    both None = omega arith
    both (Some g) = refl
