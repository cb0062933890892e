-- What lowering every plate leaves.
use Rattle.std.proofs.Common.{◌≡◌, ℕ, zero, suc, ◌+◌, ◌<◌, ◌≤◌, Bool, false, List, [], ◌∷◌, ◌++◌, map, length, get_or, take, drop, set, Some, None, Option, sym, refl, ap, ◌∙◌, arith, length-append, length-drop, length-take}
use lib.ListN.{length-map}
use Rattle.std.specs.List.{list_any}
use Rattle.std.proofs.lemmas.List.{drop_more, get_or_at, get_or_default, take_all, drop_all, append-nil}
use Rattle.std.proofs.lemmas.List.Edits.{map_over_more}
use Rattle.std.proofs.lemmas.List.Sums.{sum_by-cons}
use Rattle.std.proofs.lemmas.Bool.{or_parts}
use Rattle.sheet.specs.declared.plate.Plate.{Plate}
use Rattle.sheet.specs.Plates.{force_in, total_force, lowered_in, lowered}

pub some_none : {X : Type 0} (f : X → Bool) (xs : List X) (i : ℕ) (d : X) → i < length xs → list_any f xs ≡ false → f (get_or xs i d) ≡ false
some_none f [] i d h e = absurd (omega arith)
some_none f (x ∷ xs) zero d h e = (or_parts (f x) (list_any f xs) e).0
some_none f (x ∷ xs) (suc i) d h e = some_none f xs i d (omega arith) (or_parts (f x) (list_any f xs) e).1

force_kept : (n : ℕ) (x : Option Plate) → force_in (lowered_in n x) ≡ force_in x
force_kept n None = refl
force_kept n (Some p) = refl

pub total_force_kept : (n : ℕ) (xs : List (Option Plate)) → total_force (lowered n xs) ≡ total_force xs
total_force_kept n [] = refl
total_force_kept n (x ∷ xs) =
    omega (arith, sum_by-cons force_in (lowered_in n x) (lowered n xs), sum_by-cons force_in x xs, force_kept n x, total_force_kept n xs)

module _ {X : Type 0} (f : X → X) (xs ys : List X) (i : ℕ) (sofar : ys ≡ map f (take i xs) ++ drop i xs) where
  pub over_long : length ys ≡ length xs
  over_long = ap length sofar ∙ simp (length-append, length-map, length-take, length-drop) (omega arith)

  pub over_here : (d : X) → i < length xs → get_or ys i d ≡ get_or xs i d
  over_here d h =
      let long : length (map f (take i xs)) ≡ i = simp (length-map, length-take) (omega arith) in
      ap (λ z. get_or z i d) sofar ∙ ap (λ z. get_or (map f (take i xs) ++ z) i d) (drop_more xs i d h) ∙ get_or_at (map f (take i xs)) (get_or xs i d) (drop (i + 1) xs) d i long

  pub over_step : (d x : X) → i < length xs → get_or ys i d ≡ x → set ys i (f x) ≡ map f (take (i + 1) xs) ++ drop (i + 1) xs
  over_step d x h e =
      let in_ys : i < length ys = omega (arith, over_long) in
      map_over_more f xs ys i x h sofar (sym e ∙ get_or_default ys i d x in_ys)

  pub over_all : length xs ≤ i → ys ≡ map f xs
  over_all h = sofar ∙ ap (λ z. map f z ++ drop i xs) (take_all i xs h) ∙ ap (λ z. map f xs ++ z) (drop_all i xs h) ∙ append-nil (map f xs)
