-- The plates that stand, as `flatten` gives them from the slots.
use Rattle.std.proofs.Common.{◌≡◌, Bool, true, false, cond, List, [], ◌∷◌, length, Some, None, Option, Bor, Iter, refl, sym, subst}
use Rattle.std.specs.Bool.{IsTrue, MatchBool}
use Rattle.std.specs.List.{flat_map}
use Rattle.std.specs.Option.{option_to_list}
use Rattle.std.specs.declared.option.Iter.{OptionIter}
use Rattle.std.specs.declared.iter.Flatten.{Flatten}
use Rattle.std.specs.Iterator.Adapters.{option_iter_steps, option_iter_item, option_iter_done, flatten_source, flatten_front, flatten_back, flatten_done, flatten_steps}
use Rattle.std.specs.Slice.Iter.{iter_rest}
use Rattle.std.proofs.iter.Yields.{fronts}
use Rattle.std.proofs.lemmas.Iterator.{YieldsList, YieldsList-from_slice}
use Rattle.std.proofs.lemmas.Iterator.Adapters.{YieldsList-from_flatten}
use Rattle.std.proofs.lemmas.Iterator.Consumers.{YieldsList-from_shown}
use Rattle.sheet.specs.declared.plate.Plate.{Plate}

module _ {A : Type 0} where
  abbrev left : Bool → Option A → List A
  left done o = cond done [] (option_to_list o)

  at_none : (done : Bool) (o : Option A) → MatchBool done (◌≡◌ {A = Option (Bor A)} None None) (None ≡ o) → length (left done o) ≡ 0
  at_none true o k = refl
  at_none false o k = rw (sym k) refl

  at_some : (done then : Bool) (o u : Option A) (x : Bor A) → IsTrue then × MatchBool done (Some x ≡ None) (Some x.now ≡ o) → left done o ≡ x.now ∷ left then u
  at_some true then o u x k = absurd cc
  at_some false true o u x k = rw (sym k.1) refl
  at_some false false o u x k = absurd cc

  -- the iterator of an `Option`
  from_option : (j : OptionIter A) (o : Option A) → option_iter_item j ≡ o → option_iter_done j ≡ false → YieldsList option_iter_steps (λ p. p.now) j (option_to_list o)
  from_option j o e f =
      subst (YieldsList option_iter_steps (λ p. p.now) j) (rw (e, f) refl)
      (YieldsList-from_shown option_iter_steps (λ p. p.now) (λ s. left (option_iter_done s) (option_iter_item s)) (λ s t k. at_none (option_iter_done s) (option_iter_item s) k.1) (λ s x t k. at_some (option_iter_done s) (option_iter_done t) (option_iter_item s) (option_iter_item t) x k) j)

  -- `flatten` over a slice of them
  pub YieldsList-from_options : {s : Flatten (Iter (Option A)) (OptionIter A)} (becomes : Bor (Option A) → OptionIter A → Type 0) (xs : List (Option A)) →
      ((x : Bor (Option A)) (j : OptionIter A) → becomes x j → (option_iter_item j ≡ x.now) × (option_iter_done j ≡ false)) →
      iter_rest (flatten_source s) ≡ xs → flatten_front s ≡ None → flatten_back s ≡ None → flatten_done s ≡ false → YieldsList (flatten_steps fronts becomes option_iter_steps) (λ p. p.now) s (flat_map option_to_list xs)
  YieldsList-from_options becomes xs k source = YieldsList-from_flatten becomes option_iter_steps (λ p. p.now) option_to_list (λ x j b. from_option j x.now (k x j b).0 (k x j b).1) (YieldsList-from_slice xs source)

-- the standing plates
abbrev pub plates_in : List (Option Plate) → List Plate
plates_in xs = flat_map option_to_list xs
