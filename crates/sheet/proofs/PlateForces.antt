-- The force of the plates above a level and the moment about it, one slot after another, and what is left below it.
use Rattle.std.proofs.Common.{◌≡◌, ℕ, ◌+◌, ◌-◌, ◌*◌, ◌^◌, ◌≤◌, zero, suc, min, true, List, [], ◌∷◌, length, map, sum, slice_index, get_or, take, Some, None, Option, sym, refl, ap, subst, ◌∙◌, mul-zero, arith, eqb-true}
use mathlib.Core.Path.{fun_ext}
use Rattle.std.specs.List.{range_with_len}
use Rattle.std.proofs.lemmas.List.{take_all}
use Rattle.std.proofs.lemmas.List.FromFn.{map-range_with_len_more}
use Rattle.std.proofs.lemmas.List.Sums.{sum_by-append}
use Rattle.section.specs.declared.sense.Sense.{Sense}
use Rattle.section.specs.declared.sense.Sense.TheVariants.{Sagging, Hogging}
use Rattle.section.specs.declared.forces.Forces.{Forces}
use Rattle.section.specs.Strips.{sum_to, force_above, force_below, moment_at, no_strips, ◌⊕◌}
use Rattle.section.specs.Sums.{sum_to_split, zeros}
use Rattle.section.specs.Blocks.{block_strip}
use Rattle.section.specs.BlockLaws.{block_none}
use Rattle.section.specs.Parts.{IsForces, IsResultants}
use Rattle.section.proofs.Together.{force_above_both, moment_above_both, moment_below_both, force_above_le, force_below_le, moment_above_le, moment_below_le, resultants_none}
use Rattle.section.proofs.ClosedForm.{between, is_above}
use Rattle.sheet.specs.declared.plate.Plate.{Plate}
use Rattle.sheet.specs.Plates.{total_force}
use Rattle.sheet.specs.Invariants.{Light, Within, within, within_in}
use Rattle.sheet.specs.PlateStrips.{slot_strips, plate_strips}
use Rattle.sheet.specs.PlateLaws.{foot, strips-sum}
use Rattle.sheet.specs.declared.measures.Measures.{Measures}
use Rattle.sheet.specs.Measures.{fits_slot, Measured}
use Rattle.sheet.proofs.MeasuresKept.{whole, read}
use Rattle.sheet.proofs.PlateSums.{next}

-- no strips
above_none : (k : ℕ) → force_above no_strips k ≡ 0
unfolding force_above
above_none k = zeros no_strips k (λ _ _. refl)

-- what is 0 of no strips and is added as strips are: its sum over the slots is that of the plates together
module _ (xs : List (Option Plate)) (of : (ℕ → ℕ) → ℕ) (none : of no_strips ≡ 0) (both : (f h : ℕ → ℕ) → of (f ⊕ h) ≡ of f + of h) (at : ℕ → ℕ) (is : (i : ℕ) → at i ≡ of (slot_strips (get_or xs i None))) where
  abbrev SumsTo : ℕ → Type 0
  SumsTo n = sum (map at (range_with_len 0 n)) ≡ of (plate_strips (take n xs))

  first_slots : (n : ℕ) → n ≤ length xs → SumsTo n
  first_slots zero h = sym none
  first_slots (suc n) h =
      let r = first_slots n (omega arith) in
      let more : n + 1 ≡ suc n = omega arith in
      subst SumsTo more
      (omega (
        arith,
        ap sum (map-range_with_len_more at 0 n n (omega arith)),
        sum_by-append (λ x. x) (map at (range_with_len 0 n)) (at n ∷ []),
        ap of (next xs n (omega arith)),
        both (plate_strips (take n xs)) (slot_strips (get_or xs n None)),
        is n,
      ))

  sum_of_slots : sum (map at (range_with_len 0 (length xs))) ≡ of (plate_strips xs)
  sum_of_slots = first_slots (length xs) (omega arith) ∙ ap (λ ys. of (plate_strips ys)) (take_all (length xs) xs (omega arith))

-- one plate: as many of its strips as lie above the level; none of them lies past 4,096
plate_above : (p : Plate) (level : ℕ) → within p ≡ true → p.breadth * p.fy * min (level - p.top) p.height ≡ force_above (slot_strips (Some p)) (min level 4096)
plate_above p level w =
    let f = foot p w in
    let k = min level 4096 in
    let near = k - (p.top + p.height) in
    let far = k - p.top in
    let n : min (level - p.top) p.height ≡ far - near = omega arith in
    ap (λ m. p.breadth * p.fy * m) n
    ∙ (is_above p.top p.height (p.breadth * p.fy) k _ (between (p.breadth * p.fy) near far (omega arith))).0

-- a slot, by its measures
slot_above : (x : Option Plate) (t a s level : ℕ) → within_in x ≡ true → fits_slot x t a s ≡ true → s * min (level - t) a ≡ force_above (slot_strips x) (min level 4096)
slot_above None t a s level w fits =
    let z : min (level - t) a ≡ 0 = omega (arith, eqb-true a 0 fits) in
    ap (λ m. s * m) z ∙ mul-zero s ∙ sym (above_none (min level 4096))
slot_above (Some p) t a s level w fits =
    let r = read p t a s fits in
    rw (r.top_is, r.height_is, r.strength_is, whole p w) (plate_above p level w)

slot_moment : (x : Option Plate) (t a s k : ℕ) → k ≤ 4096 → within_in x ≡ true → fits_slot x t a s ≡ true → moment_at 4096 (block_strip t a s) (block_strip t a s) k ≡ moment_at 4096 (slot_strips x) (slot_strips x) k
slot_moment None t a s k l w fits = ap (λ f. moment_at 4096 f f k) (fun_ext (block_none t a s (eqb-true a 0 fits)))
slot_moment (Some p) t a s k l w fits =
    let r = read p t a s fits in
    rw (r.top_is, r.height_is, r.strength_is, whole p w) refl

-- the sums over the slots, by their measures
abbrev pub measured_above : Measures → ℕ → ℕ → ℕ
measured_above m level i = slice_index m.strengths i * min (level - slice_index m.tops i) (slice_index m.heights i)

abbrev pub measured_strips : Measures → ℕ → ℕ → ℕ
measured_strips m i = block_strip (slice_index m.tops i) (slice_index m.heights i) (slice_index m.strengths i)

abbrev pub measured_moment : Measures → ℕ → ℕ → ℕ
measured_moment m k i = moment_at 4096 (measured_strips m i) (measured_strips m i) k

module _ (xs : List (Option Plate)) (m : Measures) (inside : Within xs) (measured : Measured m xs) where
  pub every_slot : (level : ℕ) → sum (map (measured_above m level) (range_with_len 0 (length xs))) ≡ force_above (plate_strips xs) (min level 4096)
  every_slot level =
      sum_of_slots xs (λ f. force_above f (min level 4096)) (above_none (min level 4096)) (λ f h. force_above_both f h (min level 4096)) (measured_above m level)
      (λ i. slot_above (get_or xs i None) _ _ _ level (inside i) (measured i))

  pub every_moment : (k : ℕ) → k ≤ 4096 → sum (map (measured_moment m k) (range_with_len 0 (length xs))) ≡ moment_at 4096 (plate_strips xs) (plate_strips xs) k
  every_moment k l =
      sum_of_slots xs (λ f. moment_at 4096 f f k) (sym (resultants_none Sagging k l).moment_is) (λ f h. omega (arith, moment_above_both f h k, moment_below_both 4096 f h k)) (measured_moment m k)
      (λ i. slot_moment (get_or xs i None) _ _ _ k l (inside i) (measured i))

-- the plates have no more above a level than in all
pub above_within : (xs : List (Option Plate)) → Within xs → (level : ℕ) → force_above (plate_strips xs) (min level 4096) ≤ total_force xs
above_within xs inside level = omega (arith, force_above_le 4096 (plate_strips xs) (min level 4096) (omega arith), strips-sum xs inside)

-- what is not above is below
rest_below : (f : ℕ → ℕ) (k : ℕ) → k ≤ 4096 → sum_to f 4096 - force_above f k ≡ force_below 4096 f k
unfolding force_above force_below
rest_below f k l =
    let e : k + (4096 - k) ≡ 4096 = omega arith in
    let s = rw e at (sum_to_split f k (4096 - k)) in
    omega arith

pub forces_alike : (xs : List (Option Plate)) → Within xs → (level above total : ℕ) → above ≡ force_above (plate_strips xs) (min level 4096) → total ≡ total_force xs → (s : Sense) →
    IsForces s (plate_strips xs) (plate_strips xs) (min level 4096) (record { above = above; below = total - above })
forces_alike xs inside level above total a t s = go s
  where
    below : total - above ≡ force_below 4096 (plate_strips xs) (min level 4096)
    below = omega (arith, rest_below (plate_strips xs) (min level 4096) (omega arith), strips-sum xs inside)

    go : (s : Sense) → IsForces s (plate_strips xs) (plate_strips xs) (min level 4096) (record { above = above; below = total - above })
    go Sagging = record { above_is = a; below_is = below }
    go Hogging = record { above_is = a; below_is = below }

-- and the moment is the same in either sense; forces and moment are each given at a level that equals this one, however it is written
pub moment_alike : (f : ℕ → ℕ) (k : ℕ) (r : Forces) (m : ℕ) (s : Sense) → (i : ℕ) → IsForces s f f i r → i ≡ k → (j : ℕ) → m ≡ moment_at 4096 f f j → j ≡ k → IsResultants s f f k (record { above = r.above; below = r.below; moment = m })
moment_alike f k r m s i is at_i j e at_j = go s (subst (λ l. IsForces s f f l r) at_i is) (subst (λ l. m ≡ moment_at 4096 f f l) at_j e)
  where
    go : (s : Sense) → IsForces s f f k r → m ≡ moment_at 4096 f f k → IsResultants s f f k (record { above = r.above; below = r.below; moment = m })
    go Sagging is e = record { above_is = is.above_is; below_is = is.below_is; moment_is = e }
    go Hogging is e = record { above_is = is.above_is; below_is = is.below_is; moment_is = e }

-- nor does it pass 2 ^ 50
pub moment_small : (xs : List (Option Plate)) → Light xs → Within xs → (k : ℕ) → k ≤ 4096 → moment_at 4096 (plate_strips xs) (plate_strips xs) k ≤ 2 ^ 50
moment_small xs light inside k l =
    let f = plate_strips xs in
    omega (arith, strips-sum xs inside, force_above_le 4096 f k l, force_below_le 4096 f k l, moment_above_le 4096 f k l, moment_below_le 4096 f k l)
