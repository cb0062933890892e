-- The plates of a sheet are a lawful part.
use Rattle.std.specs.Prelude.{◌≡◌, ℕ, suc, ◌+◌, ◌*◌, ◌≤◌, Bool, true, false, ◌&&◌, List, [], ◌∷◌, Some, None, Option, ◌==◌, nat_le, refl}
use Rattle.std.proofs.Common.{arith}
use borrow.Author.Tests.{leb-true, clash}
use Rattle.std.proofs.lemmas.List.Sums.{sum_by-cons}
use Rattle.section.specs.Strips.{sum_to}
use Rattle.section.specs.Sums.{sum_to_add, zeros}
use Rattle.section.specs.BlockLaws.{block_past, block_sum}
use Rattle.section.specs.Parts.{Lawful}
use Rattle.sheet.specs.declared.plate.Plate.{Plate}
use Rattle.sheet.specs.declared.held.Sheet.{Sheet}
use Rattle.sheet.specs.Plates.{role_number, is_sized, force_in, total_force}
use Rattle.sheet.specs.Invariants.{Within, within, within_in}
use Rattle.sheet.specs.PlateStrips.{slot_strips, plate_strips}

second : (a b : Bool) → (a && b) ≡ true → b ≡ true
second true b e = e
second false b e = absurd (clash e)

-- a standing plate's foot
pub foot : (p : Plate) → within p ≡ true → p.top + p.height ≤ 4096
foot p e = leb-true (p.top + p.height) 4096 (second (is_sized (role_number p.role == 2) p.breadth p.height p.fy) (nat_le (p.top + p.height) 4096) e)

slot_end : (x : Option Plate) → within_in x ≡ true → (i : ℕ) → 4096 ≤ i → slot_strips x i ≡ 0
slot_end None w i h = refl
slot_end (Some p) w i h = block_past p.top p.height (p.breadth * p.fy) i (omega (arith, foot p w))

strips_end : (xs : List (Option Plate)) → Within xs → (i : ℕ) → 4096 ≤ i → plate_strips xs i ≡ 0
strips_end [] w i h = refl
strips_end (x ∷ xs) w i h = omega (arith, slot_end x (w 0) i h, strips_end xs (λ j. w (suc j)) i h)

slot-sum : (x : Option Plate) → within_in x ≡ true → sum_to (slot_strips x) 4096 ≡ force_in x
slot-sum None w = zeros (λ _. 0) 4096 (λ _ _. refl)
slot-sum (Some p) w = omega (arith, block_sum p.top p.height (p.breadth * p.fy) 4096 (foot p w))

pub strips-sum : (xs : List (Option Plate)) → Within xs → sum_to (plate_strips xs) 4096 ≡ total_force xs
strips-sum [] w = zeros (λ _. 0) 4096 (λ _ _. refl)
strips-sum (x ∷ xs) w =
    omega (arith, sum_to_add (slot_strips x) (plate_strips xs) 4096, slot-sum x (w 0), strips-sum xs (λ j. w (suc j)), sum_by-cons force_in x xs)

-- a sheet's plates, as what they push and as what they pull with
abbrev pub sheet_strips : Sheet → ℕ → ℕ
sheet_strips s = plate_strips s.plates.slots.items

pub plates_laws : Lawful sheet_strips sheet_strips
plates_laws = record {
  pushes_end = λ s i h. strips_end s.plates.slots.items s.within i h;
  pulls_end = λ s i h. strips_end s.plates.slots.items s.within i h;
  pushes_light = λ s. let l = s.light in omega (arith, strips-sum s.plates.slots.items s.within);
  pulls_light = λ s. let l = s.light in omega (arith, strips-sum s.plates.slots.items s.within);
  weaker_pull = λ s i. omega arith;
}
