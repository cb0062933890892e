-- What every sheet keeps of its plates, after each change.
use Rattle.std.proofs.Common.{◌≡◌, ℕ, zero, suc, ◌+◌, ◌*◌, ◌^◌, ◌<◌, ◌≤◌, Bool, true, false, ◌&&◌, eqb, leb, ◌⊎◌, List, length, set, is_some, Some, None, Option, refl, ap, ◌∙◌, inl, inr, mul-le-mul, arith, ltb-false, ne_eqb, le-leb}
use Rattle.std.proofs.lemmas.List.{get_or-set_same, get_or-set_other, get_or_past}
use Rattle.std.proofs.lemmas.List.Sums.{sum_by-set, sum_by-cons}
use Rattle.std.proofs.lemmas.Bool.{cases_eq, cases_lt, and_parts, and_from}
use Rattle.std.proofs.lemmas.Bool.Decides.{nat_tests}
use Rattle.sheet.specs.declared.plate.Plate.{Plate}
use Rattle.sheet.specs.declared.plate.PlateInput.{PlateInput}
use Rattle.sheet.specs.Slots.{empties, full, content}
use Rattle.sheet.specs.Plates.{role_number, role_of, is_sized, is_lawful, plate_of, force, force_in, total_force, passes_in, passes, lowered_in, lowered}
use Rattle.sheet.specs.Invariants.{Light, within, within_in, Within}
use Rattle.sheet.proofs.Lowering.{some_none, total_force_kept}
use Rattle.sheet.proofs.Roles.{get_or-lowered, get_or-empties}

pub force_none : (o : Option Plate) → is_some o ≡ false → force_in o ≡ 0
force_none None e = refl
force_none (Some p) e = let z : ◌≡◌ {A = ℕ} 0 1 = cc in absurd (omega arith)

-- a lawful plate's force
pub lawful_force : (p : PlateInput) → is_lawful p ≡ true → force (plate_of p) ≤ 4096 * 4096 * 100000
lawful_force p e =
    let b : p.breadth ≤ 4096 = grind (arith, nat_tests) in
    let h : p.height ≤ 4096 = grind (arith, nat_tests) in
    let g : p.fy ≤ 100000 = grind (arith, nat_tests) in
    mul-le-mul (mul-le-mul b h) g

-- the number 2 is the web's, before and after a role is made of it
web-number : (n : ℕ) → eqb (role_number (role_of n)) 2 ≡ eqb n 2
web-number n = go (cases_eq n 1) (cases_eq n 2) (cases_eq n 3)
  where
    go : (n ≡ 1) ⊎ (n ≡ 1 → ⊥) → (n ≡ 2) ⊎ (n ≡ 2 → ⊥) → (n ≡ 3) ⊎ (n ≡ 3 → ⊥) → eqb (role_number (role_of n)) 2 ≡ eqb n 2
    go (inl a) y z = rw a refl
    go (inr a) (inl b) z = rw b refl
    go (inr a) (inr b) (inl d) = rw d refl
    go (inr a) (inr b) (inr d) = rw (ne_eqb n 1 a, ne_eqb n 2 b, ne_eqb n 3 d) refl

pub within_lawful : (p : PlateInput) → is_lawful p ≡ true → within (plate_of p) ≡ true
within_lawful p e =
    let all = and_parts (leb 1 p.role && leb p.role 4 && is_sized (eqb p.role 2) p.breadth p.height p.fy) (leb (p.top + p.height) 4096) e in
    let sized = (and_parts (leb 1 p.role && leb p.role 4) (is_sized (eqb p.role 2) p.breadth p.height p.fy) all.0).1 in
    and_from (is_sized (eqb (role_number (role_of p.role)) 2) p.breadth p.height p.fy) (leb (p.top + p.height) 4096)
    (ap (λ (w : Bool). is_sized w p.breadth p.height p.fy) (web-number p.role) ∙ sized) all.1

module _ (P : Option Plate → Bool) (xs : List (Option Plate)) (s : ℕ) (v : Option Plate) (h : s < length xs) where
  all_set : ((i : ℕ) → P (content xs i) ≡ true) → P v ≡ true → (i : ℕ) → P (content (set xs s v) i) ≡ true
  all_set all e i = go (cases_eq i s)
    where
      go : (i ≡ s) ⊎ (i ≡ s → ⊥) → P (content (set xs s v) i) ≡ true
      go (inl a) = ap P (ap (λ k. content (set xs s v) k) a ∙ get_or-set_same xs s v None h) ∙ e
      go (inr a) = ap P (get_or-set_other xs s i v None a) ∙ all i

within-lowered : (n : ℕ) (x : Option Plate) → within_in x ≡ true → passes_in n x ≡ false → within_in (lowered_in n x) ≡ true
within-lowered n None e f = refl
within-lowered n (Some p) e f =
    let all = and_parts (is_sized (eqb (role_number p.role) 2) p.breadth p.height p.fy) (leb (p.top + p.height) 4096) e in
    and_from (is_sized (eqb (role_number p.role) 2) p.breadth p.height p.fy) (leb (p.top + n + p.height) 4096) all.0 (le-leb (p.top + n + p.height) 4096 (ltb-false 4096 (p.top + n + p.height) f))

-- placing
module _ (xs : List (Option Plate)) (s : ℕ) (p : PlateInput) (h : s < length xs) (lawful : is_lawful p ≡ true) where
  pub light_put : full xs s ≡ false → total_force xs + force (plate_of p) ≤ 2 ^ 36 → Light (set xs s (Some (plate_of p)))
  light_put empty room = omega (arith, sum_by-set force_in xs s (Some (plate_of p)) None h, force_none (content xs s) empty)

  pub within_put : Within xs → Within (set xs s (Some (plate_of p)))
  within_put all = all_set within_in xs s (Some (plate_of p)) h all (within_lawful p lawful)

-- lifting
module _ (xs : List (Option Plate)) (s : ℕ) (h : s < length xs) where
  pub light_lift : Light xs → Light (set xs s None)
  light_lift light = omega (arith, sum_by-set force_in xs s None None h)

  pub within-lift : Within xs → Within (set xs s None)
  within-lift all = all_set within_in xs s None h all refl

-- lowering
module _ (n : ℕ) (xs : List (Option Plate)) where
  pub light_lower : Light xs → Light (lowered n xs)
  light_lower light = omega (arith, total_force_kept n xs)

  none_passes : (i : ℕ) → passes n xs ≡ false → passes_in n (content xs i) ≡ false
  none_passes i e = go (cases_lt i (length xs))
    where
      go : (i < length xs) ⊎ (length xs ≤ i) → passes_in n (content xs i) ≡ false
      go (inl h) = some_none (passes_in n) xs i None h e
      go (inr h) = ap (passes_in n) (get_or_past xs i None h)

  pub within-lower : Within xs → passes n xs ≡ false → Within (lowered n xs)
  within-lower all e i = ap within_in (get_or-lowered n xs i) ∙ within-lowered n (content xs i) (all i) (none_passes i e)

-- a new sheet
pub force-empties : (n : ℕ) → total_force (empties n) ≡ 0
force-empties zero = refl
force-empties (suc n) = let r = force-empties n in omega (arith, sum_by-cons force_in None (empties n))

pub light_empties : (n : ℕ) → Light (empties n)
light_empties n = omega (arith, force-empties n)

pub within-empties : (n : ℕ) → Within (empties n)
within-empties n i = ap within_in (get_or-empties n i)
