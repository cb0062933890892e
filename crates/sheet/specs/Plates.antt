-- Plates: their limits, and what the standing ones come to together. Lengths in sixteenths of an inch, yield strength fy in psi.
use Rattle.std.specs.Prelude.{◌≡◌, ℕ, ◌+◌, ◌*◌, max, Bool, true, false, cond, not, ◌&&◌, ◌||◌, List, [], ◌∷◌, map, Some, None, Ok, Err, sum_by, Option, Result, ◌==◌, nat_le, nat_lt}
use Rattle.std.specs.List.{list_any}
use Rattle.faults.specs.declared.sheet.SheetFault.{SheetFault}
use Rattle.faults.specs.declared.sheet.SheetReason.TheVariants.{PlateLimits}
use Rattle.sheet.specs.declared.plate.Role.{Role}
use Rattle.sheet.specs.declared.plate.Role.TheVariants.{TopFlange, Web, BottomFlange, Other}
use Rattle.sheet.specs.declared.plate.Plate.{Plate}
use Rattle.sheet.specs.declared.plate.PlateInput.{PlateInput}

-- the roles by number: 1 top flange, 2 web, 3 bottom flange, 4 other
abbrev pub role_number : Role → ℕ
role_number TopFlange = 1
role_number Web = 2
role_number BottomFlange = 3
role_number Other = 4

abbrev pub role_of : ℕ → Role
role_of n = cond (n == 1) TopFlange (cond (n == 2) Web (cond (n == 3) BottomFlange Other))

-- the role of a number; refused with 4 where it is none of 1 to 4
abbrev pub ReadsRole : ℕ → Result Role SheetFault → Type 0
ReadsRole n (Ok role) = role_number role ≡ n
ReadsRole n (Err f) = (f ≡ record { reason = PlateLimits; slot = None }) × (nat_le 1 n && nat_le n 4 ≡ false)

-- breadth and height 1 to 4,096, a yield of 30,000 to 100,000, and a web's breadth at most 64
abbrev pub is_sized : Bool → ℕ → ℕ → ℕ → Bool
is_sized web breadth height fy =
    nat_le 1 breadth && nat_le breadth 4096 && nat_le 1 height && nat_le height 4096
    && nat_le 30000 fy && nat_le fy 100000
    && (not web || nat_le breadth 64)

-- a role of 1 to 4, measures and yield within their limits, and the foot, top + height, at most 4,096
abbrev pub is_lawful : PlateInput → Bool
is_lawful p = (nat_le 1 p.role && nat_le p.role 4) && is_sized (p.role == 2) p.breadth p.height p.fy && nat_le (p.top + p.height) 4096

-- the plate that is placed
abbrev pub plate_of : PlateInput → Plate
plate_of p = record { role = role_of p.role; top = p.top; breadth = p.breadth; height = p.height; fy = p.fy }

-- the plate of an input within its limits; refused with 4 where it is outside them
abbrev pub ReadsPlate : PlateInput → Result Plate SheetFault → Type 0
ReadsPlate p (Ok plate) = (is_lawful p ≡ true) × (plate ≡ plate_of p)
ReadsPlate p (Err f) = (f ≡ record { reason = PlateLimits; slot = None }) × (is_lawful p ≡ false)

-- breadth × height × yield
abbrev pub force : Plate → ℕ
force p = p.breadth * p.height * p.fy

abbrev pub force_in : Option Plate → ℕ
force_in None = 0
force_in (Some p) = force p

-- the sum over the standing plates
abbrev pub total_force : List (Option Plate) → ℕ
total_force xs = sum_by force_in xs

-- roles 1, 2 and 3 stand at most once each
abbrev pub clash : Role → Role → Bool
clash a b = nat_lt (role_number a) 4 && role_number a == role_number b

abbrev pub clash_in : Role → Option Plate → Bool
clash_in r None = false
clash_in r (Some p) = clash r p.role

-- whether a plate stands that a role may not join
abbrev pub stands : Role → List (Option Plate) → Bool
stands r xs = list_any (clash_in r) xs

-- the first standing plate of a role
abbrev pub same_role : Role → Role → Bool
same_role a b = role_number a == role_number b

abbrev pub standing : Role → List (Option Plate) → Option Plate
standing r [] = None
standing r (None ∷ xs) = standing r xs
standing r (Some p ∷ xs) = cond (same_role p.role r) (Some p) (standing r xs)

-- the greater of a foot and one that may be none
abbrev pub lower_foot : ℕ → Option ℕ → ℕ
lower_foot f None = f
lower_foot f (Some g) = max f g

-- the lowest foot of the standing plates, the greatest top + height; none where none stands
abbrev pub lowest_foot : List (Option Plate) → Option ℕ
lowest_foot [] = None
lowest_foot (None ∷ xs) = lowest_foot xs
lowest_foot (Some p ∷ xs) = Some (lower_foot (p.top + p.height) (lowest_foot xs))

-- whether a plate's foot would pass 4,096, lowered by n
abbrev pub passes_in : ℕ → Option Plate → Bool
passes_in n None = false
passes_in n (Some p) = nat_lt 4096 (p.top + n + p.height)

abbrev pub passes : ℕ → List (Option Plate) → Bool
passes n xs = list_any (passes_in n) xs

abbrev pub lowered_plate : ℕ → Plate → Plate
lowered_plate n p = record { role = p.role; top = p.top + n; breadth = p.breadth; height = p.height; fy = p.fy }

abbrev pub lowered_in : ℕ → Option Plate → Option Plate
lowered_in n None = None
lowered_in n (Some p) = Some (lowered_plate n p)

-- n added to the top of every standing plate
abbrev pub lowered : ℕ → List (Option Plate) → List (Option Plate)
lowered n xs = map (lowered_in n) xs
