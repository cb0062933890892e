-- What every sheet keeps of its plates.
use Rattle.std.specs.Prelude.{◌≡◌, ℕ, ◌+◌, ◌^◌, ◌<◌, ◌≤◌, Bool, true, false, ◌&&◌, List, Some, None, Option, ◌==◌, nat_le}
use Rattle.sheet.specs.declared.plate.Plate.{Plate}
use Rattle.sheet.specs.Slots.{content}
use Rattle.sheet.specs.Plates.{role_number, is_sized, total_force, clash_in}

-- the sum of breadth × height × yield is at most 2 ^ 36
abbrev pub Light : List (Option Plate) → Type 0
Light xs = total_force xs ≤ 2 ^ 36

-- a standing plate's limits
abbrev pub within : Plate → Bool
within p = is_sized (role_number p.role == 2) p.breadth p.height p.fy && nat_le (p.top + p.height) 4096

abbrev pub within_in : Option Plate → Bool
within_in None = true
within_in (Some p) = within p

abbrev pub Within : List (Option Plate) → Type 0
Within xs = (i : ℕ) → within_in (content xs i) ≡ true

-- no two standing plates have one role of 1, 2 or 3
abbrev pub clash_of : Option Plate → Option Plate → Bool
clash_of None y = false
clash_of (Some p) y = clash_in p.role y

abbrev pub Once : List (Option Plate) → Type 0
Once xs = (i j : ℕ) → i < j → clash_of (content xs i) (content xs j) ≡ false
