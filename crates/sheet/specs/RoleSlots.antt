-- Where the plates of roles 1, 2 and 3 stand.
use Rattle.std.specs.Prelude.{◌≡◌, ℕ, suc, min, Bool, true, false, cond, List, [], ◌∷◌, Some, None, Option, ◌==◌}
use Rattle.std.specs.Option.{option_map}
use Rattle.sheet.specs.declared.plate.Role.{Role}
use Rattle.sheet.specs.declared.plate.Role.TheVariants.{TopFlange, Web, BottomFlange, Other}
use Rattle.sheet.specs.declared.plate.Plate.{Plate}
use Rattle.sheet.specs.declared.role_slots.RoleSlots.{RoleSlots}
use Rattle.sheet.specs.Plates.{clash_in}

-- the slot that is noted for a role; none for other plates
abbrev pub noted : Role → RoleSlots → Option ℕ
noted TopFlange s = s.top_flange
noted Web s = s.web
noted BottomFlange s = s.bottom_flange
noted Other s = None

-- the lesser of a slot and one that may be none
abbrev pub earlier : ℕ → Option ℕ → ℕ
earlier s None = s
earlier s (Some i) = min i s

-- the first slot whose plate a role may not join
abbrev pub slot_with : Role → List (Option Plate) → Option ℕ
slot_with r [] = None
slot_with r (x ∷ xs) = cond (clash_in r x) (Some 0) (option_map suc (slot_with r xs))

abbrev pub same_slot : Option ℕ → Option ℕ → Bool
same_slot None None = true
same_slot None (Some j) = false
same_slot (Some i) None = false
same_slot (Some i) (Some j) = i == j

-- each role's slot is noted
abbrev pub Noted : RoleSlots → List (Option Plate) → Type 0
Noted s xs = (r : Role) → same_slot (noted r s) (slot_with r xs) ≡ true
