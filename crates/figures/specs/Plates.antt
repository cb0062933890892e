-- The strongest plate that a new sheet takes, as statements on the definitions.
use Rattle.std.specs.Prelude.{◌≡◌, ℕ, Some}
use Rattle.sheet.specs.declared.plate.PlateInput.{PlateInput}
use Rattle.sheet.specs.Slots.{content}
use Rattle.sheet.specs.Plates.{plate_of}
use Rattle.sheet.specs.Ledger.{blank, place, after, Accepted, Refused}

-- 4,096 by a height, at yield 100,000, of no special role, with its top at level 0
abbrev pub widest : ℕ → PlateInput
widest height = record { role = 4; top = 0; breadth = 4096; height = height; fy = 100000 }

-- 167 high, it is accepted and stands
abbrev pub Strongest : Type 0
Strongest = Accepted blank (place 0 (widest 167)) × (content (after blank (place 0 (widest 167))).plates 0 ≡ Some (plate_of (widest 167)))

-- 168 high, it is refused with 6, and nothing changes
abbrev pub TooStrong : Type 0
TooStrong = Refused blank (place 0 (widest 168)) 6 × (after blank (place 0 (widest 168)) ≡ blank)
