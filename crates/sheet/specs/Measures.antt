-- The plates' measures in plain lists.
use Rattle.std.specs.Prelude.{◌≡◌, ℕ, ◌*◌, ◌%◌, ◌^◌, Bool, true, ◌&&◌, List, Some, None, Option, ◌==◌, slice_index}
use Rattle.sheet.specs.declared.plate.Plate.{Plate}
use Rattle.sheet.specs.declared.measures.Measures.{Measures}
use Rattle.sheet.specs.Slots.{content}

-- a top, a height and a strength, which is kept modulo 2 ^ 32, are a slot's; an empty slot has no height
abbrev pub fits_slot : Option Plate → ℕ → ℕ → ℕ → Bool
fits_slot None top height strength = height == 0
fits_slot (Some p) top height strength = top == p.top && (height == p.height && strength == p.breadth * p.fy % 2 ^ 32)

abbrev pub Measured : Measures → List (Option Plate) → Type 0
Measured m xs = (i : ℕ) → fits_slot (content xs i) (slice_index m.tops i) (slice_index m.heights i) (slice_index m.strengths i) ≡ true
