-- What the standing plates push and pull with, strip by strip.
use Rattle.std.specs.Prelude.{ℕ, ◌+◌, ◌*◌, List, [], ◌∷◌, Some, None, Option}
use Rattle.section.specs.Blocks.{block_strip}
use Rattle.sheet.specs.declared.plate.Plate.{Plate}

-- a plate's breadth × yield in each strip from its top to its foot
abbrev pub slot_strips : Option Plate → ℕ → ℕ
slot_strips None i = 0
slot_strips (Some p) i = block_strip p.top p.height (p.breadth * p.fy) i

-- all of them added
abbrev pub plate_strips : List (Option Plate) → ℕ → ℕ
plate_strips [] i = 0
plate_strips (x ∷ xs) i = slot_strips x i + plate_strips xs i
