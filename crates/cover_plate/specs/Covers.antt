-- A cover plate: the same force, breadth × yield, in each of its strips, in compression as in tension.
use Rattle.std.specs.Prelude.{◌≡◌, ℕ, ◌+◌, ◌*◌, ◌^◌, ◌≤◌, Some, None, Option}
use Rattle.section.specs.Blocks.{block_strip}
use Rattle.cover_plate.specs.declared.cover.CoverPlate.{CoverPlate}

abbrev pub cover_strips : CoverPlate → ℕ → ℕ
cover_strips p = block_strip p.top p.height (p.breadth * p.fy)

-- the limits of a cover plate
pub record CoverFits (top breadth height yield : ℕ) : Type 0 where
  pub narrowest : 1 ≤ breadth
  pub broadest : breadth ≤ 4096
  pub some : 1 ≤ height
  pub inside : top + height ≤ 4096
  pub weakest : 30000 ≤ yield
  pub strongest : yield ≤ 100000
  pub light : breadth * height * yield ≤ 2 ^ 36

-- the plate of these measures, just where they fit
abbrev pub CoverMade : ℕ → ℕ → ℕ → ℕ → Option CoverPlate → Type 0
CoverMade top breadth height yield (Some p) = CoverFits top breadth height yield × (p.top ≡ top) × (p.breadth ≡ breadth) × (p.height ≡ height) × (p.fy ≡ yield)
CoverMade top breadth height yield None = CoverFits top breadth height yield → ⊥
