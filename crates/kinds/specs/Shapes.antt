-- A shape: a top level, one yield, and a table of breadths, one for each strip from the top down.
use Rattle.std.specs.Prelude.{◌≡◌, ℕ, ◌+◌, ◌-◌, ◌*◌, ◌^◌, ◌<◌, ◌≤◌, cond, List, length, Ok, Err, sum, Result, nat_lt, slice_index}
use Rattle.faults.specs.declared.part.PartFault.{PartFault}
use Rattle.faults.specs.declared.part.PartFault.TheVariants.{OutsideLimits}

-- what each strip pushes and pulls with: its breadth times the yield
unfoldable pub table_strip : ℕ → ℕ → List ℕ → ℕ → ℕ
table_strip top yield breadths i = cond (nat_lt i top) 0 (slice_index breadths (i - top) * yield)

-- breadths from 1 to 4,096
abbrev pub Broad : List ℕ → Type 0
Broad breadths = (i : ℕ) → i < length breadths → (1 ≤ slice_index breadths i) × (slice_index breadths i ≤ 4096)

-- the limits of a shape
pub record ShapeFits (top yield : ℕ) (breadths : List ℕ) : Type 0 where
  pub broad : Broad breadths
  pub inside : top + length breadths ≤ 4096
  pub weakest : 30000 ≤ yield
  pub strongest : yield ≤ 100000
  pub light : sum breadths * yield ≤ 2 ^ 36

-- a shape that is tried: refused just where it does not fit
abbrev pub Tried : ℕ → ℕ → List ℕ → Result (Unit {0}) PartFault → Type 0
Tried top yield breadths (Ok u) = ShapeFits top yield breadths
Tried top yield breadths (Err f) = (f ≡ OutsideLimits) × (ShapeFits top yield breadths → ⊥)
