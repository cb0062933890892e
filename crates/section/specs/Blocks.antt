-- A rectangular block: the strips from its top on, as many as its height, all with the same strength.
use Rattle.std.specs.Prelude.{◌≡◌, ℕ, ◌+◌, ◌*◌, ◌^◌, ◌≤◌, cond, List, [], ◌∷◌, Some, None, Option, nat_lt}
use Rattle.section.specs.declared.block.Block.{Block}
use Rattle.section.specs.declared.side.Side.{Side}
use Rattle.section.specs.Strips.{force_above, force_below, moment_above, moment_below}

unfoldable pub block_strip : ℕ → ℕ → ℕ → ℕ → ℕ
block_strip top height strength i = cond (nat_lt i top) 0 (cond (nat_lt i (top + height)) strength 0)

abbrev pub strips : Block → ℕ → ℕ
strips b = block_strip b.top b.height b.strength

-- blocks added, strip by strip
abbrev pub stacked : List Block → ℕ → ℕ
stacked [] i = 0
stacked (b ∷ bs) i = strips b i + stacked bs i

-- the force of all strips of all blocks
abbrev pub stacked_total : List Block → ℕ
stacked_total [] = 0
stacked_total (b ∷ bs) = b.strength * b.height + stacked_total bs

-- which measures a block may have
pub record BlockFits (top height strength : ℕ) : Type 0 where
  pub inside : top + height ≤ 4096
  pub light : strength * height ≤ 2 ^ 36

-- the block of these measures, or none where they do not fit
abbrev pub BlockMade : ℕ → ℕ → ℕ → Option Block → Type 0
BlockMade top height strength (Some b) = (b.top ≡ top) × (b.height ≡ height) × (b.strength ≡ strength)
BlockMade top height strength None = BlockFits top height strength → ⊥

-- the force and the moment of its strips on one side of the level k
pub record IsAbove (b : Block) (k : ℕ) (r : Side) : Type 0 where
  pub force_is : r.force ≡ force_above (strips b) k
  pub moment_is : r.moment ≡ moment_above (strips b) k

pub record IsBelow (b : Block) (k : ℕ) (r : Side) : Type 0 where
  pub force_is : r.force ≡ force_below 4096 (strips b) k
  pub moment_is : r.moment ≡ moment_below 4096 (strips b) k

-- the force and the moment of strips of the same strength, by the ways from the level to their nearer and their farther end; each equation adds what is taken away
pub record IsBetween (strength near far : ℕ) (r : ℕ × ℕ) : Type 0 where
  pub force_is : r.0 + strength * near ≡ strength * far
  pub moment_is : r.1 + strength * (near * near) ≡ strength * (far * far)
