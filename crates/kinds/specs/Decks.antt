-- A deck: a slab, which only pushes, and up to six layers of bars, which push and pull.
use Rattle.std.specs.Prelude.{◌≡◌, ℕ, ◌+◌, ◌*◌, ◌/◌, ◌%◌, ◌^◌, ◌≤◌, cond, List, [], ◌∷◌, length, Some, None, Ok, Err, Option, Result, ◌==◌}
use Rattle.faults.specs.declared.part.PartFault.{PartFault}
use Rattle.faults.specs.declared.part.PartFault.TheVariants.{OutsideLimits}
use Rattle.section.specs.declared.block.Block.{Block}
use Rattle.section.specs.Strips.{◌⊕◌}
use Rattle.section.specs.Blocks.{block_strip, strips, stacked}
use Rattle.kinds.specs.declared.slab.Slab.{Slab}
use Rattle.kinds.specs.declared.bar_layer.BarLayer.{BarLayer}
use Rattle.kinds.specs.declared.deck.Deck.{Deck}

-- what a slab adds to the push of each of its strips
abbrev pub slab_force : Slab → ℕ
slab_force s = s.breadth * 17 * s.fc / 20

abbrev pub slab_strip : Slab → ℕ → ℕ
slab_strip s = block_strip s.top s.height (slab_force s)

-- what a layer adds to push and pull of its one strip
abbrev pub layer_force : BarLayer → ℕ
layer_force l = l.area * l.fy

abbrev pub layer_strip : BarLayer → ℕ → ℕ
layer_strip l i = cond (i == l.strip) (layer_force l) 0

-- layers added
abbrev pub layers_strip : List BarLayer → ℕ → ℕ
layers_strip [] i = 0
layers_strip (l ∷ ls) i = layer_strip l i + layers_strip ls i

abbrev pub layers_force : List BarLayer → ℕ
layers_force [] = 0
layers_force (l ∷ ls) = layer_force l + layers_force ls

-- the limits of a slab, of a layer, and of both together
pub record SlabFits (s : Slab) : Type 0 where
  pub broad : 1 ≤ s.breadth
  pub narrow : s.breadth ≤ 4096
  pub tall : 1 ≤ s.height
  pub inside : s.top + s.height ≤ 4096
  pub weakest : 2000 ≤ s.fc
  pub strongest : s.fc ≤ 10000
  pub whole : s.fc % 20 ≡ 0

pub record LayerFits (l : BarLayer) : Type 0 where
  pub inside : l.strip ≤ 4095
  pub some : 1 ≤ l.area
  pub weakest : 30000 ≤ l.fy
  pub strongest : l.fy ≤ 100000

abbrev pub LayersFit : List BarLayer → Type 0
LayersFit [] = Unit {0}
LayersFit (l ∷ ls) = LayerFits l × LayersFit ls

pub record DeckFits (s : Slab) (ls : List BarLayer) : Type 0 where
  pub slab_fits : SlabFits s
  pub few : length ls ≤ 6
  pub layers_fit : LayersFit ls
  pub light : slab_force s * s.height + layers_force ls ≤ 2 ^ 36

-- what a deck's strips push with, and what its bars push and pull with
abbrev pub bars_of : Deck → ℕ → ℕ
bars_of d = stacked d.bars

abbrev pub pushes_of : Deck → ℕ → ℕ
pushes_of d = strips d.slab ⊕ bars_of d

-- the deck holds the slab and the layers, and nothing else
pub record Holds (s : Slab) (ls : List BarLayer) (d : Deck) : Type 0 where
  pub pushes_are : pushes_of d ≡ (slab_strip s ⊕ layers_strip ls)
  pub pulls_are : bars_of d ≡ layers_strip ls

-- a deck of a slab and layers; refused just where they do not fit
abbrev pub Filled : Slab → List BarLayer → Result Deck PartFault → Type 0
Filled s ls (Ok d) = DeckFits s ls × Holds s ls d
Filled s ls (Err f) = (f ≡ OutsideLimits) × (DeckFits s ls → ⊥)

-- the same of a deck that is filled in place of what it held: refused, it is as before
abbrev pub Fills : Slab → List BarLayer → Deck → Result (Unit {0}) PartFault → Deck → Type 0
Fills s ls before (Ok u) after = DeckFits s ls × Holds s ls after
Fills s ls before (Err f) after = (f ≡ OutsideLimits) × (DeckFits s ls → ⊥) × (after ≡ before)

-- the block of a slab or of a layer, or none where it does not fit
abbrev pub SlabBlock : Slab → Option Block → Type 0
SlabBlock s (Some b) = SlabFits s × (b.top ≡ s.top) × (b.height ≡ s.height) × (b.strength ≡ slab_force s)
SlabBlock s None = SlabFits s → slab_force s * s.height ≤ 2 ^ 36 → ⊥

abbrev pub LayerBlock : BarLayer → Option Block → Type 0
LayerBlock l (Some b) = LayerFits l × (b.top ≡ l.strip) × (b.height ≡ 1) × (b.strength ≡ layer_force l)
LayerBlock l None = LayerFits l → layer_force l ≤ 2 ^ 36 → ⊥
