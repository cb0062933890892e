-- A girder of three plates and a slab on it, as statements on the definitions. Lengths in sixteenths of an inch, strengths in psi.
use Rattle.std.specs.Prelude.{ℕ, []}
use Rattle.section.specs.Strips.{◌⊕◌}
use Rattle.kinds.specs.declared.slab.Slab.{Slab}
use Rattle.kinds.specs.Decks.{DeckFits, slab_strip, layers_strip}
use Rattle.sheet.specs.declared.plate.PlateInput.{PlateInput}
use Rattle.sheet.specs.Ledger.{Ledger, blank, place, after, Accepted}

abbrev pub top_flange : PlateInput
top_flange = record { role = 1; top = 128; breadth = 192; height = 16; fy = 50000 }

abbrev pub web : PlateInput
web = record { role = 2; top = 144; breadth = 8; height = 640; fy = 50000 }

abbrev pub bottom_flange : PlateInput
bottom_flange = record { role = 3; top = 784; breadth = 256; height = 24; fy = 50000 }

-- a new sheet with one, with two and with all three of them
abbrev pub one_placed : Ledger
one_placed = after blank (place 0 top_flange)

abbrev pub two_placed : Ledger
two_placed = after one_placed (place 1 web)

abbrev pub girder : Ledger
girder = after two_placed (place 2 bottom_flange)

-- each is accepted
abbrev pub Girder : Type 0
Girder = Accepted blank (place 0 top_flange) × Accepted one_placed (place 1 web) × Accepted two_placed (place 2 bottom_flange)

-- a slab above it
abbrev pub slab : Slab
slab = record { top = 0; breadth = 1536; height = 128; fc = 4000 }

-- what a deck of the slab and no bars pushes and pulls with; cracked, it pushes with no more than it pulls
abbrev pub deck_pushes : ℕ → ℕ
deck_pushes = slab_strip slab ⊕ layers_strip []

abbrev pub deck_pulls : ℕ → ℕ
deck_pulls = layers_strip []

-- such a deck may be filled
abbrev pub DeckOfSlab : Type 0
DeckOfSlab = DeckFits slab []
