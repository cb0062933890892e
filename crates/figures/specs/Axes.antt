-- Plastic neutral axes of worked sections, as statements on the definitions: level, moment and imbalance.
use Rattle.std.specs.Prelude.{ℕ, []}
use Rattle.section.specs.declared.sense.Sense.TheVariants.{Sagging, Hogging}
use Rattle.section.specs.Axis.{IsAxis}
use Rattle.kinds.specs.Shapes.{table_strip}
use Rattle.sheet.specs.declared.plate.PlateInput.{PlateInput}
use Rattle.sheet.specs.Ledger.{Ledger, blank, place, after, Accepted}
use Rattle.questions.specs.Together.{with_plates}
use Rattle.figures.specs.Girders.{girder, deck_pushes, deck_pulls}

-- the girder with its deck, in sagging
abbrev pub Composite : Type 0
Composite = IsAxis Sagging (with_plates girder deck_pushes) (with_plates girder deck_pulls) (record { level = 131; moment = 670355404800; imbalance = 9267200 })

-- the girder with its deck cracked, in hogging
abbrev pub Cracked : Type 0
Cracked = IsAxis Hogging (with_plates girder deck_pulls) (with_plates girder deck_pulls) (record { level = 656; moment = 357171200000; imbalance = 0 })

-- a plate of one strip at the top of a new sheet
abbrev pub thin : PlateInput
thin = record { role = 4; top = 0; breadth = 16; height = 1; fy = 50000 }

abbrev pub thin_plate : Ledger
thin_plate = after blank (place 0 thin)

-- with a shape of no breadths, whatever its top and its yield: the levels 0 and 1 are alike, and 0 is the first
abbrev pub ThinPlate : Type 0
ThinPlate = Accepted blank (place 0 thin)
    × ((top yield : ℕ) → IsAxis Sagging (with_plates thin_plate (table_strip top yield [])) (with_plates thin_plate (table_strip top yield [])) (record { level = 0; moment = 800000; imbalance = 800000 }))
