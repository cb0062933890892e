-- The resultants and the axes of the girder and of the thin plate.
use Rattle.std.proofs.Common.{◌≡◌, ℕ, ◌≤◌, [], sym, refl, subst, not-suc-le-zero, lit<, lit≤}
use mathlib.Core.Path.{fun_ext}
use Rattle.section.specs.declared.sense.Sense.{Sense}
use Rattle.section.specs.declared.sense.Sense.TheVariants.{Sagging, Hogging}
use Rattle.section.specs.Strips.{no_strips}
use Rattle.section.specs.Parts.{IsResultants}
use Rattle.section.specs.Axis.{IsAxis}
use Rattle.section.specs.Blocks.{block_strip}
use Rattle.section.proofs.Together.{resultants_both, resultants_none}
use Rattle.kinds.specs.Shapes.{table_strip}
use Rattle.kinds.specs.ShapeLaws.{strip_none}
use Rattle.sheet.specs.PlateStrips.{plate_strips}
use Rattle.sheet.specs.Ledger.{Ledger}
use Rattle.questions.specs.Together.{with_plates}
use Rattle.figures.specs.Girders.{girder, deck_pushes, deck_pulls}
use Rattle.figures.specs.Axes.{Composite, Cracked, thin_plate}
use Rattle.figures.proofs.Standing.{Inside, zero_at, both_at, pushed_at, pushed_is, plates_at, plates_are, axis_at}

pub girder_inside : Inside girder.plates
girder_inside = ((lit≤ tt, lit< tt), ((lit≤ tt, lit< tt), ((lit≤ tt, lit< tt), tt)))

-- the deck, and the girder with it
deck_is : (k : ℕ) → k ≤ 4096 → IsResultants Sagging deck_pushes deck_pulls k (both_at (pushed_at 0 128 5222400 k) zero_at)
deck_is k l = resultants_both Sagging (block_strip 0 128 5222400) no_strips no_strips no_strips k (pushed_at 0 128 5222400 k) zero_at (pushed_is 0 128 5222400 k (lit≤ tt) l) (resultants_none Sagging k l)

composite_is : (k : ℕ) → k ≤ 4096 → IsResultants Sagging (with_plates girder deck_pushes) (with_plates girder deck_pulls) k (both_at (plates_at girder.plates k) (both_at (pushed_at 0 128 5222400 k) zero_at))
composite_is k l = resultants_both Sagging (plate_strips girder.plates) deck_pushes (plate_strips girder.plates) deck_pulls k _ _ (plates_are Sagging girder.plates k girder_inside l) (deck_is k l)

pub composite : Composite
composite = axis_at Sagging (with_plates girder deck_pushes) (with_plates girder deck_pulls) 131 _ _ _ (lit< tt) (composite_is 130 (lit≤ tt)) (composite_is 131 (lit≤ tt)) (composite_is 132 (lit≤ tt)) (lit≤ tt) (λ _. lit< tt)

-- standing plates with no further strips
module _ (L : Ledger) (s : Sense) (inside : Inside L.plates) where
  alone_is : (k : ℕ) → k ≤ 4096 → IsResultants s (with_plates L no_strips) (with_plates L no_strips) k (both_at (plates_at L.plates k) zero_at)
  alone_is k l = resultants_both s (plate_strips L.plates) no_strips (plate_strips L.plates) no_strips k _ _ (plates_are s L.plates k inside l) (resultants_none s k l)

pub cracked : Cracked
cracked =
    axis_at Hogging (with_plates girder no_strips) (with_plates girder no_strips) 656 _ _ _ (lit< tt) (alone_is girder Hogging girder_inside 655 (lit≤ tt)) (alone_is girder Hogging girder_inside 656 (lit≤ tt)) (alone_is girder Hogging girder_inside 657 (lit≤ tt)) (lit≤ tt) (λ _. lit< tt)

thin_inside : Inside thin_plate.plates
thin_inside = ((lit≤ tt, lit< tt), tt)

thin_alone : IsAxis Sagging (with_plates thin_plate no_strips) (with_plates thin_plate no_strips) (record { level = 0; moment = 800000; imbalance = 800000 })
thin_alone =
    axis_at Sagging (with_plates thin_plate no_strips) (with_plates thin_plate no_strips) 0 _ _ _ (lit< tt) (alone_is thin_plate Sagging thin_inside 0 (lit≤ tt)) (alone_is thin_plate Sagging thin_inside 0 (lit≤ tt)) (alone_is thin_plate Sagging thin_inside 1 (lit≤ tt)) (lit≤ tt) (λ h. absurd (not-suc-le-zero h))

-- a table of no breadths is no strips
no_table : (top yield : ℕ) → no_strips ≡ table_strip top yield []
no_table top yield = fun_ext (λ i. sym (strip_none top yield [] i refl))

pub thin : (top yield : ℕ) → IsAxis Sagging (with_plates thin_plate (table_strip top yield [])) (with_plates thin_plate (table_strip top yield [])) (record { level = 0; moment = 800000; imbalance = 800000 })
thin top yield = subst (λ (f : ℕ → ℕ). IsAxis Sagging (with_plates thin_plate f) (with_plates thin_plate f) (record { level = 0; moment = 800000; imbalance = 800000 })) (no_table top yield) thin_alone
