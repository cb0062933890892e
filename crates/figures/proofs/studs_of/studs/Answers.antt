-- `figures::studs_of::studs` meets its contract.
use Rattle.std.proofs.Common.{◌≡◌, ℕ, min, sym, refl, ◌∙◌, subst, arith, lit<, lit≤}
use Rattle.section.specs.declared.sense.Sense.TheVariants.{Sagging}
use Rattle.section.specs.Strips.{sum_to, no_strips}
use Rattle.section.specs.Sums.{sum_to_add, zeros}
use Rattle.section.specs.Blocks.{block_strip}
use Rattle.section.specs.BlockLaws.{block_sum}
use Rattle.sheet.specs.PlateStrips.{plate_strips}
use Rattle.questions.specs.Studs.{IsCount}
use Rattle.questions.proofs.StudCounts.{is_count, all_below}
use Rattle.figures.specs.Girders.{girder, deck_pushes}
use Rattle.figures.specs.Studs.{Interface}
use Rattle.figures.proofs.Standing.{plates_are}
use Rattle.figures.proofs.WorkedAxes.{girder_inside}
use Rattle.figures.proofs.studs_of.studs.Goals as goal

deck_total : sum_to deck_pushes 4096 ≡ 668467200
deck_total = omega (arith, sum_to_add (block_strip 0 128 5222400) no_strips 4096, block_sum 0 128 5222400 4096 (lit≤ tt), zeros no_strips 4096 (λ _ _. refl))

girder-total : sum_to (plate_strips girder.plates) 4096 ≡ 716800000
girder-total = sym ((plates_are Sagging girder.plates 0 girder_inside (lit≤ tt)).below_is ∙ all_below (plate_strips girder.plates))

interface : Interface
interface = λ i. min (deck_total i) (girder-total i)

pub returns : goal.returns
returns c = record {
  force = (
    record { least_area = lit≤ tt; greatest_area = lit≤ tt; least_fu = lit≤ tt; greatest_fu = lit≤ tt; least_fc = lit≤ tt; greatest_fc = lit≤ tt; least_ec = lit≤ tt; greatest_ec = lit≤ tt },
    (120664, record { square_fits = lit≤ tt; next_passes = lit< tt }, refl),
  );
  interface = interface;
  count = subst (λ (p : ℕ). IsCount 36060 p 86) (sym interface) (is_count 36060 668467200 86 (lit≤ tt) refl);
}
