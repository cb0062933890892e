-- `kinds::decks::DeckPart::forces` meets its contract.
use Rattle.std.proofs.Common.{arith}
use Rattle.section.specs.declared.sense.Sense.TheVariants.{Sagging, Hogging}
use Rattle.section.proofs.Together.{forces_small}
use Rattle.kinds.specs.DeckLaws.{deck_laws}
use Rattle.kinds.proofs.SlabAndBars.{sagging_forces, hogging_forces}
use Rattle.kinds.proofs.decks.DeckPart.forces.Goals as goal

pub overflow_add-result : goal.overflow_add-result
overflow_add-result c =
    let d = c.args.self.now in
    let r = sagging_forces _ _ _ _ _ (c.bar_forces-bars.ensures Sagging) c.force_above.ensures in
    let b = forces_small Sagging _ _ c.args.level _ (deck_laws.pushes_light d) (deck_laws.pulls_light d) r in
    omega arith

pub overflow_add-result-in-Hogging : goal.overflow_add-result-in-Hogging
overflow_add-result-in-Hogging c =
    let d = c.args.self.now in
    let r = hogging_forces _ _ _ _ _ (c.bar_forces-bars.ensures Hogging) c.force_below.ensures in
    let b = forces_small Hogging _ _ c.args.level _ (deck_laws.pushes_light d) (deck_laws.pulls_light d) r in
    omega arith

pub returns-in-Sagging : goal.returns-in-Sagging
returns-in-Sagging c = simp c.in-Sagging.is (sagging_forces _ _ _ c.bar_forces-bars.result _ (c.bar_forces-bars.ensures Sagging) c.force_above.ensures)

pub returns-in-Hogging : goal.returns-in-Hogging
returns-in-Hogging c = simp c.in-Hogging.is (hogging_forces _ _ _ c.bar_forces-bars.result _ (c.bar_forces-bars.ensures Hogging) c.force_below.ensures)
