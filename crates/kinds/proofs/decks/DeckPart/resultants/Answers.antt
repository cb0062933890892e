-- `kinds::decks::DeckPart::resultants` meets its contract.
use Rattle.std.proofs.Common.{arith}
use Rattle.section.specs.declared.sense.Sense.TheVariants.{Sagging, Hogging}
use Rattle.section.proofs.Together.{lawful_small}
use Rattle.kinds.specs.DeckLaws.{deck_laws}
use Rattle.kinds.proofs.SlabAndBars.{sagging_beside, hogging_beside}
use Rattle.kinds.proofs.decks.DeckPart.resultants.Goals as goal

pub overflow_add-result : goal.overflow_add-result
overflow_add-result c =
    let d = c.args.self.now in
    let r = sagging_beside _ _ _ _ _ _ (c.bar_resultants-bars.ensures Sagging) c.above-slab.ensures.force_is c.above-slab.ensures.moment_is in
    let b = lawful_small deck_laws d Sagging c.args.level _ r in
    omega arith

pub overflow_add-result-in-Sagging : goal.overflow_add-result-in-Sagging
overflow_add-result-in-Sagging c =
    let d = c.args.self.now in
    let r = sagging_beside _ _ _ _ _ _ (c.bar_resultants-bars.ensures Sagging) c.above-slab.ensures.force_is c.above-slab.ensures.moment_is in
    let b = lawful_small deck_laws d Sagging c.args.level _ r in
    omega arith

pub overflow_add-result-in-Hogging : goal.overflow_add-result-in-Hogging
overflow_add-result-in-Hogging c =
    let d = c.args.self.now in
    let r = hogging_beside _ _ _ _ _ _ (c.bar_resultants-bars.ensures Hogging) c.below-slab.ensures.force_is c.below-slab.ensures.moment_is in
    let b = lawful_small deck_laws d Hogging c.args.level _ r in
    omega arith

pub overflow_add-result-in-Hogging-2 : goal.overflow_add-result-in-Hogging-2
overflow_add-result-in-Hogging-2 c =
    let d = c.args.self.now in
    let r = hogging_beside _ _ _ _ _ _ (c.bar_resultants-bars.ensures Hogging) c.below-slab.ensures.force_is c.below-slab.ensures.moment_is in
    let b = lawful_small deck_laws d Hogging c.args.level _ r in
    omega arith

pub returns-in-Sagging : goal.returns-in-Sagging
returns-in-Sagging c = simp c.in-Sagging.is (sagging_beside _ _ _ _ _ _ (c.bar_resultants-bars.ensures Sagging) c.above-slab.ensures.force_is c.above-slab.ensures.moment_is)

pub returns-in-Hogging : goal.returns-in-Hogging
returns-in-Hogging c = simp c.in-Hogging.is (hogging_beside _ _ _ _ _ _ (c.bar_resultants-bars.ensures Hogging) c.below-slab.ensures.force_is c.below-slab.ensures.moment_is)
