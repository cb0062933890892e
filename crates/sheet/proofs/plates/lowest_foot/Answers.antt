-- `sheet::plates::lowest_foot` meets its contract.
use Rattle.std.proofs.Common.{rules, tests, ◌+◌, sym, ap, ◌∙◌}
use Rattle.std.proofs.lemmas.Iterator.{YieldsList-from_map}
use Rattle.std.proofs.lemmas.Iterator.Adapters.{option_map_id}
use Rattle.std.proofs.lemmas.Iterator.Consumers.{YieldsList-at, max_from_yields_List}
use Rattle.sheet.proofs.Standing.{YieldsList-from_options}
use Rattle.sheet.proofs.Feet.{foot_found}
use Rattle.sheet.proofs.plates.lowest_foot.Goals as goal

pub returns : goal.returns
returns c =
    let xs = c.args.slots.now in
    let e = c.flatten.ensures in
    sym (option_map_id c.max.result)
    ∙ max_from_yields_List c.map.result c.max.result c.max.ensures.ran
    (YieldsList-from_map _ (λ p. p.top + p.height)
    (YieldsList-at c.map.ensures.source (YieldsList-from_options _ xs (λ x j b. (b.0, b.1)) (ap (λ s. s.rest.now) e.source ∙ c.iter.ensures.rest) e.front e.back e.done))
    c.map.ensures.closure (λ x r q k. search (rules, tests)))
    ∙ foot_found xs
