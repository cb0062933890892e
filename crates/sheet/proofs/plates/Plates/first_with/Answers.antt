-- `sheet::plates::Plates::first_with` meets its contract.
use Rattle.std.proofs.Common.{rules, tests, ap, ◌∙◌}
use Rattle.std.proofs.lemmas.Iterator.Search.{find_from_yields_List}
use Rattle.sheet.specs.Plates.{same_role}
use Rattle.sheet.proofs.Standing.{YieldsList-from_options}
use Rattle.sheet.proofs.SlotTests.{role_test, standing_found}
use Rattle.sheet.proofs.plates.Plates.first_with.Goals as goal

pub returns : goal.returns
returns c =
    let xs = c.args.self.now.slots.items in
    let e = c.flatten.ensures in
    c.copied.ensures
    ∙ find_from_yields_List (λ p. same_role p.role c.args.role) _ _ _ c.find.ensures.ran
    (YieldsList-from_options _ xs (λ x j b. (b.0, b.1)) (ap (λ s. s.rest.now) e.source ∙ c.iter.ensures.rest) e.front e.back e.done)
    (λ x b q k. search (rules, tests, role_test))
    ∙ standing_found c.args.role xs
