-- `sheet::plates_part::SheetPart::forces` meets its contract.
use Rattle.std.proofs.Common.{rules, tests, ◌≡◌, min, length, sym, ◌∙◌, arith}
use Rattle.std.proofs.lemmas.Iterator.{YieldsList-from_range, YieldsList-from_map}
use Rattle.std.proofs.lemmas.Iterator.Consumers.{fits_from_yields_list, sum_from_yields_List}
use Rattle.section.specs.Strips.{force_above}
use Rattle.sheet.specs.PlateStrips.{plate_strips}
use Rattle.sheet.proofs.PlateForces.{measured_above, every_slot, above_within, forces_alike}
use Rattle.sheet.proofs.plates_part.SheetPart.forces.Goals as goal

pub sum-above-requires-clause-fits : goal.sum-above-requires-clause-fits
sum-above-requires-clause-fits c =
    let p = c.args.self.now.plates in
    let xs = p.slots.items in
    let within = c.args.self.now.within in
    let light = c.args.self.now.light in
    fits_from_yields_list c.map.result _
    (YieldsList-from_map _ (measured_above p.measures c.args.level) (YieldsList-from_range 0 24 (length xs) c.map.ensures.source (sym p.slots.long)) c.map.ensures.closure (λ x r q k. search (rules, tests)))
    (omega (arith, light, every_slot xs p.measures within p.measured c.args.level, above_within xs within c.args.level))

above_is : (c : goal.After-total_force) → c.sum-above.result ≡ force_above (plate_strips c.args.self.now.plates.slots.items) (min c.args.level 4096)
above_is c =
    let p = c.args.self.now.plates in
    let xs = p.slots.items in
    sum_from_yields_List c.map.result c.sum-above.result c.sum-above.ensures.ran
    (YieldsList-from_map _ (measured_above p.measures c.args.level) (YieldsList-from_range 0 24 (length xs) c.map.ensures.source (sym p.slots.long)) c.map.ensures.closure (λ x r q k. search (rules, tests)))
    ∙ every_slot xs p.measures c.args.self.now.within p.measured c.args.level

pub overflow_sub-result : goal.overflow_sub-result
overflow_sub-result c = omega (arith, above_is c, c.total_force.ensures, above_within c.args.self.now.plates.slots.items c.args.self.now.within c.args.level)

pub returns : goal.returns
returns c = forces_alike c.args.self.now.plates.slots.items c.args.self.now.within c.args.level c.sum-above.result c.total_force.result (above_is c) c.total_force.ensures c.args._sense
