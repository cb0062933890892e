-- `sheet::plates_part::SheetPart::resultants` meets its contract.
use Rattle.std.proofs.Common.{rules, tests, min, length, sym, ◌∙◌, arith}
use Rattle.std.proofs.lemmas.Iterator.{YieldsList-from_range, YieldsList-from_map}
use Rattle.std.proofs.lemmas.Iterator.Consumers.{fits_from_yields_list, sum_from_yields_List}
use Rattle.sheet.specs.PlateStrips.{plate_strips}
use Rattle.sheet.proofs.PlateForces.{measured_moment, every_moment, moment_small, moment_alike}
use Rattle.sheet.proofs.plates_part.SheetPart.resultants.Goals as goal

pub sum-moment-requires-clause-fits : goal.sum-moment-requires-clause-fits
sum-moment-requires-clause-fits c =
    let p = c.args.self.now.plates in
    let xs = p.slots.items in
    let within = c.args.self.now.within in
    fits_from_yields_list c.map.result _
    (YieldsList-from_map _ (measured_moment p.measures c.min-level.result) (YieldsList-from_range 0 24 (length xs) c.map.ensures.source (sym p.slots.long)) c.map.ensures.closure (λ x r q k. search (rules, tests)))
    (omega (arith, every_moment xs p.measures within p.measured c.min-level.result (omega (arith, c.min-level.ensures)), moment_small xs c.args.self.now.light within c.min-level.result (omega (arith, c.min-level.ensures))))

pub returns : goal.returns
returns c =
    let p = c.args.self.now.plates in
    let xs = p.slots.items in
    let within = c.args.self.now.within in
    let k = c.min-level.result in
    let m = sum_from_yields_List c.map.result c.sum-moment.result c.sum-moment.ensures.ran
    (YieldsList-from_map _ (measured_moment p.measures k) (YieldsList-from_range 0 24 (length xs) c.map.ensures.source (sym p.slots.long)) c.map.ensures.closure (λ x r q k. search (rules, tests)))
    ∙ every_moment xs p.measures within p.measured k (omega (arith, c.min-level.ensures)) in
    moment_alike (plate_strips xs) (min c.args.level 4096) c.forces-forces.result c.sum-moment.result c.args.sense
    _ c.forces-forces.ensures (omega arith)
    k m (omega (arith, c.min-level.ensures))
