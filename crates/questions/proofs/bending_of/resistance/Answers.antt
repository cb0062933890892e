-- `questions::bending_of::resistance` meets its contract.
use Rattle.std.proofs.Common.{ℕ, ◌<◌, subst, le_trans, arith}
use Rattle.section.specs.declared.sense.Sense.TheVariants.{Sagging}
use Rattle.sheet.specs.Ledger.{ledger}
use Rattle.sheet.specs.PlateStrips.{plate_strips}
use Rattle.questions.proofs.Depths.{axis_small, depth_some}
use Rattle.questions.proofs.bending_of.resistance.Goals as goal

-- a section with a moment has a depth
pub nominal_moment-requires-clause-some : goal.nominal_moment-requires-clause-some
nominal_moment-requires-clause-some g c =
    let x = c.args.part.now in
    let plates = plate_strips (ledger c.args.sheet.now).plates in
    let axis = c.in_ok-level.ensures.answer in
    let some = depth_some Sagging plates (g.P.Part.pushes x) plates (g.P.Part.pulls x) _ axis.0.within c.depth.result c.depth-2.result c.depth.ensures c.depth-2.ensures (subst (λ (m : ℕ). 0 < m) axis.0.moment_is axis.1) in
    let deep = c.max-depth.ensures in
    omega arith

pub returns-clause-small : goal.returns-clause-small
returns-clause-small g c =
    let x = c.args.part.now in
    let laws = g.P.Part.laws in
    let small = axis_small c.args.sheet.now (g.P.Part.pushes x) (g.P.Part.pulls x) (laws.pushes_light x) (laws.pulls_light x) _ c.in_ok-level.ensures.answer.0 in
    (small, le_trans c.nominal_moment.ensures.bound small)
