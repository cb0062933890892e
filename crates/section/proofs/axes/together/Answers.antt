-- `section::axes::together` meets its contract.
use Rattle.std.proofs.Common.{◌∙◌, arith}
use Rattle.section.proofs.Adding.{resultants_whole}
use Rattle.section.proofs.Together.{lawful_small, resultants_both}
use Rattle.section.proofs.axes.together.Goals as goal

pub returns : goal.returns
returns g c =
    let a = lawful_small g.P.Part.laws c.args.first.now _ _ _ c.resultants.ensures in
    let b = lawful_small g.Q.Part.laws c.args.second.now _ _ _ c.resultants-2.ensures in
    rw (c.add.ensures ∙ resultants_whole c.resultants.result c.resultants-2.result (omega arith) (omega arith) (omega arith)) (record {
      is = resultants_both c.args.sense _ _ _ _ _ c.resultants.result c.resultants-2.result c.resultants.ensures c.resultants-2.ensures;
      small = (omega arith, omega arith, omega arith);
    })
