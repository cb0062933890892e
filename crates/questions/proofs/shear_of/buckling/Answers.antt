-- `questions::shear_of::buckling` meets its contract.
use Rattle.questions.proofs.Webs.{buckles}
use Rattle.questions.proofs.shear_of.buckling.Goals as goal

pub returns : goal.returns
returns c =
    buckles c.args.height c.args.spacing c.in-Some.spacing c.from-height.result c.from-spacing.result c.in-Some.is c.from-height.ensures c.from-spacing.ensures c.if-height-spacing.false c.if-spacing-height.false
