-- `sheet::measures::Measures::clear` meets its contract.
use Rattle.std.proofs.Common.{◌∙◌, length-set}
use Rattle.sheet.proofs.measures.Measures.clear.Goals as goal

pub invariant_of-self : goal.invariant_of-self
invariant_of-self c = let s = c.args.self.now in
    record {
      topped = s.topped;
      sized = length-set s.heights _ _ ∙ s.sized;
      strong = s.strong;
    }
