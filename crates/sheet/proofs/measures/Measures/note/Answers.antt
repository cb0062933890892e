-- `sheet::measures::Measures::note` meets its contract.
use Rattle.std.proofs.Common.{◌∙◌, length-set}
use Rattle.sheet.proofs.measures.Measures.note.Goals as goal

pub invariant_of-self : goal.invariant_of-self
invariant_of-self c = let s = c.args.self.now in
    record {
      topped = length-set s.tops _ _ ∙ s.topped;
      sized = length-set s.heights _ _ ∙ s.sized;
      strong = length-set s.strengths _ _ ∙ s.strong;
    }
