-- `record::lines::write_shear` meets its contract.
use Rattle.std.proofs.Common.{◌∙◌, rules}
use Rattle.record.proofs.Writing.{then, ends, whole}
use Rattle.record.proofs.lines.write_shear.Goals as goal

pub returns : goal.returns
returns c =
    let w = then c.put.ensures.adds (then c.put_number.ensures.adds (then c.put-2.ensures.adds (then c.put_verdict.ensures.adds c.put-3.ensures.adds))) in
    record { len = c.len.ensures ∙ ends c.new-writer.ensures.len w; after = search (rules, whole c.new-writer.ensures.len w) }
