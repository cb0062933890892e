-- `record::lines::write_bending` meets its contract.
use Rattle.std.proofs.Common.{decimal, ap, ◌∙◌, rules}
use Rattle.record.proofs.Writing.{then, ends, whole, adds_is}
use Rattle.record.proofs.lines.write_bending.Goals as goal

pub returns : goal.returns
returns c =
    let w = then c.put.ensures.adds (then (adds_is (ap decimal c.from.ensures) c.put_number.ensures.adds) (then c.put-2.ensures.adds (then c.put_number-2.ensures.adds (then c.put-3.ensures.adds (then c.put_number-3.ensures.adds (then c.put-4.ensures.adds (then c.put_verdict.ensures.adds c.put-5.ensures.adds))))))) in
    record { len = c.len.ensures ∙ ends c.new-writer.ensures.len w; after = search (rules, whole c.new-writer.ensures.len w) }
