-- `record::lines::write_extremes` meets its contract.
use Rattle.std.proofs.Common.{w64, SFits, ◌∙◌, rules}
use Rattle.record.proofs.Writing.{then, ends, whole, adds-signed}
use Rattle.record.proofs.lines.write_extremes.Goals as goal

pub returns : goal.returns
returns c =
    let f : SFits w64 c.args.found.low = search rules in
    let g : SFits w64 c.args.found.high = search rules in
    let w = then c.put.ensures.adds (then (adds-signed f c.put_signed.ensures.adds) (then c.put-2.ensures.adds (then (adds-signed g c.put_signed-2.ensures.adds) c.put-3.ensures.adds))) in
    record { len = c.len.ensures ∙ ends c.new-writer.ensures.len w; after = search (rules, whole c.new-writer.ensures.len w) }
