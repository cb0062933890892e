-- `record::lines::write_fault` meets its contract.
use Rattle.std.proofs.Common.{decimal, ap, ◌∙◌, rules}
use Rattle.record.specs.Lines.{layer_name}
use Rattle.record.proofs.Writing.{then, ends, whole, adds_is}
use Rattle.record.proofs.lines.write_fault.Goals as goal

pub returns : goal.returns
returns c =
    let w = then c.put.ensures.adds (then c.put_number.ensures.adds (then c.put-2.ensures.adds (then (adds_is (ap layer_name c.layer.ensures) c.put_layer.ensures.adds) (then c.put-3.ensures.adds (then (adds_is (ap decimal (c.from.ensures ∙ c.number.ensures)) c.put_number-2.ensures.adds) c.put-4.ensures.adds))))) in
    record { len = c.len.ensures ∙ ends c.new-writer.ensures.len w; after = search (rules, whole c.new-writer.ensures.len w) }
