-- `record::line_writer::LineWriter::put` meets its contract.
use Rattle.std.proofs.Common.{refl, rules}
use Rattle.std.proofs.lemmas.List.{places, drop-drop}
use Rattle.std.proofs.lemmas.Slice.{overwrites}
use Rattle.record.proofs.line_writer.LineWriter.put.Goals as goal

pub returns-clause-adds : goal.returns-clause-adds
returns-clause-adds c = record {
  len = refl;
  size = search (rules, places);
  front = search (rules, overwrites);
  back = search (rules, overwrites, drop-drop);
}
