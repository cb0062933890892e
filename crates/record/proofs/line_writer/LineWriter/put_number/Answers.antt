-- `record::line_writer::LineWriter::put_number` meets its contract.
use Rattle.std.proofs.Common.{arith, rules}
use Rattle.std.proofs.lemmas.Fmt.{length-decimal-le}
use Rattle.record.proofs.line_writer.LineWriter.put_number.Goals as goal

pub put_digits-requires : goal.put_digits-requires
put_digits-requires g c = omega (arith, length-decimal-le g.row.DIGITS c.args.n c.requires.some c.requires.small (search rules))

pub returns-clause-bound : goal.returns-clause-bound
returns-clause-bound g c = omega (arith, c.put_digits.ensures.adds.len, length-decimal-le g.row.DIGITS c.args.n c.requires.some c.requires.small (search rules))
