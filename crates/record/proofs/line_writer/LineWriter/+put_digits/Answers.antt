use Rattle.std.proofs.Common.{arith, rules}
use Rattle.std.proofs.lemmas.Fmt.{decimal_nonempty}
use Rattle.record.proofs.Writing.{length_pair, length_pairs, adds_digit, adds_pair, adds_pairs}
use Rattle.record.proofs.line_writer.LineWriter.+put_digits.Goals as goal

pub put_digit-requires-clause-within : goal.put_digit-requires-clause-within
put_digit-requires-clause-within t c = omega (arith, decimal_nonempty c.args.n (search rules))

pub put_pair-requires-clause-within : goal.put_pair-requires-clause-within
put_pair-requires-clause-within t c = omega (arith, length_pair c.args.n c.if-n-lt10.false c.if-n-lt100.true)

pub put_digits-requires : goal.put_digits-requires
put_digits-requires t c = (search rules, omega (arith, length_pairs c.args.n c.if-n-lt100.false (search rules)))

pub put_pair-requires-else-n-lt100-clause-within : goal.put_pair-requires-else-n-lt100-clause-within
put_pair-requires-else-n-lt100-clause-within t c = omega (arith, length_pairs c.args.n c.if-n-lt100.false (search rules))

pub returns-then-n-lt10-clause-adds : goal.returns-then-n-lt10-clause-adds
returns-then-n-lt10-clause-adds t c = adds_digit c.args.n c.if-n-lt10.true c.put_digit.ensures.adds

pub returns-then-n-lt100-clause-adds : goal.returns-then-n-lt100-clause-adds
returns-then-n-lt100-clause-adds t c = adds_pair c.args.n c.if-n-lt10.false c.if-n-lt100.true c.put_pair.ensures.adds

pub returns-else-n-lt100-clause-adds : goal.returns-else-n-lt100-clause-adds
returns-else-n-lt100-clause-adds t c = adds_pairs c.args.n c.if-n-lt100.false (search rules) c.put_digits.ensures.adds c.put_pair-else-n-lt100.ensures.adds
