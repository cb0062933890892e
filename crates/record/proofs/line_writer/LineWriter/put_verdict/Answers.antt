use Rattle.std.proofs.Common.{◌<◌, arith}
use Rattle.questions.specs.declared.answers.Verdict.{Verdict}
use Rattle.questions.specs.declared.answers.Verdict.TheVariants.{Carries, NotCompact, Brittle, TooWeak}
use Rattle.questions.specs.Bending.{verdict_number}
use Rattle.record.proofs.line_writer.LineWriter.put_verdict.Goals as goal

one_digit : (v : Verdict) → verdict_number v < 10
one_digit Carries = omega arith
one_digit NotCompact = omega arith
one_digit Brittle = omega arith
one_digit TooWeak = omega arith

pub put_number-requires : goal.put_number-requires
put_number-requires c = let s = one_digit c.args.verdict in omega arith
