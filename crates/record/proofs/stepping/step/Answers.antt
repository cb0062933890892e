-- `record::stepping::step` meets its contract.
use Rattle.std.proofs.Common.{ℕ, List, subst}
use Rattle.sheet.specs.Ledger.{ledger}
use Rattle.record.specs.Steps.{GoesOn}
use Rattle.record.proofs.StepTests.{too_long, short_buffer, made}
use Rattle.record.proofs.stepping.step.Goals as goal

pub returns-then-bytes-gt-LONGEST : goal.returns-then-bytes-gt-LONGEST
returns-then-bytes-gt-LONGEST c = too_long (ledger c.args.sheet.now) c.args.bytes.now c.args.place c.args.line.now _ c.if-bytes-gt-LONGEST.true c.halted.ensures

pub returns-in_default : goal.returns-in_default
returns-in_default c =
    short_buffer (ledger c.args.sheet.now) c.args.bytes.now c.args.place c.args.line.now _ c.if-bytes-gt-LONGEST.false c.in_default.ensures.cases c.halted-in_default.ensures

pub returns : goal.returns
returns c =
    let chunk = c.in-Some.ensures.cases in
    made c.if-bytes-gt-LONGEST.false chunk.enough c.go_on.ensures.long (subst (λ (front : List ℕ). GoesOn (ledger c.args.sheet.now) c.args.bytes.now c.args.place front (ledger c.go_on.new.sheet) c.go_on.result c.go_on.new.line) chunk.same c.go_on.ensures.goes_on)
