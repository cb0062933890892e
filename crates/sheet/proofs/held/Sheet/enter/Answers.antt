-- `sheet::held::Sheet::enter` meets its contract.
use Rattle.std.proofs.Common.{rules, refl}
use Rattle.loads.specs.Values.{judged}
use Rattle.loads.specs.Kinds.{value_of, kind_of}
use Rattle.sheet.specs.Ledger.{ledger, enter}
use Rattle.sheet.proofs.FirstLine.{answers}
use Rattle.sheet.proofs.held.Sheet.enter.Goals as goal

pub returns-clause-answer : goal.returns-clause-answer
returns-clause-answer c =
    answers (ledger c.args.self.now) (enter c.args.slot c.args.load (kind_of c.args.effect) (judged (value_of c.args.effect))) c.args.slot refl c.try_enter.result c.map_err.result c.try_enter.ensures.answer (search rules)
