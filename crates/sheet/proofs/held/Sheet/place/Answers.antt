-- `sheet::held::Sheet::place` meets its contract.
use Rattle.std.proofs.Common.{rules, refl}
use Rattle.sheet.specs.Ledger.{ledger, place}
use Rattle.sheet.proofs.FirstLine.{answers}
use Rattle.sheet.proofs.held.Sheet.place.Goals as goal

pub returns-clause-answer : goal.returns-clause-answer
returns-clause-answer c =
    answers (ledger c.args.self.now) (place c.args.slot c.args.plate) c.args.slot refl c.try_place.result c.map_err.result c.try_place.ensures.answer (search rules)
