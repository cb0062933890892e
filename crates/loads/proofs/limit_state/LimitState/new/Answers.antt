-- `loads::limit_state::LimitState::new` meets its contract.
use Rattle.std.proofs.Common.{◌≡◌, length, arith, sym, refl, ◌∙◌}
use Rattle.std.proofs.lemmas.Bool.{false≢true}
use Rattle.loads.proofs.Laws.{is_lawful_of, lawful_from, test_from}
use Rattle.loads.proofs.limit_state.LimitState.new.Goals as goal

pub invariant_of-result : goal.invariant_of-result
invariant_of-result c =
    let four : length c.args.factors ≡ 4 = omega arith in
    record { lawful = lawful_from c.args.factors (sym (c.if-not-is_lawful.ensures ∙ is_lawful_of c.args.factors four)) }

pub returns-then-not-is_lawful : goal.returns-then-not-is_lawful
returns-then-not-is_lawful c =
    let four : length c.args.factors ≡ 4 = omega arith in
    (refl, λ l. false≢true (c.if-not-is_lawful.ensures ∙ is_lawful_of c.args.factors four ∙ test_from c.args.factors l))
