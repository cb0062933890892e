-- `questions::shear_of::shear_verdict` meets its contract.
use Rattle.std.proofs.Common.{◌≡◌, ◌*◌, max, nat_abs, ap, ◌∙◌, arith, to_z-of_z, w64, SFits, rules}
use Rattle.loads.specs.declared.kind.EffectKind.TheVariants.{Shear}
use Rattle.sheet.specs.Ledger.{ledger}
use Rattle.questions.proofs.Choices.{some_larger}
use Rattle.questions.proofs.shear_of.shear_verdict.Goals as goal

pub returns-then-from : goal.returns-then-from
returns-then-from c =
    let low = c.extremes-low.result.low in
    let high = c.extremes-low.result.high in
    let f : SFits w64 low = search rules in
    let g : SFits w64 high = search rules in
    let m : c.from.result ≡ max (nat_abs low) (nat_abs high) = c.from.ensures ∙ c.max-largest.ensures ∙ (λ i. max ((c.unsigned_abs.ensures.value ∙ ap nat_abs (to_z-of_z f)) i) ((c.unsigned_abs-2.ensures.value ∙ ap nat_abs (to_z-of_z g)) i)) in
    some_larger c.args.state.now.factors Shear (ledger c.args.sheet.now).rows c.extremes-low.result c.extremes-low.ensures.answer (100 * c.args.resistance) (omega (arith, c.if-from.true, c.from-2.ensures))
