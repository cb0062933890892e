-- `questions::extremes_of::extremes` meets its contract.
use Rattle.std.proofs.Common.{◌≡◌, ◌^◌, ◌≤◌, get_or, ℤ, pos, ◌+ℤ◌, nat_abs, sym, ap, ◌∙◌, subst}
use Rattle.loads.specs.declared.load_type.LoadType.{LoadType}
use Rattle.loads.specs.declared.load_type.LoadType.TheVariants.{Dc, Dw, Ll, Ws}
use Rattle.loads.specs.Factors.{index, range}
use Rattle.sheet.specs.Ledger.{ledger}
use Rattle.sheet.specs.Totals.{type_sum}
use Rattle.questions.specs.Products.{least, greatest}
use Rattle.questions.proofs.Products.{bits, sum_bits, four_back, four_fits}
use Rattle.questions.proofs.Choices.{extremes_from, extremes_only}
use Rattle.questions.proofs.extremes_of.extremes.Goals as goal

passed : (z : ℤ) → nat_abs z ≤ 2 ^ 37 → nat_abs (bits z) ≤ 2 ^ 37
passed z h = subst (λ (x : ℤ). nat_abs x ≤ 2 ^ 37) (sym (sum_bits z h)) h

pub type_extremes-dc-requires : goal.type_extremes-dc-requires
type_extremes-dc-requires c = passed (get_or c.type_sums.result 0 (pos 0)) (c.type_sums.ensures.bound Dc)

pub type_extremes-dw-requires : goal.type_extremes-dw-requires
type_extremes-dw-requires c = passed (get_or c.type_sums.result 1 (pos 0)) (c.type_sums.ensures.bound Dw)

pub type_extremes-ll-requires : goal.type_extremes-ll-requires
type_extremes-ll-requires c = passed (get_or c.type_sums.result 2 (pos 0)) (c.type_sums.ensures.bound Ll)

pub type_extremes-ws-requires : goal.type_extremes-ws-requires
type_extremes-ws-requires c = passed (get_or c.type_sums.result 3 (pos 0)) (c.type_sums.ensures.bound Ws)

pub overflow_add-result-3 : goal.overflow_add-result-3
overflow_add-result-3 c =
    four_fits c.type_extremes-dc.result.low c.type_extremes-dw.result.low c.type_extremes-ll.result.low c.type_extremes-ws.result.low
    c.type_extremes-dc.ensures.small.0 c.type_extremes-dw.ensures.small.0 c.type_extremes-ll.ensures.small.0 c.type_extremes-ws.ensures.small.0

pub overflow_add-result-6 : goal.overflow_add-result-6
overflow_add-result-6 c =
    four_fits c.type_extremes-dc.result.high c.type_extremes-dw.result.high c.type_extremes-ll.result.high c.type_extremes-ws.result.high
    c.type_extremes-dc.ensures.small.1 c.type_extremes-dw.ensures.small.1 c.type_extremes-ll.ensures.small.1 c.type_extremes-ws.ensures.small.1

pub returns : goal.returns
returns c =
    let fs = c.args.state.now.factors in
    let k = c.args.kind in
    let rows = (ledger c.args.sheet.now).rows in
    let sums = c.type_sums.result in
    let sum : (t : LoadType) → bits (get_or sums (index t) (pos 0)) ≡ type_sum t k rows = λ t. sum_bits (get_or sums (index t) (pos 0)) (c.type_sums.ensures.bound t) ∙ c.type_sums.ensures.value t in
    let lows =
    four_back c.type_extremes-dc.result.low c.type_extremes-dw.result.low c.type_extremes-ll.result.low c.type_extremes-ws.result.low
    c.type_extremes-dc.ensures.small.0 c.type_extremes-dw.ensures.small.0 c.type_extremes-ll.ensures.small.0 c.type_extremes-ws.ensures.small.0 in
    let highs =
    four_back c.type_extremes-dc.result.high c.type_extremes-dw.result.high c.type_extremes-ll.result.high c.type_extremes-ws.result.high
    c.type_extremes-dc.ensures.small.1 c.type_extremes-dw.ensures.small.1 c.type_extremes-ll.ensures.small.1 c.type_extremes-ws.ensures.small.1 in
    let found = extremes_from fs k rows _ c.args.state.now.lawful
    (lows ∙ (λ i. (c.type_extremes-dc.ensures.low ∙ ap (least (range fs Dc)) (sum Dc)) i +ℤ (c.type_extremes-dw.ensures.low ∙ ap (least (range fs Dw)) (sum Dw)) i +ℤ (c.type_extremes-ll.ensures.low ∙ ap (least (range fs Ll)) (sum Ll)) i +ℤ (c.type_extremes-ws.ensures.low ∙ ap (least (range fs Ws)) (sum Ws)) i))
    (highs ∙ (λ i. (c.type_extremes-dc.ensures.high ∙ ap (greatest (range fs Dc)) (sum Dc)) i +ℤ (c.type_extremes-dw.ensures.high ∙ ap (greatest (range fs Dw)) (sum Dw)) i +ℤ (c.type_extremes-ll.ensures.high ∙ ap (greatest (range fs Ll)) (sum Ll)) i +ℤ (c.type_extremes-ws.ensures.high ∙ ap (greatest (range fs Ws)) (sum Ws)) i)) in
    record { answer = found; only = λ e x. extremes_only fs k rows _ e found x }
