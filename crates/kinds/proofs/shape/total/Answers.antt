-- `kinds::shape::total` meets its contract.
use Rattle.std.proofs.Common.{◌≡◌, ◌≤◌, sum, rules, arith}
use Rattle.std.proofs.lemmas.List.Elements.{All-from_get_or}
use Rattle.std.proofs.lemmas.List.Sums.{sum_by-le}
use Rattle.kinds.proofs.shape.total.Goals as goal

pub returns-clause-small : goal.returns-clause-small
returns-clause-small c =
    let v : c.sum.result ≡ sum c.args.breadths.now = search rules in
    omega (arith, sum_by-le (λ x. x) 65535 c.args.breadths.now (All-from_get_or (λ x. x ≤ 65535) c.args.breadths.now 0 (λ i l. let f = c.type_inv.breadths i in omega arith)))
