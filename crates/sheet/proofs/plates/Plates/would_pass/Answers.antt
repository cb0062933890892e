-- `sheet::plates::Plates::would_pass` meets its contract.
use Rattle.std.proofs.Common.{◌≡◌, rules, tests, ap, ◌∙◌}
use Rattle.sheet.proofs.Feet.{foot_passes, passes_lowest}
use Rattle.sheet.proofs.plates.Plates.would_pass.Goals as goal

pub returns : goal.returns
returns c =
    let s = c.args.self.now in
    let told : c.is_some_and.result ≡ foot_passes c.args.n s.foot = search (rules, tests) in
    told ∙ ap (foot_passes c.args.n) s.footed ∙ passes_lowest c.args.n s.slots.items
