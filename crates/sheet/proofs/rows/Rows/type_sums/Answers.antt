-- `sheet::rows::Rows::type_sums` meets its contract.
use Rattle.std.proofs.Common.{◌≡◌, ◌^◌, ◌≤◌, List, get_or, ℤ, pos, nat_abs, sym, ap, ◌∙◌, subst}
use Rattle.loads.specs.declared.load_type.LoadType.{LoadType}
use Rattle.loads.specs.declared.kind.EffectKind.{EffectKind}
use Rattle.loads.specs.Factors.{index}
use Rattle.sheet.specs.Totals.{type_sum, type_sums}
use Rattle.sheet.proofs.Sums.{sum_read, sum_small}
use Rattle.sheet.proofs.rows.Rows.type_sums.Goals as goal

pub returns-in-Moment : goal.returns-in-Moment
returns-in-Moment c =
    let s = c.args.self.now in
    let k = c.args.kind in
    let are : s.moments ≡ type_sums k s.slots.items = s.moments_summed ∙ ap (λ (q : EffectKind). type_sums q s.slots.items) (sym c.in-Moment.is) in
    let value : (t : LoadType) → get_or s.moments (index t) (pos 0) ≡ type_sum t k s.slots.items = λ t. ap (λ (ss : List ℤ). get_or ss (index t) (pos 0)) are ∙ sum_read t k s.slots.items in
    record { value = value; bound = λ t. subst (λ (z : ℤ). nat_abs z ≤ 2 ^ 37) (sym (value t)) (sum_small t k s.slots.items s.slots.long s.small) }

pub returns-in-Shear : goal.returns-in-Shear
returns-in-Shear c =
    let s = c.args.self.now in
    let k = c.args.kind in
    let are : s.shears ≡ type_sums k s.slots.items = s.shears_summed ∙ ap (λ (q : EffectKind). type_sums q s.slots.items) (sym c.in-Shear.is) in
    let value : (t : LoadType) → get_or s.shears (index t) (pos 0) ≡ type_sum t k s.slots.items = λ t. ap (λ (ss : List ℤ). get_or ss (index t) (pos 0)) are ∙ sum_read t k s.slots.items in
    record { value = value; bound = λ t. subst (λ (z : ℤ). nat_abs z ≤ 2 ^ 37) (sym (value t)) (sum_small t k s.slots.items s.slots.long s.small) }
