-- `sheet::rows::Rows::take_out` meets its contract.
use Rattle.std.proofs.Common.{◌<◌, length, set, None, sym, ap, ◌∙◌, subst, arith}
use Rattle.std.proofs.lemmas.List.{set-get_or}
use Rattle.loads.specs.declared.kind.EffectKind.TheVariants.{Moment, Shear}
use Rattle.sheet.specs.Totals.{type_sums, Small}
use Rattle.sheet.proofs.Sums.{out_fits, out-summed, small_set}
use Rattle.sheet.proofs.rows.Rows.take_out.Goals as goal

pub overflow_sub-self : goal.overflow_sub-self
overflow_sub-self c =
    let s = c.args.self.now in
    out_fits Moment s.slots.items s.slots.long s.small s.moments s.moments_summed c.in-Some.row c.of_kind.result c.of_kind.ensures.value c.of_kind.ensures.bound
    c.from-load.result c.from-load.ensures

pub overflow_sub-self-in-Some : goal.overflow_sub-self-in-Some
overflow_sub-self-in-Some c =
    let s = c.args.self.now in
    out_fits Shear s.slots.items s.slots.long s.small s.shears s.shears_summed c.in-Some.row c.of_kind-in-Some.result c.of_kind-in-Some.ensures.value c.of_kind-in-Some.ensures.bound
    c.from-load.result c.from-load.ensures

pub invariant_of-self : goal.invariant_of-self
invariant_of-self c =
    let s = c.args.self.now in
    let xs = s.slots.items in
    let row = c.in-Some.row in
    let h : c.args.slot.index < length xs = omega (arith, s.slots.long) in
    let m = c.of_kind.ensures in
    let v = c.of_kind-in-Some.ensures in
    let e = sym c.set.ensures in
    record {
      small = subst Small e (small_set xs c.args.slot.index None h s.small (omega arith));
      moments_summed = out-summed Moment xs s.slots.long s.small s.moments s.moments_summed row c.of_kind.result m.value m.bound c.from-load.result c.from-load.ensures c.args.slot.index h (sym c.in-Some.ensures) ∙ ap (type_sums Moment) e;
      shears_summed = out-summed Shear xs s.slots.long s.small s.shears s.shears_summed row c.of_kind-in-Some.result v.value v.bound c.from-load.result c.from-load.ensures c.args.slot.index h (sym c.in-Some.ensures) ∙ ap (type_sums Shear) e;
    }

pub returns-in_default : goal.returns-in_default
returns-in_default c =
    let xs = c.args.self.now.slots.items in
    sym (set-get_or xs c.args.slot.index None) ∙ ap (set xs c.args.slot.index) (sym c.in_default.ensures)
