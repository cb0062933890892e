-- `sheet::rows::Rows::put` meets its contract.
use Rattle.std.proofs.Common.{◌<◌, length, set, is_some, Some, None, sym, ap, ◌∙◌, subst, arith}
use Rattle.std.proofs.lemmas.List.{get_or-set_same, set-set}
use Rattle.loads.specs.declared.kind.EffectKind.TheVariants.{Moment, Shear}
use Rattle.sheet.specs.Slots.{full}
use Rattle.sheet.specs.Totals.{type_sums, Small}
use Rattle.sheet.proofs.Sums.{put_fits, put-summed, small_set, row_small}
use Rattle.sheet.proofs.rows.Rows.put.Goals as goal

pub overflow_add-self : goal.overflow_add-self
overflow_add-self c =
    let s = c.take_out.new.self in
    put_fits Moment s.slots.items s.slots.long s.small s.moments s.moments_summed c.args.row c.of_kind.result c.of_kind.ensures.value c.of_kind.ensures.bound
    c.from-load.result c.from-load.ensures

pub overflow_add-self-2 : goal.overflow_add-self-2
overflow_add-self-2 c =
    let s = c.take_out.new.self in
    put_fits Shear s.slots.items s.slots.long s.small s.shears s.shears_summed c.args.row c.of_kind-2.result c.of_kind-2.ensures.value c.of_kind-2.ensures.bound
    c.from-load.result c.from-load.ensures

pub invariant_of-self : goal.invariant_of-self
invariant_of-self c =
    let s = c.take_out.new.self in
    let xs = s.slots.items in
    let row = c.args.row in
    let h : c.args.slot.index < length xs = omega (arith, s.slots.long) in
    let g : c.args.slot.index < length c.args.self.now.slots.items = omega (arith, c.args.self.now.slots.long) in
    let empty = ap (λ l. full l c.args.slot.index) c.take_out.ensures ∙ ap is_some (get_or-set_same c.args.self.now.slots.items c.args.slot.index None None g) in
    let m = c.of_kind.ensures in
    let v = c.of_kind-2.ensures in
    let e = sym c.set.ensures in
    record {
      small = subst Small e (small_set xs c.args.slot.index (Some row) h s.small (row_small row c.of_kind.result c.of_kind-2.result m.value m.bound v.value v.bound));
      moments_summed = put-summed Moment xs s.slots.long s.small s.moments s.moments_summed row c.of_kind.result m.value m.bound c.from-load.result c.from-load.ensures c.args.slot.index h empty ∙ ap (type_sums Moment) e;
      shears_summed = put-summed Shear xs s.slots.long s.small s.shears s.shears_summed row c.of_kind-2.result v.value v.bound c.from-load.result c.from-load.ensures c.args.slot.index h empty ∙ ap (type_sums Shear) e;
    }

pub returns : goal.returns
returns c = c.set.ensures ∙ ap (λ l. set l c.args.slot.index (Some c.args.row)) c.take_out.ensures ∙ set-set c.args.self.now.slots.items c.args.slot.index None (Some c.args.row)
