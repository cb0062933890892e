-- `sheet::rows::Rows::new` meets its contract.
use Rattle.std.proofs.Common.{sym, ap, ◌∙◌, subst}
use Rattle.loads.specs.declared.kind.EffectKind.TheVariants.{Moment, Shear}
use Rattle.sheet.specs.Totals.{type_sums, Small}
use Rattle.sheet.proofs.Sums.{small_empties, sums_empties}
use Rattle.sheet.proofs.rows.Rows.new.Goals as goal

pub invariant_of-result : goal.invariant_of-result
invariant_of-result c =
    let e = sym c.empty.ensures in
    record {
      small = subst Small e (small_empties 64);
      moments_summed = sums_empties Moment 64 ∙ ap (type_sums Moment) e;
      shears_summed = sums_empties Shear 64 ∙ ap (type_sums Shear) e;
    }
