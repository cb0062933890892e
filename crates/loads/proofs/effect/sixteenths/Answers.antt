-- `loads::effect::sixteenths` meets its contract. Assumes nothing.
use Rattle.std.proofs.Common.{T, sym, ◌∙◌, subst, to_z-of_z, w32}
use Rattle.loads.proofs.Sixteenths.{accepted, refused, out_low, out_high}
use Rattle.loads.proofs.Meaning.{judged_means}
use Rattle.loads.proofs.effect.sixteenths.Goals as goal
use Rattle.loads.proofs.effect.sixteenths.Goals.{else-x-via-then-x+else-x-2, else-x-via-else-x}

pub returns-then-from-y : goal.returns-then-from-y
returns-then-from-y c =
    let r = c.saturating_f64_to_i32-n in
    let e = accepted c.args.x _ (subst T (sym c.well_formed.0.1) tt) c.if-x.true c.if-x-2.true (to_z-of_z {w = w32} (record { sfits = r.type_inv }) ∙ r.ensures) (simp (c.from.ensures) at c.if-from-y.true) in
    record { value = e; means = judged_means c.args.x _ e }

pub returns-else-from-y : goal.returns-else-from-y
returns-else-from-y c =
    let r = c.saturating_f64_to_i32-n in
    let e = refused c.args.x _ (subst T (sym c.well_formed.0.1) tt) c.if-x.true c.if-x-2.true (to_z-of_z {w = w32} (record { sfits = r.type_inv }) ∙ r.ensures) (simp (c.from.ensures) at c.if-from-y.false) in
    record { value = e; means = judged_means c.args.x _ e }

pub returns-else-x : goal.returns-else-x
returns-else-x c =
    elim c.else-x.branch [
      | else-x-via-then-x+else-x-2 w ↦ let e = out_high c.args.x w.if-x-2.false in record { value = e; means = judged_means c.args.x _ e }
      | else-x-via-else-x w ↦ let e = out_low c.args.x w.if-x.false in record { value = e; means = judged_means c.args.x _ e }
    ]
