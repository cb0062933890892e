-- `sheet::held::Sheet::lower` meets its contract.
use Rattle.std.proofs.Common.{sym, subst}
use Rattle.sheet.specs.Invariants.{Light, Within, Once}
use Rattle.sheet.proofs.Kept.{light_lower, within-lower}
use Rattle.sheet.proofs.Roles.{once_lowered}
use Rattle.sheet.proofs.held.Sheet.lower.Goals as goal

pub invariant_of-self : goal.invariant_of-self
invariant_of-self c =
    let s = c.args.self.now in
    let xs = s.plates.slots.items in
    let e = sym c.lower.ensures in
    record {
      light = subst Light e (light_lower _ xs s.light);
      within = subst Within e (within-lower _ xs s.within (sym c.if-would_pass.ensures));
      once = subst Once e (once_lowered _ xs s.once);
    }
