-- `sheet::held::Sheet::new` meets its contract.
use Rattle.std.proofs.Common.{sym, subst}
use Rattle.sheet.specs.Invariants.{Light, Within, Once}
use Rattle.sheet.proofs.Kept.{light_empties, within-empties}
use Rattle.sheet.proofs.Roles.{once_empties}
use Rattle.sheet.proofs.held.Sheet.new.Goals as goal

pub invariant_of-result : goal.invariant_of-result
invariant_of-result c =
    let e = sym c.new.ensures in
    record {
      light = subst Light e (light_empties 24);
      within = subst Within e (within-empties 24);
      once = subst Once e (once_empties 24);
    }
