-- `sheet::held::Sheet::lift` meets its contract.
use Rattle.std.proofs.Common.{◌<◌, length, sym, subst, arith}
use Rattle.sheet.specs.Invariants.{Light, Within, Once}
use Rattle.sheet.proofs.Kept.{light_lift, within-lift}
use Rattle.sheet.proofs.Roles.{once_lift}
use Rattle.sheet.proofs.held.Sheet.lift.Goals as goal

pub invariant_of-self : goal.invariant_of-self
invariant_of-self c =
    let s = c.args.self.now in
    let xs = s.plates.slots.items in
    let slot = c.in_ok-slot.slot.index in
    let h : slot < length xs = omega (arith, c.in_ok-slot.slot.inside, s.plates.slots.long) in
    let e = sym c.take_out.ensures in
    record {
      light = subst Light e (light_lift xs slot h s.light);
      within = subst Within e (within-lift xs slot h s.within);
      once = subst Once e (once_lift xs slot h s.once);
    }
