-- `sheet::held::Sheet::try_place` meets its contract.
use Rattle.std.proofs.Common.{◌<◌, length, set, Some, sym, ap, ◌∙◌, subst, arith}
use Rattle.sheet.specs.declared.plate.Plate.{Plate}
use Rattle.sheet.specs.Slots.{full}
use Rattle.sheet.specs.Plates.{plate_of, force, stands}
use Rattle.sheet.specs.Invariants.{Light, Within, Once}
use Rattle.sheet.proofs.Kept.{lawful_force, light_put, within_put}
use Rattle.sheet.proofs.Roles.{once_put}
use Rattle.sheet.proofs.held.Sheet.try_place.Goals as goal

pub overflow_add-total_force : goal.overflow_add-total_force
overflow_add-total_force c =
    let made = c.in_ok-plate.ensures in
    omega (arith, lawful_force c.args.plate made.0, ap force made.1, c.args.self.now.light)

pub invariant_of-self : goal.invariant_of-self
invariant_of-self c =
    let s = c.args.self.now in
    let xs = s.plates.slots.items in
    let slot = c.in_ok-slot.slot.index in
    let free = c.in_ok-slot.ensures in
    let p = c.args.plate in
    let made = c.in_ok-plate.ensures in
    let lawful = made.0 in
    let is = made.1 in
    let h : slot < length xs = omega (arith, c.in_ok-slot.slot.inside, s.plates.slots.long) in
    let e = sym (c.put.ensures ∙ ap (λ (q : Plate). set xs slot (Some q)) is) in
    let apart = sym (c.if-has_role.ensures ∙ ap (λ (q : Plate). stands q.role xs) is) in
    record {
      light = subst Light e (light_put xs slot p h lawful (ap (full xs) free.0 ∙ free.1) (omega (arith, c.total_force.ensures, c.force.ensures, ap force is, c.if-total_force-force-gt-STRONGEST.false)));
      within = subst Within e (within_put xs slot p h lawful s.within);
      once = subst Once e (once_put xs slot (plate_of p) h s.once apart);
    }
