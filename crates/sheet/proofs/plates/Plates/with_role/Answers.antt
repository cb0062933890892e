-- `sheet::plates::Plates::with_role` meets its contract.
use Rattle.std.proofs.Common.{sym, ap, ◌∙◌, arith}
use Rattle.sheet.proofs.RolePlaces.{read_note, single, at_slot, standing-slot, slot_below}
use Rattle.sheet.proofs.plates.Plates.with_role.Goals as goal

pub bounds-self-slot : goal.bounds-self-slot
bounds-self-slot c =
    let s = c.args.self.now in
    omega (arith, s.slots.long, slot_below c.args.role s.slots.items c.in_ok-slot.slot (sym c.in_ok-slot.was ∙ c.get.ensures ∙ read_note s.roles s.slots.items s.placed c.args.role))

pub returns : goal.returns
returns c =
    let s = c.args.self.now in
    let role = c.args.role in
    ap (at_slot s.slots.items) (sym c.in_ok-slot.was ∙ c.get.ensures ∙ read_note s.roles s.slots.items s.placed role)
    ∙ sym (standing-slot role (single role (sym c.if-eq.ensures)) s.slots.items)

pub returns-in_err-slot : goal.returns-in_err-slot
returns-in_err-slot c =
    let s = c.args.self.now in
    let role = c.args.role in
    c.from_residual.ensures
    ∙ ap (at_slot s.slots.items) (sym c.in_err-slot.was ∙ c.get.ensures ∙ read_note s.roles s.slots.items s.placed role)
    ∙ sym (standing-slot role (single role (sym c.if-eq.ensures)) s.slots.items)

pub offset_bounds-self-slot : goal.offset_bounds-self-slot
offset_bounds-self-slot c =
    let s = c.args.self.now in
    omega (arith, s.slots.long, slot_below c.args.role s.slots.items c.in_ok-slot.slot (sym c.in_ok-slot.was ∙ c.get.ensures ∙ read_note s.roles s.slots.items s.placed c.args.role))
