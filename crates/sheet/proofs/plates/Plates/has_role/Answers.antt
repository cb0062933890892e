-- `sheet::plates::Plates::has_role` meets its contract.
use Rattle.std.proofs.Common.{is_some, sym, ap, ◌∙◌}
use Rattle.sheet.proofs.RolePlaces.{read_note, stands-slot}
use Rattle.sheet.proofs.plates.Plates.has_role.Goals as goal

pub returns : goal.returns
returns c =
    let s = c.args.self.now in
    let role = c.args.role in
    c.is_some.ensures ∙ ap is_some (c.get.ensures ∙ read_note s.roles s.slots.items s.placed role) ∙ sym (stands-slot role s.slots.items)
