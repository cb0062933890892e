-- `sheet::plates::Plates::new` meets its contract.
use Rattle.std.proofs.Common.{◌%◌, ◌^◌, sym, refl, ap, ◌∙◌, subst}
use Rattle.sheet.specs.Slots.{empties}
use Rattle.sheet.specs.Plates.{total_force, lowest_foot}
use Rattle.sheet.specs.RoleSlots.{Noted}
use Rattle.sheet.proofs.Kept.{force-empties}
use Rattle.sheet.proofs.Feet.{foot-empties}
use Rattle.sheet.proofs.MeasuresKept.{fits_same, fits_empties}
use Rattle.sheet.proofs.RolePlaces.{make_note, unnoted, slot-empties}
use Rattle.sheet.proofs.plates.Plates.new.Goals as goal

pub invariant_of-result : goal.invariant_of-result
invariant_of-result c = record {
  totalled = ap (λ n. n % 2 ^ 64) (sym (ap total_force c.empty.ensures ∙ force-empties 24));
  footed = foot-empties 24 ∙ sym (ap lowest_foot c.empty.ensures);
  placed = subst (Noted c.default.result) (sym c.empty.ensures) (make_note c.default.result (empties 24) (λ r. unnoted c.default.result c.default.ensures r ∙ sym (slot-empties r 24)));
  measured = fits_same _ _ _ _ _ _ _ _ c.empty.ensures refl refl refl (fits_empties 24 _ _ _ c.new.ensures);
}
