-- `sheet::plates::Plates::put` meets its contract.
use Rattle.std.proofs.Common.{◌≡◌, ◌<◌, cond, length, set, Some, None, ℕ, sym, ap, ◌∙◌, subst, arith}
use Rattle.std.proofs.lemmas.List.{get_or-set_same, set-set}
use Rattle.std.proofs.lemmas.List.Sums.{sum_by-set}
use Rattle.sheet.specs.Slots.{content}
use Rattle.sheet.specs.RoleSlots.{noted, earlier, slot_with, Noted}
use Rattle.sheet.specs.Plates.{force_in, total_force, lower_foot, lowest_foot, clash}
use Rattle.sheet.proofs.TotalKept.{total_more}
use Rattle.sheet.proofs.Feet.{lower_of, foot_put}
use Rattle.sheet.proofs.MeasuresKept.{fits_same, fits_put}
use Rattle.sheet.proofs.RolePlaces.{read_note, make_note, slot_put}
use Rattle.sheet.proofs.plates.Plates.put.Goals as goal

pub invariant_of-self : goal.invariant_of-self
invariant_of-self c =
    let s = c.take_out.new.self in
    let xs = s.slots.items in
    let slot = c.args.slot.index in
    let p = c.args.plate in
    let h : slot < length xs = omega (arith, s.slots.long) in
    let g : slot < length c.args.self.now.slots.items = omega (arith, c.args.self.now.slots.long) in
    let empty : content xs slot ≡ None = ap (λ l. content l slot) c.take_out.ensures ∙ get_or-set_same c.args.self.now.slots.items slot None None g in
    let m = s.measures in
    record {
      totalled = total_more s.total _ _ c.force.result s.totalled (omega (arith, c.force.ensures, sum_by-set force_in xs slot (Some p) None h, ap force_in empty, ap total_force c.set.ensures));
      footed =
          c.max-self.ensures ∙ lower_of c.foot.result s.foot ∙ (λ i. Some (lower_foot (c.foot.ensures i) (s.footed i)))
          ∙ foot_put xs slot p h empty ∙ ap lowest_foot (sym c.set.ensures);
      placed =
          subst (Noted c.note.new.self) (sym c.set.ensures)
          (make_note _ (set xs slot (Some p))
          (λ r. c.note.ensures r
          ∙ ap (λ (n : ℕ). cond (clash p.role r) (Some n) (noted r s.roles)) (c.first-first.ensures ∙ ap (earlier slot) (read_note s.roles xs s.placed p.role))
          ∙ ap (cond (clash p.role r) (Some (earlier slot (slot_with p.role xs)))) (read_note s.roles xs s.placed r)
          ∙ slot_put xs slot p h empty r));
      measured = fits_same _ _ _ _ _ _ _ _ c.set.ensures c.note-2.ensures.tops c.note-2.ensures.heights c.note-2.ensures.strengths (fits_put xs m.tops m.heights m.strengths slot p h (omega (arith, m.topped, c.args.slot.inside)) (omega (arith, m.sized, c.args.slot.inside)) (omega (arith, m.strong, c.args.slot.inside)) s.measured);
    }

pub returns : goal.returns
returns c = c.set.ensures ∙ ap (λ l. set l c.args.slot.index (Some c.args.plate)) c.take_out.ensures ∙ set-set c.args.self.now.slots.items c.args.slot.index None (Some c.args.plate)
