-- `sheet::plates::Plates::take_out` meets its contract.
use Rattle.std.proofs.Common.{rules, tests, ◌≡◌, ℕ, ◌+◌, ◌<◌, cond, length, set, position, Some, None, Option, sym, ap, ◌∙◌, subst, arith}
use Rattle.std.proofs.lemmas.List.{set-get_or}
use Rattle.std.proofs.lemmas.List.Sums.{sum_by-set}
use Rattle.sheet.specs.Plates.{force_in, total_force, lower_foot, lowest_foot, clash, clash_in}
use Rattle.sheet.specs.RoleSlots.{noted, slot_with, Noted}
use Rattle.sheet.proofs.TotalKept.{total_less}
use Rattle.sheet.proofs.Feet.{kept_or, foot_out, foot_left}
use Rattle.sheet.proofs.MeasuresKept.{fits_same, fits_out}
use Rattle.sheet.proofs.RolePlaces.{read_note, make_note, slot_out, position-slot}
use Rattle.sheet.proofs.plates.Plates.take_out.Goals as goal

pub invariant_of-self-in-Some-2 : goal.invariant_of-self-in-Some-2
invariant_of-self-in-Some-2 c =
    let s = c.args.self.now in
    let p = c.in-Some.plate in
    let xs = s.slots.items in
    let slot = c.args.slot.index in
    let h : slot < length xs = omega (arith, s.slots.long) in
    let is = sym c.get.ensures ∙ c.in-Some.is in
    let m = s.measures in
    let found : c.or_else-self.result ≡ kept_or (p.top + p.height) s.foot (lowest_foot c.set.new.self.items) = search (rules, tests) in
    record {
      totalled = total_less s.total _ _ c.force.result (omega arith) s.totalled (omega (arith, c.force.ensures, sum_by-set force_in xs slot None None h, ap force_in is, ap total_force c.set.ensures));
      footed =
          found
          ∙ foot_left (p.top + p.height) s.foot (lowest_foot c.set.new.self.items)
          (s.footed ∙ foot_out xs slot p h is ∙ ap (λ ys. Some (lower_foot (p.top + p.height) (lowest_foot ys))) (sym c.set.ensures));
      placed =
          subst (Noted c.note.new.self) (sym c.set.ensures)
          (make_note _ (set xs slot None)
          (λ r. c.note.ensures r
          ∙ ap (λ (o : Option ℕ). cond (clash p.role r) o (noted r s.roles)) (c.first_slot-next.ensures ∙ ap (position (clash_in p.role)) c.set.ensures ∙ position-slot p.role (set xs slot None))
          ∙ ap (cond (clash p.role r) (slot_with p.role (set xs slot None))) (read_note s.roles xs s.placed r)
          ∙ slot_out xs slot p is r));
      measured = fits_same _ _ _ _ _ _ _ _ c.set.ensures c.clear.ensures.tops c.clear.ensures.heights c.clear.ensures.strengths (fits_out xs m.tops m.heights m.strengths slot h (omega (arith, m.sized, c.args.slot.inside)) s.measured);
    }

pub returns-in_default : goal.returns-in_default
returns-in_default c =
    let xs = c.args.self.now.slots.items in
    sym (set-get_or xs c.args.slot.index None) ∙ ap (set xs c.args.slot.index) (sym c.get.ensures ∙ c.in_default.is)
