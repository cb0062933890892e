use Rattle.std.proofs.Common.{rules, tests, ◌≡◌, ℕ, ◌+◌, ◌%◌, ◌^◌, ◌<◌, length, Some, None, sym, ap, ◌∙◌, arith}
use lib.ListN.{length-map}
use Rattle.std.specs.Option.{option_map}
use Rattle.std.proofs.iter.Serving.{serving}
use Rattle.std.proofs.lemmas.Bool.{ltb-false}
use Rattle.sheet.specs.Plates.{total_force, lowest_foot, lowered_in, passes_in}
use Rattle.sheet.proofs.Lowering.{some_none, total_force_kept, over_here, over_step, over_all}
use Rattle.sheet.proofs.Feet.{foot-lowered, foot_stays}
use Rattle.sheet.specs.RoleSlots.{slot_with}
use Rattle.sheet.proofs.MeasuresKept.{fits_same, fits_lower}
use Rattle.sheet.proofs.RolePlaces.{read_note, make_note, slot-lowered}
use Rattle.sheet.proofs.plates.Plates.lower.Goals as goal
use Rattle.sheet.proofs.plates.Plates.lower.Goals.{in-Some, in_default}

pub invariant_of-self : goal.invariant_of-self
invariant_of-self c =
    let slots = c.args.self.now.slots.items in
    let f = lowered_in c.args.n in
    let long = c.args.self.now.slots.long in
    let m = c.args.self.now.measures in
    let all = over_all f slots c.loop-slot.slot-items c.loop-slot.slot-index c.loop-slot.invariant (omega (arith, long)) in
    let totalled = c.args.self.now.totalled ∙ sym (ap (λ (n : ℕ). n % 2 ^ 64) (ap total_force all ∙ total_force_kept c.args.n slots)) in
    let placed = make_note c.args.self.now.roles c.loop-slot.slot-items (λ r. read_note c.args.self.now.roles slots c.args.self.now.placed r ∙ sym (ap (slot_with r) all ∙ slot-lowered c.args.n r slots)) in
    let measured = fits_same _ _ _ _ _ _ _ _ all c.lower.ensures.tops c.lower.ensures.heights c.lower.ensures.strengths (fits_lower c.args.n slots m.tops m.heights m.strengths (omega (arith, long, m.topped)) c.requires c.args.self.now.measured) in
    let moved : c.map-self.result ≡ option_map (λ f. f + c.args.n) c.args.self.now.foot = search (rules, tests) in
    let footed = moved ∙ ap (option_map (λ f. f + c.args.n)) c.args.self.now.footed ∙ sym (ap lowest_foot all ∙ foot-lowered c.args.n slots) in
    ((ap length all ∙ length-map slots f ∙ long, tt), (totalled, (footed, (placed, (measured, tt)))))

pub map-self-requires : goal.map-self-requires
map-self-requires c = λ x e. let b = foot_stays c.args.n c.args.self.now.slots.items c.requires x (sym c.args.self.now.footed ∙ e) in grind (serving, arith)

pub overflow_add-plate : goal.overflow_add-plate
overflow_add-plate c =
    let slots = c.args.self.now.slots.items in
    let n = c.args.n in
    let i = c.loop-slot.slot-index in
    let h : i < length slots = omega (arith, c.args.self.now.slots.long) in
    let here = sym (over_here (lowered_in n) slots c.loop-slot.slot-items i c.loop-slot.invariant None h) ∙ c.in-Some.is in
    let low = sym (ap (passes_in n) here) ∙ some_none (passes_in n) slots i None h c.requires in
    omega (arith, ltb-false _ _ low)

pub loop-slot-preserved : goal.loop-slot-preserved
loop-slot-preserved c =
    let slots = c.args.self.now.slots.items in
    let f = lowered_in c.args.n in
    let i = c.loop-slot.slot-index in
    let now' = c.loop-slot.slot-items in
    let h : i < length slots = omega (arith, c.args.self.now.slots.long) in
    elim c.match-slot.branch [
      | in-Some w ↦ w.slot-items-is ∙ over_step f slots now' i c.loop-slot.invariant None (Some w.in-Some.plate) h w.in-Some.is
      | in_default w ↦ rw w.in_default.is at w.slot-items-is ∙ over_step f slots now' i c.loop-slot.invariant None None h w.in_default.is
    ]

pub returns : goal.returns
returns c =
    over_all (lowered_in c.args.n) c.args.self.now.slots.items c.loop-slot.slot-items c.loop-slot.slot-index c.loop-slot.invariant (omega (arith, c.args.self.now.slots.long))
