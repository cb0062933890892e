-- `section::axes::plastic_axis` meets its contract.
use Rattle.std.proofs.Common.{◌≡◌, ℕ, ◌+◌, ◌/◌, ◌-◌, ◌^◌, ◌<◌, ◌≤◌, min, Some, Option, refl, subst, arith}
use Rattle.section.specs.declared.sense.Sense.{Sense}
use Rattle.section.specs.declared.forces.Forces.{Forces}
use Rattle.section.specs.declared.resultants.Resultants.{Resultants}
use Rattle.section.specs.Parts.{IsResultants}
use Rattle.section.proofs.Search.{Narrowed, ToldBefore, narrowed_parts, narrowed_low, narrowed_high, at_before, at_here, larger_before, one_up}
use Rattle.section.proofs.Together.{lawful_depth, lawful_forces_both, lawful_both_small}
use Rattle.section.proofs.axes.plastic_axis.Goals as goal
use Rattle.section.proofs.axes.plastic_axis.Goals.{in-Some+else-before-here, in_default}

pub loop-low-init : goal.loop-low-init
loop-low-init g c =
    let a = lawful_depth g.P.Part.laws c.args.first.now _ c.depth.ensures in
    let b = lawful_depth g.Q.Part.laws c.args.second.now _ c.depth-2.ensures in
    record {
      narrowed = narrowed_parts c.args.sense _ _ _ _ _ _ _ c.depth.ensures c.depth-2.ensures a b c.max-high.ensures;
      told = refl;
    }

pub loop-low-preserved-then-at : goal.loop-low-preserved-then-at
loop-low-preserved-then-at g c =
    let is = lawful_forces_both g.P.Part.laws g.Q.Part.laws c.args.first.now c.args.second.now c.args.sense _ c.forces.result c.forces-in-loop-low.result c.add-at.result c.forces.ensures c.forces-in-loop-low.ensures c.add-at.ensures in
    let e : (c.loop-low.low + c.loop-low.high) / 2 + 1 - 1 ≡ (c.loop-low.low + c.loop-low.high) / 2 = omega arith in
    record {
      narrowed = narrowed_low c.args.sense _ _ c.loop-low.low c.loop-low.high _ _ c.loop-low.invariant.narrowed (omega arith) is c.if-at.true;
      told = (omega arith, (rw e is, lawful_both_small g.P.Part.laws g.Q.Part.laws c.args.first.now c.args.second.now c.args.sense _ c.forces.result c.forces-in-loop-low.result c.add-at.result c.forces.ensures c.forces-in-loop-low.ensures c.add-at.ensures));
    }

pub loop-low-preserved : goal.loop-low-preserved
loop-low-preserved g c =
    record {
      narrowed = narrowed_high c.args.sense _ _ c.loop-low.low c.loop-low.high _ _ c.loop-low.invariant.narrowed (omega arith) (omega arith)
          (lawful_forces_both g.P.Part.laws g.Q.Part.laws c.args.first.now c.args.second.now c.args.sense _ c.forces.result c.forces-in-loop-low.result c.add-at.result c.forces.ensures c.forces-in-loop-low.ensures c.add-at.ensures) c.if-at.false;
      told = c.loop-low.invariant.told;
    }

-- what is told of the level before, where there is one
up : {s : Sense} {p q : ℕ → ℕ} (low high : ℕ) (t : Resultants) (o : Option Forces) (f : Forces) → Narrowed s p q low high → IsResultants s p q (min low 4096) t → ToldBefore s p q low o → o ≡ Some f →
    (0 < low) × ((t.above + f.above ≤ t.moment + (t.below + f.below)) × IsResultants s p q (min (low - 1) 4096) (record { above = f.above; below = f.below; moment = t.moment + (t.below + f.below) - (t.above + f.above) }))
up {s} {p} {q} low high t o f n ht told is =
    let k = subst (ToldBefore s p q low) is told in
    (k.0, one_up s p q low t f k.0 (omega (arith, n.bounded, n.ordered)) ht k.1.0)

small : (s : Sense) (p q : ℕ → ℕ) (low : ℕ) (o : Option Forces) (f : Forces) → ToldBefore s p q low o → o ≡ Some f → (f.above ≤ 2 ^ 37) × (f.below ≤ 2 ^ 37)
small s p q low o f told is = (subst (ToldBefore s p q low) is told).1.1

pub returns-then-before-here : goal.returns-then-before-here
returns-then-before-here g c =
    let l = c.loop-low.invariant in
    let u = up _ _ c.together-here.result c.loop-low.before c.in-Some.at l.narrowed c.together-here.ensures.is l.told c.in-Some.is in
    at_before c.args.sense _ _ c.loop-low.low c.loop-low.high _ _ _ l.narrowed (omega arith) u.0 u.1.1 c.together-here.ensures.is (omega arith) c.judge.ensures

pub returns : goal.returns
returns g c =
    let l = c.loop-low.invariant in
    at_here c.args.sense _ _ c.loop-low.low c.loop-low.high _ _ l.narrowed (omega arith)
    (elim c.match-before.branch [
      | in-Some+else-before-here w ↦ larger_before c.args.sense _ _ c.loop-low.low _ _ (omega (arith, l.narrowed.bounded, l.narrowed.ordered)) (up _ _ c.together-here.result c.loop-low.before w.in-Some.at l.narrowed c.together-here.ensures.is l.told w.in-Some.is).1.1 c.together-here.ensures.is w.if-before-here.false
      | in_default w ↦ λ j x. absurd (let none = subst (ToldBefore c.args.sense _ _ c.loop-low.low) w.in_default.is l.told in let z : ⊥ = omega arith in z)
    ])
    c.together-here.ensures.is c.judge-2.ensures

pub overflow_add-before : goal.overflow_add-before
overflow_add-before g c = let b = small c.args.sense _ _ c.loop-low.low c.loop-low.before c.in-Some.at c.loop-low.invariant.told c.in-Some.is in omega (arith, c.together-here.ensures.small.1)

pub overflow_sub-before : goal.overflow_sub-before
overflow_sub-before g c = (up _ _ c.together-here.result c.loop-low.before c.in-Some.at c.loop-low.invariant.narrowed c.together-here.ensures.is c.loop-low.invariant.told c.in-Some.is).1.0

pub overflow_add-before-in-Some : goal.overflow_add-before-in-Some
overflow_add-before-in-Some g c = let b = small c.args.sense _ _ c.loop-low.low c.loop-low.before c.in-Some.at c.loop-low.invariant.told c.in-Some.is in omega (arith, c.together-here.ensures.small.1, c.together-here.ensures.small.2)

pub overflow_add-before-in-Some-2 : goal.overflow_add-before-in-Some-2
overflow_add-before-in-Some-2 g c = let b = small c.args.sense _ _ c.loop-low.low c.loop-low.before c.in-Some.at c.loop-low.invariant.told c.in-Some.is in omega (arith, c.together-here.ensures.small.0)
