-- `kinds::shape::ShapePart::resultants` meets its contract.
use Rattle.std.proofs.Common.{◌≡◌, ◌*◌, ◌≤◌, length, get_or, take_all, arith}
use Rattle.section.specs.declared.sense.Sense.{Sense}
use Rattle.section.specs.declared.sense.Sense.TheVariants.{Sagging}
use Rattle.section.proofs.Together.{resultants_none}
use Rattle.kinds.proofs.Tables.{empty_table, upper_turn, lower_turn, table_small}
use Rattle.kinds.proofs.shape.ShapePart.resultants.Goals as goal
use Rattle.kinds.proofs.shape.ShapePart.resultants.Goals.{then-strip-level, else-strip-level}

pub loop-i-init : goal.loop-i-init
loop-i-init c =
    let z = c.default-at.ensures in
    λ (sense : Sense). rw (z.0, z.1.0, z.1.1, empty_table c.args.self.now.top c.args.self.now.fy) (resultants_none sense c.min-level.result (omega arith))

pub returns : goal.returns
returns c =
    let t = c.args.self.now in
    let all : length t.breadths.now ≤ c.loop-i.i = omega arith in
    rw (← c.min-level.ensures) (rw (take_all _ _ all) at (c.loop-i.invariant c.args._sense))

pub overflow_add-at : goal.overflow_add-at
overflow_add-at c =
    let t = c.args.self.now in
    let i = c.loop-i.i in
    let force : c.from.result * c.from-in-loop-i.result ≡ get_or t.breadths.now i 0 * t.fy = cc in
    let turn = upper_turn t.top t.fy t.breadths.now Sagging i c.min-level.result c.loop-i.at (omega arith) (omega arith) (omega arith) (c.loop-i.invariant Sagging) in
    let b = table_small t.top t.fy t.breadths.now _ c.min-level.result _ t.inside t.light (omega arith) turn in
    omega arith

pub overflow_add-at-then-strip-level : goal.overflow_add-at-then-strip-level
overflow_add-at-then-strip-level c =
    let t = c.args.self.now in
    let i = c.loop-i.i in
    let force : c.from.result * c.from-in-loop-i.result ≡ get_or t.breadths.now i 0 * t.fy = cc in
    let turn = upper_turn t.top t.fy t.breadths.now Sagging i c.min-level.result c.loop-i.at (omega arith) (omega arith) (omega arith) (c.loop-i.invariant Sagging) in
    let b = table_small t.top t.fy t.breadths.now _ c.min-level.result _ t.inside t.light (omega arith) turn in
    rw (force, c.from-then-strip-level.ensures) (omega arith)

pub overflow_add-at-else-strip-level : goal.overflow_add-at-else-strip-level
overflow_add-at-else-strip-level c =
    let t = c.args.self.now in
    let i = c.loop-i.i in
    let force : c.from.result * c.from-in-loop-i.result ≡ get_or t.breadths.now i 0 * t.fy = cc in
    let turn = lower_turn t.top t.fy t.breadths.now Sagging i c.min-level.result c.loop-i.at (omega arith) (omega arith) (omega (arith, t.inside)) (c.loop-i.invariant Sagging) in
    let b = table_small t.top t.fy t.breadths.now _ c.min-level.result _ t.inside t.light (omega arith) turn in
    omega arith

pub overflow_add-at-else-strip-level-3 : goal.overflow_add-at-else-strip-level-3
overflow_add-at-else-strip-level-3 c =
    let t = c.args.self.now in
    let i = c.loop-i.i in
    let force : c.from.result * c.from-in-loop-i.result ≡ get_or t.breadths.now i 0 * t.fy = cc in
    let turn = lower_turn t.top t.fy t.breadths.now Sagging i c.min-level.result c.loop-i.at (omega arith) (omega arith) (omega (arith, t.inside)) (c.loop-i.invariant Sagging) in
    let b = table_small t.top t.fy t.breadths.now _ c.min-level.result _ t.inside t.light (omega arith) turn in
    rw (force, c.from-else-strip-level.ensures) (omega arith)

pub loop-i-preserved : goal.loop-i-preserved
loop-i-preserved c =
    let t = c.args.self.now in
    let i = c.loop-i.i in
    let force : c.from.result * c.from-in-loop-i.result ≡ get_or t.breadths.now i 0 * t.fy = cc in
    elim c.if-strip-level.branch [
      | then-strip-level w ↦ λ (sense : Sense). simp (w.at-is, w.from-then-strip-level.ensures, force) (upper_turn t.top t.fy t.breadths.now sense i c.min-level.result c.loop-i.at (omega arith) w.if-strip-level.true (omega arith) (c.loop-i.invariant sense))
      | else-strip-level w ↦ λ (sense : Sense). simp (w.at-is, w.from-else-strip-level.ensures, force) (lower_turn t.top t.fy t.breadths.now sense i c.min-level.result c.loop-i.at (omega arith) w.if-strip-level.false (omega (arith, t.inside)) (c.loop-i.invariant sense))
    ]
