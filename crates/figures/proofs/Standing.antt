-- Resultants, depths and the axis of standing plates in closed form, slot by slot, so that they compute.
use Rattle.std.proofs.Common.{◌≡◌, ℕ, suc, ◌+◌, ◌-◌, ◌*◌, ◌<◌, ◌≤◌, max, List, [], ◌∷◌, Some, None, Option, arith}
use Rattle.section.specs.declared.sense.Sense.{Sense}
use Rattle.section.specs.declared.sense.Sense.TheVariants.{Sagging}
use Rattle.section.specs.declared.resultants.Resultants.{Resultants}
use Rattle.section.specs.Strips.{force_above, force_below, moment_above, moment_below, imbalance_at, no_strips}
use Rattle.section.specs.Parts.{IsDepth, IsResultants}
use Rattle.section.specs.Axis.{IsAxis}
use Rattle.section.specs.Blocks.{block_strip}
use Rattle.section.proofs.ClosedForm.{between, is_above, is_below, block_depth}
use Rattle.section.proofs.Search.{turning_axis}
use Rattle.section.proofs.Together.{resultants_both, resultants_none, halves_alike, depth_both, depth_none}
use Rattle.sheet.specs.declared.plate.Plate.{Plate}
use Rattle.sheet.specs.PlateStrips.{plate_strips}

-- the force and the moment of strips of one strength w from near to far
abbrev pub force_of : ℕ → ℕ → ℕ → ℕ
force_of w near far = w * (far - near)

abbrev pub moment_of : ℕ → ℕ → ℕ → ℕ
moment_of w near far = w * (far * far - near * near)

module _ (top height w k : ℕ) (inside : top + height ≤ 4096) (level : k ≤ 4096) where
  above_of : (force_of w (k - (top + height)) (k - top) ≡ force_above (block_strip top height w) k) × (moment_of w (k - (top + height)) (k - top) ≡ moment_above (block_strip top height w) k)
  above_of = is_above top height w k (force_of w (k - (top + height)) (k - top), moment_of w (k - (top + height)) (k - top)) (between w (k - (top + height)) (k - top) (omega arith))

  below_of : (force_of w (top - k) (top + height - k) ≡ force_below 4096 (block_strip top height w) k) × (moment_of w (top - k) (top + height - k) ≡ moment_below 4096 (block_strip top height w) k)
  below_of = is_below top height w 4096 k (force_of w (top - k) (top + height - k), moment_of w (top - k) (top + height - k)) inside level (between w (top - k) (top + height - k) (omega arith))

abbrev pub block_at : ℕ → ℕ → ℕ → ℕ → Resultants
block_at top height w k = record {
  above = force_of w (k - (top + height)) (k - top);
  below = force_of w (top - k) (top + height - k);
  moment = moment_of w (k - (top + height)) (k - top) + moment_of w (top - k) (top + height - k);
}

-- a block that pushes and pulls
pub block_is : (s : Sense) (top height w k : ℕ) → top + height ≤ 4096 → k ≤ 4096 → IsResultants s (block_strip top height w) (block_strip top height w) k (block_at top height w k)
block_is s top height w k inside level =
    let a = above_of top height w k inside level in
    let b = below_of top height w k inside level in
    halves_alike s (block_strip top height w) k _ _ _ _ a.0 a.1 b.0 b.1

abbrev pub pushed_at : ℕ → ℕ → ℕ → ℕ → Resultants
pushed_at top height w k = record { above = force_of w (k - (top + height)) (k - top); below = 0; moment = moment_of w (k - (top + height)) (k - top) }

-- one that only pushes, in sagging
pub pushed_is : (top height w k : ℕ) → top + height ≤ 4096 → k ≤ 4096 → IsResultants Sagging (block_strip top height w) no_strips k (pushed_at top height w k)
pushed_is top height w k inside level =
    let a = above_of top height w k inside level in
    let z = resultants_none Sagging k level in
    record { above_is = a.0; below_is = z.below_is; moment_is = omega (arith, a.1, z.moment_is) }

abbrev pub zero_at : Resultants
zero_at = record { above = 0; below = 0; moment = 0 }

abbrev pub both_at : Resultants → Resultants → Resultants
both_at a b = record { above = a.above + b.above; below = a.below + b.below; moment = a.moment + b.moment }

abbrev pub slot_at : Option Plate → ℕ → Resultants
slot_at None k = zero_at
slot_at (Some p) k = block_at p.top p.height (p.breadth * p.fy) k

abbrev pub plates_at : List (Option Plate) → ℕ → Resultants
plates_at [] k = zero_at
plates_at (x ∷ xs) k = both_at (slot_at x k) (plates_at xs k)

-- the standing plates end by 4,096 and have some strength
abbrev pub Inside : List (Option Plate) → Type 0
Inside [] = Unit {0}
Inside (None ∷ xs) = Inside xs
Inside (Some p ∷ xs) = ((p.top + p.height ≤ 4096) × (0 < p.breadth * p.fy * p.height)) × Inside xs

pub plates_are : (s : Sense) (xs : List (Option Plate)) (k : ℕ) → Inside xs → k ≤ 4096 → IsResultants s (plate_strips xs) (plate_strips xs) k (plates_at xs k)
plates_are s [] k i l = resultants_none s k l
plates_are s (None ∷ xs) k i l = resultants_both s no_strips (plate_strips xs) no_strips (plate_strips xs) k zero_at (plates_at xs k) (resultants_none s k l) (plates_are s xs k i l)
plates_are s (Some p ∷ xs) k i l =
    let f = block_strip p.top p.height (p.breadth * p.fy) in
    resultants_both s f (plate_strips xs) f (plate_strips xs) k (slot_at (Some p) k) (plates_at xs k) (block_is s p.top p.height (p.breadth * p.fy) k i.0.0 l) (plates_are s xs k i.1 l)

abbrev pub slot_foot : Option Plate → ℕ
slot_foot None = 0
slot_foot (Some p) = p.top + p.height

abbrev pub lowest : List (Option Plate) → ℕ
lowest [] = 0
lowest (x ∷ xs) = max (slot_foot x) (lowest xs)

pub plates_depth : (xs : List (Option Plate)) → Inside xs → IsDepth (plate_strips xs) (plate_strips xs) (lowest xs)
plates_depth [] i = depth_none
plates_depth (None ∷ xs) i = depth_both no_strips (plate_strips xs) no_strips (plate_strips xs) 0 (lowest xs) depth_none (plates_depth xs i)
plates_depth (Some p ∷ xs) i =
    let f = block_strip p.top p.height (p.breadth * p.fy) in
    depth_both f (plate_strips xs) f (plate_strips xs) (p.top + p.height) (lowest xs) (block_depth p.top p.height (p.breadth * p.fy) i.0.1) (plates_depth xs i.1)

-- the axis, by the resultants at its level and at its neighbours
pub axis_at : (s : Sense) (p q : ℕ → ℕ) (k : ℕ) (b t a : Resultants) → k < 4096 → IsResultants s p q (k - 1) b → IsResultants s p q k t → IsResultants s p q (suc k) a →
    t.below + a.below ≤ t.above + a.above → (0 < k → b.above + t.above < b.below + t.below) → IsAxis s p q (record { level = k; moment = t.moment; imbalance = (t.above - t.below) + (t.below - t.above) })
unfolding imbalance_at
axis_at s p q k b t a l hb ht ha rise fall =
    let ta = ht.above_is in
    let tb = ht.below_is in
    let tm = ht.moment_is in
    let aa = ha.above_is in
    let ab = ha.below_is in
    rw (tm, ta, tb)
    (turning_axis s p q k (omega arith) (λ _. omega arith)
    (λ j e.
    let z : k - 1 ≡ j = omega arith in
    let ba = rw z at hb.above_is in
    let bb = rw z at hb.below_is in
    let f = fall (omega arith) in
    omega arith))
