-- How large a section's moment can be, and that one with a moment has a depth.
use Rattle.std.proofs.Common.{ℕ, zero, suc, ◌*◌, ◌/◌, ◌^◌, ◌<◌, ◌≤◌, max, sym, subst, arith}
use Rattle.section.specs.declared.axis.Axis.{Axis}
use Rattle.section.specs.declared.sense.Sense.{Sense}
use Rattle.section.specs.declared.sense.Sense.TheVariants.{Sagging}
use Rattle.section.specs.Strips.{sum_to, strength_above, strength_below, moment_in, ◌⊕◌}
use Rattle.section.specs.Sums.{sum_to_add, zeros}
use Rattle.section.specs.Parts.{IsDepth}
use Rattle.section.specs.Axis.{IsAxis}
use Rattle.sheet.specs.declared.held.Sheet.{Sheet}
use Rattle.sheet.specs.Ledger.{ledger}
use Rattle.sheet.specs.PlateStrips.{plate_strips}
use Rattle.sheet.specs.PlateLaws.{plates_laws}
use Rattle.questions.specs.Together.{with_plates}
use Rattle.section.proofs.Together.{force_above_le, force_below_le, moment_above_le, moment_below_le, strength_above-sum, strength_below-sum, depth_both}

-- a moment is at most 2 ^ 14 times what the strips sum to
moment_le : (s : Sense) (f h : ℕ → ℕ) (b k : ℕ) → sum_to f 4096 ≤ b → sum_to h 4096 ≤ b → k ≤ 4096 → moment_in s f h k ≤ b * 16384
moment_le s f h b k x y l =
    let sa = strength_above-sum s f h 4096 b x y in
    let sb = strength_below-sum s f h 4096 b x y in
    let a = force_above_le 4096 (strength_above s f h) k l in
    let d = force_below_le 4096 (strength_below s f h) k l in
    let m = moment_above_le 4096 (strength_above s f h) k l in
    let o = moment_below_le 4096 (strength_below s f h) k l in
    omega arith

module _ (s : Sense) (p q r t : ℕ → ℕ) (k : ℕ) (within : k ≤ 4096) where
  moment_small : sum_to p 4096 ≤ 2 ^ 36 → sum_to q 4096 ≤ 2 ^ 36 → sum_to r 4096 ≤ 2 ^ 36 → sum_to t 4096 ≤ 2 ^ 36 → moment_in s (p ⊕ q) (r ⊕ t) k ≤ 2 ^ 51
  moment_small a b c d = moment_le s (p ⊕ q) (r ⊕ t) (2 ^ 37) k (omega (arith, sum_to_add p q 4096)) (omega (arith, sum_to_add r t 4096)) within

  pub depth_some : (a b : ℕ) → IsDepth p r a → IsDepth q t b → 0 < moment_in s (p ⊕ q) (r ⊕ t) k → 0 < max a b
  depth_some a b x y m = go (max a b) (depth_both p q r t a b x y)
    where
      go : (d : ℕ) → IsDepth (p ⊕ q) (r ⊕ t) d → 0 < d
      go zero e =
          let z = zeros (p ⊕ q) 4096 (λ i _. (e.past i (omega arith)).0) in
          let w = zeros (r ⊕ t) 4096 (λ i _. (e.past i (omega arith)).1) in
          absurd (let n : ⊥ = omega (arith, moment_le s (p ⊕ q) (r ⊕ t) 0 k (omega arith) (omega arith) within) in n)
      go (suc d) e = omega arith

-- Mp at the axis of a sheet's plates with a lawful part
pub axis_small : (s : Sheet) (p q : ℕ → ℕ) → sum_to p 4096 ≤ 2 ^ 36 → sum_to q 4096 ≤ 2 ^ 36 → (axis : Axis) → IsAxis Sagging (with_plates (ledger s) p) (with_plates (ledger s) q) axis → axis.moment / 8192 ≤ 2 ^ 38
axis_small s p q a b axis is =
    let plates = plate_strips (ledger s).plates in
    let small = moment_small Sagging plates p plates q axis.level is.within (plates_laws.pushes_light s) a (plates_laws.pulls_light s) b in
    let bound : axis.moment ≤ 2 ^ 51 = subst (λ (m : ℕ). m ≤ 2 ^ 51) (sym is.moment_is) small in
    omega arith
