-- A slab that only pushes, beside bars that push and pull.
use Rattle.std.proofs.Common.{◌≡◌, ℕ, ◌+◌, max, arith}
use Rattle.section.specs.declared.sense.Sense.TheVariants.{Sagging, Hogging}
use Rattle.section.specs.declared.forces.Forces.{Forces}
use Rattle.section.specs.declared.resultants.Resultants.{Resultants}
use Rattle.section.specs.Strips.{force_above, force_below, moment_above, moment_below, ◌⊕◌}
use Rattle.section.specs.Parts.{IsDepth, IsForces, IsResultants}
use Rattle.section.proofs.Together.{force_above_both, force_below_both, moment_above_both, moment_below_both}

pub depth_beside : (slab bars : ℕ → ℕ) (a b : ℕ) → IsDepth slab slab a → IsDepth bars bars b → IsDepth (slab ⊕ bars) bars (max a b)
depth_beside slab bars a b x y = record {
  past = λ i l. let u = x.past i (omega arith) in let v = y.past i (omega arith) in (omega arith, omega arith);
  least = λ d h.
      let u = x.least d (λ i l. let e = h i l in (omega arith, omega arith)) in
      let v = y.least d (λ i l. let e = h i l in (omega arith, omega arith)) in
      omega arith;
}

-- in sagging the slab works above the level, in hogging below it
pub sagging_beside : (slab bars : ℕ → ℕ) (k : ℕ) (r : Resultants) (force moment : ℕ) → IsResultants Sagging bars bars k r → force ≡ force_above slab k → moment ≡ moment_above slab k →
    IsResultants Sagging (slab ⊕ bars) bars k (record { above = r.above + force; below = r.below; moment = r.moment + moment })
sagging_beside slab bars k r force moment x f m = record {
  above_is = omega (arith, x.above_is, force_above_both slab bars k);
  below_is = x.below_is;
  moment_is = omega (arith, x.moment_is, moment_above_both slab bars k);
}

pub hogging_beside : (slab bars : ℕ → ℕ) (k : ℕ) (r : Resultants) (force moment : ℕ) → IsResultants Hogging bars bars k r → force ≡ force_below 4096 slab k → moment ≡ moment_below 4096 slab k →
    IsResultants Hogging (slab ⊕ bars) bars k (record { above = r.above; below = r.below + force; moment = r.moment + moment })
hogging_beside slab bars k r force moment x f m = record {
  above_is = x.above_is;
  below_is = omega (arith, x.below_is, force_below_both 4096 slab bars k);
  moment_is = omega (arith, x.moment_is, moment_below_both 4096 slab bars k);
}

-- and so with the forces alone
pub sagging_forces : (slab bars : ℕ → ℕ) (k : ℕ) (r : Forces) (force : ℕ) → IsForces Sagging bars bars k r → force ≡ force_above slab k → IsForces Sagging (slab ⊕ bars) bars k (record { above = r.above + force; below = r.below })
sagging_forces slab bars k r force x f = record { above_is = omega (arith, x.above_is, force_above_both slab bars k); below_is = x.below_is }

pub hogging_forces : (slab bars : ℕ → ℕ) (k : ℕ) (r : Forces) (force : ℕ) → IsForces Hogging bars bars k r → force ≡ force_below 4096 slab k → IsForces Hogging (slab ⊕ bars) bars k (record { above = r.above; below = r.below + force })
hogging_forces slab bars k r force x f = record { above_is = x.above_is; below_is = omega (arith, x.below_is, force_below_both 4096 slab bars k) }
