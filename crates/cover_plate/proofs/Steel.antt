-- Where some strip has strength, every level has a moment.
use Rattle.std.proofs.Common.{◌≡◌, ℕ, suc, ◌+◌, ◌-◌, ◌*◌, ◌<◌, ◌≤◌, Ok, Err, refl, ⊎_elim, arith}
use Rattle.std.specs.Result.{IsOk}
use Rattle.std.proofs.lemmas.Nat.{mul-le}
use Rattle.section.specs.declared.sense.Sense.{Sense}
use Rattle.section.specs.declared.sense.Sense.TheVariants.{Sagging, Hogging}
use Rattle.section.specs.Strips.{sum_to, moment_above, moment_below, ◌⊕◌}
use Rattle.section.specs.Axis.{LacksMoment, AxisAnswer}
use Rattle.section.specs.Sums.{sum_to_suc, sum_to_mono, le_or_lt}
use Rattle.section.specs.BlockLaws.{block_within}
use Rattle.cover_plate.specs.declared.cover.CoverPlate.{CoverPlate}
use Rattle.cover_plate.specs.Covers.{cover_strips}

term : (f : ℕ → ℕ) (n i : ℕ) → i < n → f i ≤ sum_to f n
term f n i l = let s = sum_to_suc f i in let m = sum_to_mono f (suc i) n l in omega arith

module _ (f : ℕ → ℕ) (t k : ℕ) (some : 1 ≤ f t) where
  above : t < k → 1 ≤ moment_above f k
  unfolding moment_above
  above l =
      let x = term (λ i. f i * (2 * (k - i) - 1)) k t l in
      let m = mul-le 1 1 (f t) (2 * (k - t) - 1) some (omega arith) in
      omega arith

  below : k ≤ t → t < 4096 → 1 ≤ moment_below 4096 f k
  unfolding moment_below
  below l h =
      let e : k + (t - k) ≡ t = omega arith in
      let x = rw e at (term (λ j. f (k + j) * (2 * j + 1)) (4096 - k) (t - k) (omega arith)) in
      let m = mul-le 1 1 (f t) (2 * (t - k) + 1) some (omega arith) in
      omega arith

  some_moment : t < 4096 → 1 ≤ moment_above f k + moment_below 4096 f k
  some_moment h = ⊎_elim (λ l. let b = below l h in omega arith) (λ l. let a = above l in omega arith) (le_or_lt k t)

some_in : (sense : Sense) (f : ℕ → ℕ) (t : ℕ) → t < 4096 → 1 ≤ f t → LacksMoment sense f f → ⊥
some_in Sagging f t h some n = let m = some_moment f t n.level some h in omega (arith, n.none)
some_in Hogging f t h some n = let m = some_moment f t n.level some h in omega (arith, n.none)

-- a cover plate's first strip has strength
steel : (p : CoverPlate) → 1 ≤ cover_strips p p.top
steel p =
    let h = p.some in
    let m = mul-le 1 30000 p.breadth p.fy p.narrowest p.weakest in
    let w = block_within p.top p.height (p.breadth * p.fy) p.top (omega arith) (omega arith) in
    omega arith

pub pair_steel : (sense : Sense) (p q : CoverPlate) → LacksMoment sense (cover_strips p ⊕ cover_strips q) (cover_strips p ⊕ cover_strips q) → ⊥
pair_steel sense p q x =
    let s = steel p in
    let h = p.some in
    let i = p.inside in
    some_in sense (cover_strips p ⊕ cover_strips q) p.top (omega arith) (omega arith) x

-- so that two plates have an axis
pub pair_found : (sense : Sense) (p q : CoverPlate) (r : _) → AxisAnswer sense (cover_strips p ⊕ cover_strips q) (cover_strips p ⊕ cover_strips q) r → IsOk r
pair_found sense p q (Ok axis) x = refl
pair_found sense p q (Err fault) x = absurd (pair_steel sense p q x.1)
