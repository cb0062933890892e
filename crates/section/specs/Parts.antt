-- What a part is known by: its strips' pushes and pulls, its depth, and its resultants at a level.
use Rattle.std.specs.Prelude.{◌≡◌, ℕ, ◌^◌, ◌≤◌}
use Rattle.section.specs.declared.sense.Sense.{Sense}
use Rattle.section.specs.declared.forces.Forces.{Forces}
use Rattle.section.specs.declared.resultants.Resultants.{Resultants}
use Rattle.section.specs.Strips.{sum_to, strength_above, strength_below, force_above, force_below, moment_at}

-- what holds of every part: it ends by the strip 4,096, neither its pushes nor its pulls pass 2 ^ 36, and no strip pulls more than it pushes
pub record Lawful {S : Type 0} (pushes pulls : S → ℕ → ℕ) : Type 0 where
  pub pushes_end : (x : S) (i : ℕ) → 4096 ≤ i → pushes x i ≡ 0
  pub pulls_end : (x : S) (i : ℕ) → 4096 ≤ i → pulls x i ≡ 0
  pub pushes_light : (x : S) → sum_to (pushes x) 4096 ≤ 2 ^ 36
  pub pulls_light : (x : S) → sum_to (pulls x) 4096 ≤ 2 ^ 36
  pub weaker_pull : (x : S) (i : ℕ) → pulls x i ≤ pushes x i

-- every strip from d on neither pushes nor pulls
abbrev pub EndsBy : (ℕ → ℕ) → (ℕ → ℕ) → ℕ → Type 0
EndsBy pushes pulls d = (i : ℕ) → d ≤ i → (pushes i ≡ 0) × (pulls i ≡ 0)

-- the depth is the least such number
pub record IsDepth (pushes pulls : ℕ → ℕ) (depth : ℕ) : Type 0 where
  pub past : EndsBy pushes pulls depth
  pub least : (d : ℕ) → EndsBy pushes pulls d → depth ≤ d

-- the forces above and below the level k
pub record IsForces (sense : Sense) (pushes pulls : ℕ → ℕ) (k : ℕ) (r : Forces) : Type 0 where
  pub above_is : r.above ≡ force_above (strength_above sense pushes pulls) k
  pub below_is : r.below ≡ force_below 4096 (strength_below sense pushes pulls) k

-- the resultants at the level k: the same forces, and the moment
pub record IsResultants (sense : Sense) (pushes pulls : ℕ → ℕ) (k : ℕ) (r : Resultants) : Type 0 where
  pub above_is : r.above ≡ force_above (strength_above sense pushes pulls) k
  pub below_is : r.below ≡ force_below 4096 (strength_below sense pushes pulls) k
  pub moment_is : r.moment ≡ moment_at 4096 (strength_above sense pushes pulls) (strength_below sense pushes pulls) k
