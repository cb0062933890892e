-- Forces and moments over strips. A section's strips are counted from its top face down, from 0; the strip i lies between the levels i and i + 1, and its strength is a number.
use Rattle.std.specs.Prelude.{ℕ, zero, suc, ◌+◌, ◌-◌, ◌*◌}
use Rattle.section.specs.declared.sense.Sense.{Sense}
use Rattle.section.specs.declared.sense.Sense.TheVariants.{Sagging, Hogging}

-- f 0 + .. + f (n - 1)
unfoldable pub sum_to : (ℕ → ℕ) → ℕ → ℕ
sum_to f zero = 0
sum_to f (suc n) = sum_to f n + f n

-- in sagging the strips above a level push and those below pull; in hogging it is the reverse
abbrev pub strength_above : Sense → (ℕ → ℕ) → (ℕ → ℕ) → ℕ → ℕ
strength_above Sagging pushes pulls = pushes
strength_above Hogging pushes pulls = pulls

abbrev pub strength_below : Sense → (ℕ → ℕ) → (ℕ → ℕ) → ℕ → ℕ
strength_below Sagging pushes pulls = pulls
strength_below Hogging pushes pulls = pushes

-- the force of the strips above the level k, and of those of n strips that lie below it
unfoldable pub force_above : (ℕ → ℕ) → ℕ → ℕ
force_above up k = sum_to up k

unfoldable pub force_below : ℕ → (ℕ → ℕ) → ℕ → ℕ
force_below n down k = sum_to (λ j. down (k + j)) (n - k)

-- their moments about the level, in half strips: each strip's force by twice the way to its middle
unfoldable pub moment_above : (ℕ → ℕ) → ℕ → ℕ
moment_above up k = sum_to (λ i. up i * (2 * (k - i) - 1)) k

unfoldable pub moment_below : ℕ → (ℕ → ℕ) → ℕ → ℕ
moment_below n down k = sum_to (λ j. down (k + j) * (2 * j + 1)) (n - k)

-- the plastic moment at the level k
abbrev pub moment_at : ℕ → (ℕ → ℕ) → (ℕ → ℕ) → ℕ → ℕ
moment_at n up down k = moment_above up k + moment_below n down k

-- by how much the forces above and below differ
unfoldable pub imbalance_at : ℕ → (ℕ → ℕ) → (ℕ → ℕ) → ℕ → ℕ
imbalance_at n up down k = (force_above up k - force_below n down k) + (force_below n down k - force_above up k)

-- no strip with any strength
abbrev pub no_strips : ℕ → ℕ
no_strips i = 0

-- two parts together, strip by strip
infixl 6 ◌⊕◌
abbrev pub ◌⊕◌ : (ℕ → ℕ) → (ℕ → ℕ) → ℕ → ℕ
◌⊕◌ f g i = f i + g i

-- a section of 4,096 strips, by what they push and pull with
abbrev pub moment_in : Sense → (ℕ → ℕ) → (ℕ → ℕ) → ℕ → ℕ
moment_in sense pushes pulls = moment_at 4096 (strength_above sense pushes pulls) (strength_below sense pushes pulls)

abbrev pub imbalance_in : Sense → (ℕ → ℕ) → (ℕ → ℕ) → ℕ → ℕ
imbalance_in sense pushes pulls = imbalance_at 4096 (strength_above sense pushes pulls) (strength_below sense pushes pulls)
