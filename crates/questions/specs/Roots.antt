-- The whole square root.
use Rattle.std.specs.Prelude.{ℕ, ◌+◌, ◌*◌, ◌<◌, ◌≤◌}

-- the greatest number whose square is at most n
pub record IsRoot (n root : ℕ) : Type 0 where
  pub square_fits : root * root ≤ n
  pub next_passes : n < (root + 1) * (root + 1)
