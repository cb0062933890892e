-- Sixteenths of an inch as a mixed number.
use Rattle.std.specs.Prelude.{◌≡◌, ℕ, ◌*◌, ◌/◌, ◌%◌, ◌⊎◌}

-- whole inches, and the rest as part / of in lowest terms: `of` divides 16, and either nothing is left or the part is odd
pub record IsMixed (sixteenths whole part of : ℕ) : Type 0 where
  pub whole_is : whole ≡ sixteenths / 16
  pub rest_is : part * 16 ≡ (sixteenths % 16) * of
  pub divides : 16 % of ≡ 0
  pub lowest : (of ≡ 1) ⊎ (part % 2 ≡ 1)
