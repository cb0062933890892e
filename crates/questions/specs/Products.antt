-- What one load type gives, for the functions that add the four types.
use Rattle.std.specs.Prelude.{ℕ, ◌*◌, ◌^◌, ◌≤◌, ℤ, unsigned_abs}
use Rattle.std.specs.Int.{int_min, int_max}
use Rattle.questions.specs.Extremes.{times}

-- the least and the greatest product of a type's sum with a factor of its range
abbrev pub least : ℕ × ℕ → ℤ → ℤ
least r s = int_min (times r.0 s) (times r.1 s)

abbrev pub greatest : ℕ × ℕ → ℤ → ℤ
greatest r s = int_max (times r.0 s) (times r.1 s)

-- the bound of such a product: a factor of at most 1,000, and 64 rows of 32 bits
abbrev pub Small : ℤ → Type 0
Small z = unsigned_abs z ≤ 1000 * 2 ^ 37
