-- The plates' sum modulo 2 ^ 64, as it changes with one slot.
use Rattle.std.proofs.Common.{◌≡◌, ℕ, ◌+◌, ◌-◌, ◌%◌, ◌^◌, ◌≤◌, arith}

-- f comes to a sum, and a sum comes of f more
pub total_more : (t a b f : ℕ) → t ≡ a % 2 ^ 64 → b ≡ a + f → (t + f) % 2 ^ 64 ≡ b % 2 ^ 64
total_more t a b f e q = omega arith

pub total_less : (t a b f : ℕ) → f ≤ 2 ^ 64 → t ≡ a % 2 ^ 64 → b + f ≡ a → (t + (2 ^ 64 - f)) % 2 ^ 64 ≡ b % 2 ^ 64
total_less t a b f l e q = omega arith
