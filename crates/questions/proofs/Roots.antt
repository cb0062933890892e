-- The whole square root is one number.
use Rattle.std.proofs.Common.{◌≡◌, ℕ, ◌+◌, ◌<◌, ◌≤◌, ◌⊎◌, inl, inr, mul-le-mul, arith}
use Rattle.std.proofs.lemmas.Bool.{cases_lt}
use Rattle.questions.specs.Roots.{IsRoot}

below : (n a b : ℕ) → IsRoot n a → IsRoot n b → a < b → ⊥
below n a b x y h =
    let l : a + 1 ≤ b = omega arith in
    let s = mul-le-mul l l in
    let p = x.next_passes in
    let q = y.square_fits in
    omega arith

pub root_only : (n a b : ℕ) → IsRoot n a → IsRoot n b → a ≡ b
root_only n a b x y = go (cases_lt a b) (cases_lt b a)
  where
    go : (a < b) ⊎ (b ≤ a) → (b < a) ⊎ (a ≤ b) → a ≡ b
    go (inl h) k = absurd (below n a b x y h)
    go (inr h) (inl k) = absurd (below n b a y x k)
    go (inr h) (inr k) = omega arith
