-- Sixteenths in lowest terms: shifted down by the 0s that their number ends in.
use lib.Count.{count_trailing_zeros}
use Rattle.std.specs.Int.{w16, bit_at, trailing_zeros}
use Rattle.std.proofs.Common.{◌≡◌, ℕ, zero, suc, ◌/◌, ◌%◌, ◌^◌, ◌<◌, inl, inr, min, refl, arith}
use Rattle.std.proofs.lemmas.Nat.Bits.{bit_at-trailing_zeros}
use Rattle.girder.specs.Fractions.{IsMixed}

-- what is left of n, shifted to its lowest 1, which stands at the place k
module _ (n r : ℕ) (left : r ≡ n % 16) (some : 0 < r) where
  odd : (k : ℕ) → bit_at r k ≡ 1 → ((i : ℕ) → i < k → bit_at r i ≡ 0) → IsMixed n (n / 16) (r / 2 ^ min k 4) (16 / 2 ^ min k 4)
  odd zero one none = record { whole_is = refl; rest_is = omega arith; divides = refl; lowest = inr (omega arith) }
  odd (suc zero) one none =
      let a = none 0 (omega arith) in
      record { whole_is = refl; rest_is = omega arith; divides = refl; lowest = inr (omega arith) }
  odd (suc (suc zero)) one none =
      let a = none 0 (omega arith) in let b = none 1 (omega arith) in
      record { whole_is = refl; rest_is = omega arith; divides = refl; lowest = inr (omega arith) }
  odd (suc (suc (suc zero))) one none =
      let a = none 0 (omega arith) in let b = none 1 (omega arith) in let c = none 2 (omega arith) in
      record { whole_is = refl; rest_is = omega arith; divides = refl; lowest = inr (omega arith) }
  odd (suc (suc (suc (suc k)))) one none =
      let a = none 0 (omega arith) in let b = none 1 (omega arith) in let c = none 2 (omega arith) in let d = none 3 (omega arith) in
      absurd (omega arith)

pub shifted : (n r s : ℕ) → r ≡ n % 16 → s ≡ min (trailing_zeros w16 r) 4 → IsMixed n (n / 16) (r / 2 ^ s) (16 / 2 ^ s)
unfolding count_trailing_zeros
shifted n zero s left is = rw is (record { whole_is = refl; rest_is = omega arith; divides = refl; lowest = inl refl })
shifted n (suc r) s left is =
    let at = bit_at-trailing_zeros w16 (suc r) (omega arith) (omega arith) in
    rw is (odd n (suc r) left (omega arith) (trailing_zeros w16 (suc r)) at.1 at.2)
