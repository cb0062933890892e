-- Sums of forces and resultants that fit their 64 bits.
use Rattle.std.proofs.Common.{◌≡◌, ℕ, ◌+◌, ◌^◌, ◌<◌, arith}
use Rattle.section.specs.declared.forces.Forces.{Forces}
use Rattle.section.specs.declared.resultants.Resultants.{Resultants}
use Rattle.section.specs.Adding.{wrapped, forces_sum, resultants_sum}

whole : (a b : ℕ) → a + b < 2 ^ 64 → wrapped a b ≡ a + b
whole a b h = omega arith

pub forces_whole : (a b : Forces) → a.above + b.above < 2 ^ 64 → a.below + b.below < 2 ^ 64 → forces_sum a b ≡ record { above = a.above + b.above; below = a.below + b.below }
forces_whole a b p q = λ i. record { above = whole a.above b.above p i; below = whole a.below b.below q i }

pub resultants_whole : (a b : Resultants) → a.above + b.above < 2 ^ 64 → a.below + b.below < 2 ^ 64 → a.moment + b.moment < 2 ^ 64 →
    resultants_sum a b ≡ record { above = a.above + b.above; below = a.below + b.below; moment = a.moment + b.moment }
resultants_whole a b p q r = λ i. record { above = whole a.above b.above p i; below = whole a.below b.below q i; moment = whole a.moment b.moment r i }
