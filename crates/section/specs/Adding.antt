-- Forces and resultants added, field by field, modulo 2 ^ 64.
use Rattle.std.specs.Prelude.{ℕ, ◌+◌, ◌%◌, ◌^◌}
use Rattle.section.specs.declared.forces.Forces.{Forces}
use Rattle.section.specs.declared.resultants.Resultants.{Resultants}

abbrev pub wrapped : ℕ → ℕ → ℕ
wrapped a b = (a + b) % 2 ^ 64

abbrev pub forces_sum : Forces → Forces → Forces
forces_sum a b = record { above = wrapped a.above b.above; below = wrapped a.below b.below }

abbrev pub resultants_sum : Resultants → Resultants → Resultants
resultants_sum a b = record { above = wrapped a.above b.above; below = wrapped a.below b.below; moment = wrapped a.moment b.moment }
