-- A part of one of two kinds has the strips of the one that it is.
use Rattle.std.specs.Prelude.{◌≡◌, ℕ, ◌^◌, ◌≤◌}
use Rattle.section.specs.Strips.{sum_to}
use Rattle.section.specs.Parts.{Lawful}
use Rattle.kinds.specs.declared.either.Either.{Either}
use Rattle.kinds.specs.declared.either.Either.TheVariants.{First, Second}

abbrev pub of_either : {P Q : Type 0} → (P → ℕ → ℕ) → (Q → ℕ → ℕ) → Either P Q → ℕ → ℕ
of_either p q (First x) = p x
of_either p q (Second y) = q y

module _ {P Q : Type 0} {p r : P → ℕ → ℕ} {q t : Q → ℕ → ℕ} (a : Lawful p r) (b : Lawful q t) where
  pushes_end : (x : Either P Q) (i : ℕ) → 4096 ≤ i → of_either p q x i ≡ 0
  pushes_end (First x) = a.pushes_end x
  pushes_end (Second y) = b.pushes_end y

  pulls_end : (x : Either P Q) (i : ℕ) → 4096 ≤ i → of_either r t x i ≡ 0
  pulls_end (First x) = a.pulls_end x
  pulls_end (Second y) = b.pulls_end y

  pushes_light : (x : Either P Q) → sum_to (of_either p q x) 4096 ≤ 2 ^ 36
  pushes_light (First x) = a.pushes_light x
  pushes_light (Second y) = b.pushes_light y

  pulls_light : (x : Either P Q) → sum_to (of_either r t x) 4096 ≤ 2 ^ 36
  pulls_light (First x) = a.pulls_light x
  pulls_light (Second y) = b.pulls_light y

  weaker_pull : (x : Either P Q) (i : ℕ) → of_either r t x i ≤ of_either p q x i
  weaker_pull (First x) = a.weaker_pull x
  weaker_pull (Second y) = b.weaker_pull y

  pub either_laws : Lawful (of_either p q) (of_either r t)
  either_laws = record { pushes_end = pushes_end; pulls_end = pulls_end; pushes_light = pushes_light; pulls_light = pulls_light; weaker_pull = weaker_pull }
