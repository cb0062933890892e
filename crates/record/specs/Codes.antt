-- The record's code for a stiffener spacing; those of load types and effects are `Codes` of `loads`.
use Rattle.std.specs.Prelude.{ℕ, cond, Some, None, Option, ◌==◌}

-- a stiffener spacing, 0 for none
abbrev pub spacing_of : ℕ → Option ℕ
spacing_of d = cond (d == 0) None (Some d)
