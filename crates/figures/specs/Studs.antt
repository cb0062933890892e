-- The studs between the girder and its deck, as statements on the definitions.
use Rattle.std.specs.Prelude.{◌≡◌}
use Rattle.questions.specs.declared.stud.Stud.{Stud}
use Rattle.questions.specs.Studs.{StudFits, IsStudForce, interface_force, IsCount}
use Rattle.figures.specs.Girders.{girder, deck_pushes}

abbrev pub stud : Stud
stud = record { area = 601; fu = 60000; fc = 4000; ec = 3640000 }

-- the stud is within its limits, and its steel governs
abbrev pub StudForce : Type 0
StudForce = StudFits stud × IsStudForce stud 36060

-- the slab governs the force that is to be carried over
abbrev pub Interface : Type 0
Interface = interface_force girder deck_pushes ≡ 668467200

abbrev pub Count : Type 0
Count = IsCount 36060 (interface_force girder deck_pushes) 86
