-- The shear resistance of the girder's web, as statements on the definitions.
use Rattle.std.specs.Prelude.{◌≡◌, true, false, Some, None}
use Rattle.questions.specs.Shear.{spacing_fits, Buckles, IsShearResistance}
use Rattle.figures.specs.Girders.{girder}

-- without stiffeners it buckles elastically
abbrev pub Unstiffened : Type 0
Unstiffened = IsShearResistance girder None 105629600

-- with stiffeners each 960 it buckles inelastically
abbrev pub Stiffened : Type 0
Stiffened = Buckles 640 (Some 960) 722 × IsShearResistance girder (Some 960) 134517438

-- spacings from 160 to 1,920 fit
abbrev pub Spacings : Type 0
Spacings = (spacing_fits 640 159 ≡ false) × (spacing_fits 640 160 ≡ true) × (spacing_fits 640 1920 ≡ true) × (spacing_fits 640 1921 ≡ false)
