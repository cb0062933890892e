-- The shear resistance of the web, and its verdict.
use Rattle.std.specs.Prelude.{◌≡◌, ℕ, ◌+◌, ◌*◌, ◌/◌, ◌<◌, ◌≤◌, Bool, true, false, ◌&&◌, List, Some, None, Ok, Err, MatchBool, Option, Result, nat_le, unsigned_abs}
use Rattle.faults.specs.declared.question.QuestionFault.{QuestionFault}
use Rattle.faults.specs.declared.question.QuestionFault.TheVariants.{NoMoment, PlateMissing, SpacingLimits, StudLimits, UnlawfulFactors, UnknownState}
use Rattle.loads.specs.declared.kind.EffectKind.TheVariants.{Shear}
use Rattle.sheet.specs.declared.plate.Role.TheVariants.{Web}
use Rattle.sheet.specs.declared.plate.Plate.{Plate}
use Rattle.sheet.specs.declared.row.Row.{Row}
use Rattle.sheet.specs.Plates.{standing}
use Rattle.sheet.specs.Ledger.{Ledger}
use Rattle.questions.specs.declared.answers.Verdict.{Verdict}
use Rattle.questions.specs.declared.answers.Verdict.TheVariants.{Carries, NotCompact, Brittle, TooWeak}
use Rattle.questions.specs.declared.shear_answer.ShearAnswer.{ShearAnswer}
use Rattle.questions.specs.Extremes.{Choice, Chosen, factored}
use Rattle.questions.specs.Roots.{IsRoot}

-- a stiffener spacing d of a web of height D: from a quarter of D to 3 × D
abbrev pub spacing_fits : ℕ → ℕ → Bool
spacing_fits height d = nat_le height (4 * d) && nat_le d (3 * height)

-- the buckling coefficient k in hundredths: 500 without stiffeners, else 500 + 500 × D² / d² rounded down
abbrev pub Buckles : ℕ → Option ℕ → ℕ → Type 0
Buckles height None k = k ≡ 500
Buckles height (Some d) k = (spacing_fits height d ≡ true) × (k ≡ 500 + 500 * (height * height) / (d * d))

abbrev pub SpacingOutside : ℕ → Option ℕ → Type 0
SpacingOutside height None = ⊥
SpacingOutside height (Some d) = spacing_fits height d ≡ false

-- the resistance V of a web of height D, breadth tw and yield F, rounded down at each step: by yielding, by inelastic buckling, or by elastic buckling
abbrev pub IsShearForce : ℕ → ℕ → ℕ → ℕ → ℕ → Type 0
IsShearForce D tw F k v =
    MatchBool (nat_le (D * D * F) (363776 * k * (tw * tw))) (v ≡ 58 * F * D * tw / 100)
    (MatchBool (nat_le (D * D * F) (568400 * k * (tw * tw))) ((s : ℕ) × IsRoot (29000000 * k * F) s × (v ≡ 6496 * (tw * tw) * s / 100000))
    (v ≡ 264074 * k * (tw * tw * tw) / D))

-- what is told of a sheet's web
pub record IsShearResistance (L : Ledger) (spacing : Option ℕ) (v : ℕ) : Type 0 where
  pub web : Plate
  pub is_web : standing Web L.plates ≡ Some web
  pub k : ℕ
  pub buckles : Buckles web.height spacing k
  pub is_force : IsShearForce web.height web.breadth web.fy k v

-- refused with 12 where the web is missing, with 13 where it stands and the spacing is outside its range
abbrev pub RefusesShear : Ledger → Option ℕ → QuestionFault → Type 0
RefusesShear L spacing NoMoment = ⊥
RefusesShear L spacing PlateMissing = standing Web L.plates ≡ None
RefusesShear L spacing SpacingLimits = (web : Plate) × (standing Web L.plates ≡ Some web) × SpacingOutside web.height spacing
RefusesShear L spacing StudLimits = ⊥
RefusesShear L spacing UnlawfulFactors = ⊥
RefusesShear L spacing UnknownState = ⊥

abbrev pub ShearResistanceAnswer : Ledger → Option ℕ → Result ℕ QuestionFault → Type 0
ShearResistanceAnswer L spacing (Ok v) = IsShearResistance L spacing v
ShearResistanceAnswer L spacing (Err f) = RefusesShear L spacing f

-- a choice's factored sum of shears, in magnitude, × 16,000 exceeds 100 × V
abbrev pub ExceedsShear : List (Option Row) → ℕ → Choice → Type 0
ExceedsShear rows v choice = 100 * v < unsigned_abs (factored choice Shear rows) * 16000

-- too weak where some choice exceeds the resistance, else it carries
abbrev pub JudgesShear : List (ℕ × ℕ) → List (Option Row) → ℕ → Verdict → Type 0
JudgesShear factors rows v Carries = (choice : Choice) → Chosen factors choice → ExceedsShear rows v choice → ⊥
JudgesShear factors rows v NotCompact = ⊥
JudgesShear factors rows v Brittle = ⊥
JudgesShear factors rows v TooWeak = (choice : Choice) × Chosen factors choice × ExceedsShear rows v choice

abbrev pub IsShear : Ledger → Option ℕ → List (ℕ × ℕ) → Result ShearAnswer QuestionFault → Type 0
IsShear L spacing factors (Ok s) = IsShearResistance L spacing s.resistance × JudgesShear factors L.rows s.resistance s.verdict
IsShear L spacing factors (Err f) = RefusesShear L spacing f

-- the limits of a standing web that its resistance rests on
pub record WebFits (w : Plate) : Type 0 where
  pub some : 1 ≤ w.height
  pub low : w.height ≤ 4096
  pub thin : w.breadth ≤ 64
  pub weak : w.fy ≤ 100000

-- a coefficient, or refused
abbrev pub BucklingAnswer : ℕ → Option ℕ → Result ℕ QuestionFault → Type 0
BucklingAnswer height spacing (Ok k) = Buckles height spacing k × (k ≤ 8500)
BucklingAnswer height spacing (Err f) = (f ≡ SpacingLimits) × SpacingOutside height spacing
