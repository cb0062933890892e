-- The bending resistance of a composite section in sagging, and its verdict.
use Rattle.std.specs.Prelude.{◌≡◌, ℕ, ◌-◌, ◌*◌, ◌/◌, ◌<◌, min, max, Bool, true, false, cond, not, ◌||◌, ◌⊎◌, List, pos, ◌<ℤ◌, Some, None, Ok, Err, Option, Result, nat_le, nat_lt}
use Rattle.faults.specs.declared.question.QuestionFault.{QuestionFault}
use Rattle.faults.specs.declared.question.QuestionFault.TheVariants.{NoMoment, PlateMissing, SpacingLimits, StudLimits, UnlawfulFactors, UnknownState}
use Rattle.loads.specs.declared.kind.EffectKind.TheVariants.{Moment}
use Rattle.section.specs.declared.axis.Axis.{Axis}
use Rattle.section.specs.declared.sense.Sense.TheVariants.{Sagging}
use Rattle.section.specs.Parts.{IsDepth}
use Rattle.section.specs.Axis.{IsAxis, LacksMoment}
use Rattle.sheet.specs.declared.plate.Role.TheVariants.{TopFlange, Web, BottomFlange}
use Rattle.sheet.specs.declared.plate.Plate.{Plate}
use Rattle.sheet.specs.declared.row.Row.{Row}
use Rattle.sheet.specs.Plates.{standing}
use Rattle.sheet.specs.Ledger.{Ledger}
use Rattle.sheet.specs.PlateStrips.{plate_strips}
use Rattle.questions.specs.declared.answers.Verdict.{Verdict}
use Rattle.questions.specs.declared.answers.Verdict.TheVariants.{Carries, NotCompact, Brittle, TooWeak}
use Rattle.questions.specs.declared.answers.Resistance.{Resistance}
use Rattle.questions.specs.declared.answers.Bending.{Bending}
use Rattle.questions.specs.declared.bending_of.PlateGirder.{PlateGirder}
use Rattle.questions.specs.Extremes.{Choice, Chosen, times, factored}
use Rattle.questions.specs.Together.{with_plates}

abbrev pub verdict_number : Verdict → ℕ
verdict_number Carries = 0
verdict_number NotCompact = 1
verdict_number Brittle = 2
verdict_number TooWeak = 3

-- Mp: the plastic moment in pound-inches, rounded down
abbrev pub plastic_moment : ℕ → ℕ
plastic_moment moment = moment / 8192

-- Mn, of Mp, the axis level Dp and the depth Dt, rounded down
abbrev pub nominal_moment : ℕ → ℕ → ℕ → ℕ
nominal_moment mp dp dt = cond (nat_le (10 * dp) dt) mp (mp * (107 * dt - 70 * dp) / (100 * dt))

-- Dcp: the number of the web's strips above the axis
abbrev pub web_above : Plate → ℕ → ℕ
web_above web dp = min (dp - web.top) web.height

-- a flange yield over 70,000, a web higher than 150 of its breadths, or too slender where it is in compression
abbrev pub not_compact : Plate → Plate → Plate → ℕ → Bool
not_compact top web bottom dp =
    nat_lt 70000 top.fy || nat_lt 70000 bottom.fy
    || nat_lt (150 * web.breadth) web.height
    || nat_lt (409990400 * (web.breadth * web.breadth)) (4 * (web_above web dp * web_above web dp) * top.fy)

-- the axis deeper than 42 hundredths of the depth
abbrev pub brittle : ℕ → ℕ → Bool
brittle dp dt = nat_lt (42 * dt) (100 * dp)

-- one of the three roles is missing
abbrev pub Lacks : Ledger → Type 0
Lacks L = (standing TopFlange L.plates ≡ None) ⊎ ((standing Web L.plates ≡ None) ⊎ (standing BottomFlange L.plates ≡ None))

-- the three plates: top flange, web, bottom flange
abbrev pub ThreePlates : Ledger → Result PlateGirder QuestionFault → Type 0
ThreePlates L (Ok p) = (standing TopFlange L.plates ≡ Some p.top) × (standing Web L.plates ≡ Some p.web) × (standing BottomFlange L.plates ≡ Some p.bottom)
ThreePlates L (Err f) = (f ≡ PlateMissing) × Lacks L

-- the resistance of the standing plates with a part of these pushes and pulls
pub record IsResistance (L : Ledger) (pushes pulls : ℕ → ℕ) (r : Resistance) : Type 0 where
  pub axis : Axis
  pub is_axis : IsAxis Sagging (with_plates L pushes) (with_plates L pulls) axis
  pub some_moment : 0 < axis.moment
  pub plates_depth : ℕ
  pub is_plates_depth : IsDepth (plate_strips L.plates) (plate_strips L.plates) plates_depth
  pub part_depth : ℕ
  pub is_part_depth : IsDepth pushes pulls part_depth
  pub top : Plate
  pub is_top : standing TopFlange L.plates ≡ Some top
  pub web : Plate
  pub is_web : standing Web L.plates ≡ Some web
  pub bottom : Plate
  pub is_bottom : standing BottomFlange L.plates ≡ Some bottom
  pub level : r.level ≡ axis.level
  pub mp : r.mp ≡ plastic_moment axis.moment
  pub mn : r.mn ≡ nominal_moment (plastic_moment axis.moment) axis.level (max plates_depth part_depth)
  pub compact : r.compact ≡ not (not_compact top web bottom axis.level)
  pub ductile : r.ductile ≡ not (brittle axis.level (max plates_depth part_depth))

-- refused with 11 where some level has no moment, with 12 where there is an axis and one of the three is missing
abbrev pub RefusesBending : Ledger → (ℕ → ℕ) → (ℕ → ℕ) → QuestionFault → Type 0
RefusesBending L pushes pulls NoMoment = LacksMoment Sagging (with_plates L pushes) (with_plates L pulls)
RefusesBending L pushes pulls PlateMissing = ((axis : Axis) × IsAxis Sagging (with_plates L pushes) (with_plates L pulls) axis × (0 < axis.moment)) × Lacks L
RefusesBending L pushes pulls SpacingLimits = ⊥
RefusesBending L pushes pulls StudLimits = ⊥
RefusesBending L pushes pulls UnlawfulFactors = ⊥
RefusesBending L pushes pulls UnknownState = ⊥

abbrev pub ResistanceAnswer : Ledger → (ℕ → ℕ) → (ℕ → ℕ) → Result Resistance QuestionFault → Type 0
ResistanceAnswer L pushes pulls (Ok r) = IsResistance L pushes pulls r
ResistanceAnswer L pushes pulls (Err f) = RefusesBending L pushes pulls f

-- a choice's factored sum of moments × 750 exceeds 100 × Mn
abbrev pub Exceeds : List (Option Row) → ℕ → Choice → Type 0
Exceeds rows mn choice = pos (100 * mn) <ℤ times 750 (factored choice Moment rows)

-- the first verdict that fits: not compact, brittle, too weak where some choice exceeds the resistance, and carries where none does
abbrev pub Judges : List (ℕ × ℕ) → List (Option Row) → Resistance → Verdict → Type 0
Judges factors rows r NotCompact = r.compact ≡ false
Judges factors rows r Brittle = (r.compact ≡ true) × (r.ductile ≡ false)
Judges factors rows r TooWeak = (r.compact ≡ true) × (r.ductile ≡ true) × ((choice : Choice) × Chosen factors choice × Exceeds rows r.mn choice)
Judges factors rows r Carries = (r.compact ≡ true) × (r.ductile ≡ true) × ((choice : Choice) → Chosen factors choice → Exceeds rows r.mn choice → ⊥)

-- a bending answer: a resistance, and its verdict
pub record IsBending (L : Ledger) (pushes pulls : ℕ → ℕ) (factors : List (ℕ × ℕ)) (b : Bending) : Type 0 where
  pub resistance : Resistance
  pub is_resistance : IsResistance L pushes pulls resistance
  pub level : b.level ≡ resistance.level
  pub mp : b.mp ≡ resistance.mp
  pub mn : b.mn ≡ resistance.mn
  pub verdict : Judges factors L.rows resistance b.verdict

abbrev pub BendingAnswer : Ledger → (ℕ → ℕ) → (ℕ → ℕ) → List (ℕ × ℕ) → Result Bending QuestionFault → Type 0
BendingAnswer L pushes pulls factors (Ok b) = IsBending L pushes pulls factors b
BendingAnswer L pushes pulls factors (Err f) = RefusesBending L pushes pulls f
