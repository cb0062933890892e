-- The bending resistance of the girder with its deck, as statements on the definitions.
use Rattle.std.specs.Prelude.{◌≡◌, ℕ, true, false, List, [], ◌∷◌, ℤ, pos, neg_ℤ, Option}
use Rattle.std.specs.Float.{fin}
use Rattle.loads.specs.declared.load_type.LoadType.TheVariants.{Dc, Dw}
use Rattle.loads.specs.declared.kind.EffectKind.TheVariants.{Moment}
use Rattle.loads.specs.Factors.{Lawful}
use Rattle.section.specs.Parts.{IsDepth}
use Rattle.sheet.specs.declared.row.Row.{Row}
use Rattle.sheet.specs.Ledger.{Ledger}
use Rattle.sheet.specs.PlateStrips.{plate_strips}
use Rattle.questions.specs.declared.answers.Resistance.{Resistance}
use Rattle.questions.specs.declared.answers.Verdict.{Verdict}
use Rattle.questions.specs.declared.answers.Verdict.TheVariants.{Carries, TooWeak}
use Rattle.questions.specs.Extremes.{IsExtremes}
use Rattle.questions.specs.Bending.{plastic_moment, nominal_moment, IsResistance, Judges, IsBending}
use Rattle.figures.specs.LoadEffects.{with_moment}
use Rattle.figures.specs.Girders.{girder, deck_pushes, deck_pulls}

-- the girder ends at 808, and the deck at 128
abbrev pub Depths : Type 0
Depths = IsDepth (plate_strips girder.plates) (plate_strips girder.plates) 808 × IsDepth deck_pushes deck_pulls 128

-- Mp of the moment at the axis, and Mn of Mp, the axis level and the greater depth
abbrev pub Moments : Type 0
Moments = (plastic_moment 670355404800 ≡ 81830493) × (nominal_moment 81830493 131 808 ≡ 78271676)

abbrev pub resistance : Resistance
resistance = record { level = 131; mp = 81830493; mn = 78271676; compact = true; ductile = true }

abbrev pub Resists : Type 0
Resists = IsResistance girder deck_pushes deck_pulls resistance

-- the verdict wherever this is the greatest factored moment, in hundredths of a sixteenth of a kip-foot
abbrev pub VerdictAt : ℕ → Verdict → Type 0
VerdictAt high verdict = (factors : List (ℕ × ℕ)) (rows : List (Option Row)) (low : ℤ) → IsExtremes factors Moment rows (record { low = low; high = pos high }) → Judges factors rows resistance verdict

-- the greatest that it carries, and the next
abbrev pub Carried : Type 0
Carried = VerdictAt 10436223 Carries

abbrev pub NotCarried : Type 0
NotCarried = VerdictAt 10436224 TooWeak

-- the same of two sheets: a DC moment of 496,963 sixteenths of a kip-foot reaches that at a factor of 0.21, and one sixteenth of DW at 0.01 goes past it
abbrev pub factors : List (ℕ × ℕ)
factors = (21, 21) ∷ (1, 1) ∷ (0, 0) ∷ (0, 0) ∷ []

abbrev pub at_limit : Ledger
at_limit = with_moment girder 0 Dc (fin false 496963 (neg_ℤ (pos 4)))

abbrev pub past_limit : Ledger
past_limit = with_moment at_limit 1 Dw (fin false 1 (neg_ℤ (pos 4)))

abbrev pub AtLimit : Type 0
AtLimit = Lawful factors × IsBending at_limit deck_pushes deck_pulls factors (record { level = 131; mp = 81830493; mn = 78271676; verdict = Carries })

abbrev pub PastLimit : Type 0
PastLimit = IsBending past_limit deck_pushes deck_pulls factors (record { level = 131; mp = 81830493; mn = 78271676; verdict = TooWeak })
