-- Factored extremes of worked load effects, as statements on the definitions.
use Rattle.std.specs.Prelude.{ℕ, true, false, pos, neg_ℤ, ◌≢◌, Float}
use Rattle.std.specs.Float.{fin}
use Rattle.loads.specs.declared.load_type.LoadType.{LoadType}
use Rattle.loads.specs.declared.load_type.LoadType.TheVariants.{Dc, Dw, Ll}
use Rattle.loads.specs.declared.kind.EffectKind.TheVariants.{Moment}
use Rattle.loads.specs.Values.{judged}
use Rattle.loads.specs.Factors.{strength_i}
use Rattle.sheet.specs.Ledger.{Ledger, blank, enter, after}
use Rattle.questions.specs.Extremes.{Choice, Chosen, factored, IsExtremes}

-- a moment in kip-feet, entered into a slot
abbrev pub with_moment : Ledger → ℕ → LoadType → Float → Ledger
with_moment L slot t x = after L (enter slot t Moment (judged x))

-- DC 1,000, DW 200 and LL 1,500 kip-feet: 125 * 2 ^ 3, 25 * 2 ^ 3 and 375 * 2 ^ 2
abbrev pub dead_and_live : Ledger
dead_and_live =
    with_moment (with_moment (with_moment blank 0 Dc (fin false 125 (pos 3))) 1 Dw (fin false 25 (pos 3))) 2 Ll (fin false 375 (pos 2))

-- in Strength I their factored sums go from 1,648,000 to 6,680,000
abbrev pub DeadAndLive : Type 0
DeadAndLive = IsExtremes strength_i Moment dead_and_live.rows (record { low = pos 1648000; high = pos 6680000 })

-- DC 100 and -160 kip-feet: 25 * 2 ^ 2 and -5 * 2 ^ 5
abbrev pub opposed : Ledger
opposed = with_moment (with_moment blank 0 Dc (fin false 25 (pos 2))) 1 Dc (fin true 5 (pos 5))

-- in Strength I their factored sums go from -120,000 to -86,400
abbrev pub Opposed : Type 0
Opposed = IsExtremes strength_i Moment opposed.rows (record { low = neg_ℤ (pos 120000); high = neg_ℤ (pos 86400) })

-- and no choice gives the -30,400 that a factor for each row would
abbrev pub OneFactorAType : Type 0
OneFactorAType = (choice : Choice) → Chosen strength_i choice → factored choice Moment opposed.rows ≢ neg_ℤ (pos 30400)
