-- A load effect's value as whole sixteenths. A float is read by its parts: `fin s m e` is the number m * 2 ^ e, negative where s is true, and 2 ^ e is the fraction up e / down e.
use Rattle.std.specs.Prelude.{◌≡◌, ℕ, ◌*◌, ◌/◌, ◌%◌, ◌<◌, ◌≤◌, Bool, true, false, cond, not, ℤ, pos, neg_ℤ, Ok, Err, Result, ◌==◌, ◌≢◌, nat_lt, unsigned_abs, Float}
use Rattle.std.specs.Int.Signed.{non_neg}
use Rattle.std.specs.Float.{nan, inf, fin}
use Rattle.std.specs.Float.Ieee.{up, down}
use Rattle.faults.specs.declared.value.ValueFault.{ValueFault}
use Rattle.faults.specs.declared.value.ValueFault.TheVariants.{OutOfRange, NotSixteenths}

-- n, or -n where the sign is set
abbrev pub signed : Bool → ℕ → ℤ
signed true n = neg_ℤ (pos n)
signed false n = pos n

-- a value of magnitude a / d: beyond 131,072, or no multiple of 1/16, or that many sixteenths
abbrev pub judged_fraction : Bool → ℕ → ℕ → Result ℤ ValueFault
judged_fraction s a d =
    cond (nat_lt (131072 * d) a) (Err OutOfRange)
    (cond (16 * a % d == 0) (Ok (signed s (16 * a / d))) (Err NotSixteenths))

-- any float
abbrev pub judged : Float → Result ℤ ValueFault
judged nan = Err OutOfRange
judged (inf s) = Err OutOfRange
judged (fin s m e) = judged_fraction s (m * up e) (down e)

-- The same as a relation: `Ok z` where the float is z sixteenths and at most 131,072 in magnitude; out of range where it is no number or more; not sixteenths where it is at most that, and n sixteenths for no whole n.
abbrev pub Judges : Float → Result ℤ ValueFault → Type 0
Judges nan r = r ≡ Err OutOfRange
Judges (inf s) r = r ≡ Err OutOfRange
Judges (fin s m e) (Ok z) = (m * up e ≤ 131072 * down e) × (z ≡ signed s (unsigned_abs z)) × (16 * (m * up e) ≡ unsigned_abs z * down e)
Judges (fin s m e) (Err OutOfRange) = 131072 * down e < m * up e
Judges (fin s m e) (Err NotSixteenths) = (m * up e ≤ 131072 * down e) × ((n : ℕ) → 16 * (m * up e) ≢ n * down e)

-- the float is z sixteenths, with z's sign
abbrev pub IsSixteenths : ℤ → Float → Type 0
IsSixteenths z nan = ⊥
IsSixteenths z (inf s) = ⊥
IsSixteenths z (fin s m e) = (s ≡ not (non_neg z)) × (16 * (m * up e) ≡ unsigned_abs z * down e)

-- a whole number of sixteenths: in range up to 131,072 * 16
abbrev pub judged_sixteenths : ℤ → Result ℤ ValueFault
judged_sixteenths z = cond (nat_lt 2097152 (unsigned_abs z)) (Err OutOfRange) (Ok z)
