-- What one command brings: the ledger after it, and its line or its fault.
use Rattle.std.specs.Prelude.{◌≡◌, ℕ, ◌-◌, ◌<◌, ◌≤◌, ◌⊎◌, List, [], ℤ, Ok, Err, Option, Result, slice_index_or}
use Rattle.faults.specs.declared.reading.ReadFault.{ReadFault}
use Rattle.faults.specs.declared.part.PartFault.TheVariants.{OutsideLimits}
use Rattle.faults.specs.declared.question.QuestionFault.{QuestionFault}
use Rattle.faults.specs.declared.question.QuestionFault.TheVariants.{NoMoment, PlateMissing, SpacingLimits, StudLimits, UnlawfulFactors, UnknownState}
use Rattle.faults.specs.declared.sheet.SheetFault.{SheetFault}
use Rattle.faults.specs.declared.recorded.RecordFault.{RecordFault}
use Rattle.faults.specs.declared.recorded.RecordFault.TheVariants.{Sheet, Part, Question, Reading}
use Rattle.loads.specs.declared.load_type.LoadType.{LoadType}
use Rattle.loads.specs.declared.kind.EffectKind.{EffectKind}
use Rattle.loads.specs.Values.{judged_sixteenths}
use Rattle.loads.specs.Factors.{states}
use Rattle.sheet.specs.Ledger.{Ledger, Change, place, lift, lower, enter, strike, after, Answers}
use Rattle.section.specs.Strips.{◌⊕◌}
use Rattle.kinds.specs.declared.slab.Slab.{Slab}
use Rattle.kinds.specs.Decks.{DeckFits, slab_strip, layers_strip}
use Rattle.questions.specs.declared.answers.Verdict.{Verdict}
use Rattle.questions.specs.declared.answers.Resistance.{Resistance}
use Rattle.questions.specs.declared.answers.Extremes as asked
use Rattle.questions.specs.Extremes.{IsExtremes}
use Rattle.questions.specs.Bending.{verdict_number, IsResistance, RefusesBending, Judges}
use Rattle.questions.specs.Shear.{IsShearResistance, RefusesShear, JudgesShear}
use Rattle.command.specs.declared.commands.Command.{Command}
use Rattle.command.specs.declared.commands.Command.TheVariants.{Place, Lift, Lower, Enter, Strike, Extremes, Bending, Shear}
use Rattle.record.specs.Lines.{extremes_line, bending_line, shear_line, Wrote}
use Rattle.loads.specs.Codes.{load_type, effect_kind}
use Rattle.record.specs.Codes.{spacing_of}

-- a command's line, [] where it prints none, or its fault
abbrev pub Outcome : Type 0
Outcome = Result (List ℕ) RecordFault

-- refused with a fault of the record's own
abbrev pub Refused : Ledger → ReadFault → Ledger → Outcome → Type 0
Refused L f M o = (o ≡ Err (Reading f)) × (M ≡ L)

-- a change to the sheet: the ledger goes on by the call; accepted, it prints nothing, and refused, it is the sheet's fault
abbrev pub Changes : Ledger → Change → Ledger → Outcome → Type 0
Changes L c M (Ok text) = Answers L c (Ok tt) × (M ≡ after L c) × (text ≡ [])
Changes L c M (Err (Sheet f)) = Answers L c (Err f) × (M ≡ after L c)
Changes L c M (Err (Part f)) = ⊥
Changes L c M (Err (Question f)) = ⊥
Changes L c M (Err (Reading f)) = ⊥

-- entering, with the codes read first
abbrev pub Enters : Ledger → ℕ → Result LoadType ReadFault → Result EffectKind ReadFault → ℤ → Ledger → Outcome → Type 0
Enters L s (Err f) k n M o = Refused L f M o
Enters L s (Ok t) (Err f) n M o = Refused L f M o
Enters L s (Ok t) (Ok k) n M o = Changes L (enter s t k (judged_sixteenths n)) M o

-- the extremes of a published state, or its number is unknown
abbrev pub TellsExtremes : Ledger → ℕ → EffectKind → Ledger → Outcome → Type 0
TellsExtremes L n k M (Ok text) =
    (1 ≤ n) × (n ≤ 9) × (M ≡ L)
    × ((e : asked.Extremes) × IsExtremes (slice_index_or states (n - 1) []) k L.rows e × (text ≡ extremes_line e.low e.high))
TellsExtremes L n k M (Err f) = ((n ≡ 0) ⊎ (9 < n)) × (f ≡ Question UnknownState) × (M ≡ L)

abbrev pub AsksExtremes : Ledger → ℕ → Result EffectKind ReadFault → Ledger → Outcome → Type 0
AsksExtremes L n (Err f) M o = Refused L f M o
AsksExtremes L n (Ok k) M o = TellsExtremes L n k M o

-- a question that has been answered but for the state, which is looked up last
abbrev pub StateLast : ℕ → Type 0 → (QuestionFault → Type 0) → QuestionFault → Type 0
StateLast n Answered Refuses NoMoment = Refuses NoMoment
StateLast n Answered Refuses PlateMissing = Refuses PlateMissing
StateLast n Answered Refuses SpacingLimits = Refuses SpacingLimits
StateLast n Answered Refuses StudLimits = Refuses StudLimits
StateLast n Answered Refuses UnlawfulFactors = Refuses UnlawfulFactors
StateLast n Answered Refuses UnknownState = ((n ≡ 0) ⊎ (9 < n)) × Answered

-- a deck of one slab and no bars
abbrev pub slab_pushes : Slab → ℕ → ℕ
slab_pushes s = slab_strip s ⊕ layers_strip []

abbrev pub slab_pulls : ℕ → ℕ
slab_pulls = layers_strip []

-- bending with a slab: refused with 10 where the slab does not fit, then with 11 and 12, then with 15
abbrev pub TellsBending : Ledger → ℕ → Slab → Ledger → Outcome → Type 0
TellsBending L n s M (Ok text) =
    DeckFits s [] × (1 ≤ n) × (n ≤ 9) × (M ≡ L)
    × ((r : Resistance) × (v : Verdict) × IsResistance L (slab_pushes s) slab_pulls r × Judges (slice_index_or states (n - 1) []) L.rows r v × (text ≡ bending_line r.level r.mp r.mn (verdict_number v)))
TellsBending L n s M (Err (Sheet f)) = ⊥
TellsBending L n s M (Err (Part f)) = (f ≡ OutsideLimits) × (DeckFits s [] → ⊥) × (M ≡ L)
TellsBending L n s M (Err (Question f)) =
    DeckFits s [] × StateLast n ((r : Resistance) × IsResistance L (slab_pushes s) slab_pulls r) (RefusesBending L (slab_pushes s) slab_pulls) f × (M ≡ L)
TellsBending L n s M (Err (Reading f)) = ⊥

-- shear: refused with 12 and 13, then with 15
abbrev pub TellsShear : Ledger → ℕ → Option ℕ → Ledger → Outcome → Type 0
TellsShear L n d M (Ok text) =
    (1 ≤ n) × (n ≤ 9) × (M ≡ L)
    × ((force : ℕ) × (v : Verdict) × IsShearResistance L d force × JudgesShear (slice_index_or states (n - 1) []) L.rows force v × (text ≡ shear_line force (verdict_number v)))
TellsShear L n d M (Err (Sheet f)) = ⊥
TellsShear L n d M (Err (Part f)) = ⊥
TellsShear L n d M (Err (Question f)) = StateLast n ((force : ℕ) × IsShearResistance L d force) (RefusesShear L d) f × (M ≡ L)
TellsShear L n d M (Err (Reading f)) = ⊥

abbrev pub Runs : Ledger → Command → Ledger → Outcome → Type 0
Runs L (Place s r t b h g) M o = Changes L (place s (record { role = r; top = t; breadth = b; height = h; fy = g })) M o
Runs L (Lift s) M o = Changes L (lift s) M o
Runs L (Lower n) M o = Changes L (lower n) M o
Runs L (Enter s t e n) M o = Enters L s (load_type t) (effect_kind e) n M o
Runs L (Strike s) M o = Changes L (strike s) M o
Runs L (Extremes n e) M o = AsksExtremes L n (effect_kind e) M o
Runs L (Bending n t b h f) M o = TellsBending L n (record { top = t; breadth = b; height = h; fc = f }) M o
Runs L (Shear n d) M o = TellsShear L n (spacing_of d) M o

-- an outcome as a call returns it: the line's length, with the line at the front of the buffer and the rest untouched; of a fault, the buffer as it was
abbrev pub Returns : List ℕ → Outcome → Result ℕ RecordFault → List ℕ → Type 0
Returns before (Ok text) (Ok n) after = Wrote text before n after
Returns before (Ok text) (Err g) after = ⊥
Returns before (Err f) (Ok n) after = ⊥
Returns before (Err f) (Err g) after = (g ≡ f) × (after ≡ before)

-- a call with a line buffer, whose outcome holds of what it was asked
pub record Delivers (Holds : Outcome → Type 0) (before : List ℕ) (r : Result ℕ RecordFault) (after : List ℕ) : Type 0 where
  pub outcome : Outcome
  pub holds : Holds outcome
  pub returns : Returns before outcome r after

-- a change's answer, as the length of its line, which is 0
abbrev pub no_line : Result (Unit {0}) SheetFault → Result ℕ RecordFault
no_line (Ok u) = Ok 0
no_line (Err f) = Err (Sheet f)

-- a call that writes no line, whose outcome holds of what it was asked
abbrev pub Silently : (Outcome → Type 0) → Result ℕ RecordFault → Type 0
Silently Holds (Ok n) = (n ≡ 0) × Holds (Ok [])
Silently Holds (Err f) = Holds (Err f)
