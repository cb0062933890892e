-- Whole runs: a list of requests, the reply to each, and the ledger that they leave.
use Rattle.std.specs.Prelude.{◌≡◌, ℕ, List, [], ◌∷◌, ◌++◌, length, Some, None, Ok, Err, Option, Result, ◌≢◌}
use Rattle.faults.specs.declared.sheet.SheetFault.{SheetFault}
use Rattle.faults.specs.Numbers.{sheet_number}
use Rattle.loads.specs.declared.kind.EffectKind.{EffectKind}
use Rattle.section.specs.declared.sense.Sense.{Sense}
use Rattle.section.specs.Axis.{AxisAnswer}
use Rattle.sheet.specs.declared.held.Sheet.{Sheet as Sheets}
use Rattle.sheet.specs.Ledger.{Ledger, blank, ledger, Change, slot_of, Accepted, Refused, changed}
use Rattle.questions.specs.Extremes.{IsExtremes}
use Rattle.questions.specs.Together.{with_plates}
use Rattle.questions.specs.Bending.{BendingAnswer}
use Rattle.runs.specs.declared.reply.Answer.{Answer}
use Rattle.runs.specs.declared.reply.Answer.TheVariants.{Done, Extremes, Axis, Bending}
use Rattle.runs.specs.declared.reply.CallFault.{CallFault}
use Rattle.runs.specs.declared.reply.CallFault.TheVariants.{Sheet, Question}
use Rattle.runs.specs.Requests.{Request, change, extremes, axis, bending}

-- a `Reply`, whose name as an alias no clause sees: what the call came to, or why it was refused
abbrev pub Outcome : Type 0
Outcome = Result Answer CallFault

-- a change: accepted where no line applies, and then it does to the slots what is said of it; refused with the first line that applies, and then nothing changes
abbrev pub Changes : Ledger → Change → Outcome → Ledger → Type 0
Changes L c (Ok Done) M = Accepted L c × (M ≡ changed L c)
Changes L c (Ok (Extremes e)) M = ⊥
Changes L c (Ok (Axis a)) M = ⊥
Changes L c (Ok (Bending b)) M = ⊥
Changes L c (Err (Sheet f)) M = Refused L c (sheet_number f) × (f.slot ≡ slot_of c) × (M ≡ L)
Changes L c (Err (Question f)) M = ⊥

-- a change's result as a reply
abbrev pub replied : Result (Unit {0}) SheetFault → Outcome
replied (Ok u) = Ok Done
replied (Err f) = Err (Sheet f)

-- extremes: every choice's factored sum lies between the two, and some choice meets each
abbrev pub TellsExtremes : Ledger → List (ℕ × ℕ) → EffectKind → Outcome → Type 0
TellsExtremes L factors k (Ok Done) = ⊥
TellsExtremes L factors k (Ok (Extremes e)) = IsExtremes factors k L.rows e
TellsExtremes L factors k (Ok (Axis a)) = ⊥
TellsExtremes L factors k (Ok (Bending b)) = ⊥
TellsExtremes L factors k (Err (Sheet f)) = ⊥
TellsExtremes L factors k (Err (Question f)) = ⊥

-- an axis: the first level with the smallest plastic moment of plates and part, with its moment and imbalance, none of which is larger than at another level; refused where a level has no moment
abbrev pub TellsAxis : Ledger → (ℕ → ℕ) → (ℕ → ℕ) → Sense → Outcome → Type 0
TellsAxis L pushes pulls sense (Ok Done) = ⊥
TellsAxis L pushes pulls sense (Ok (Extremes e)) = ⊥
TellsAxis L pushes pulls sense (Ok (Axis a)) = AxisAnswer sense (with_plates L pushes) (with_plates L pulls) (Ok a)
TellsAxis L pushes pulls sense (Ok (Bending b)) = ⊥
TellsAxis L pushes pulls sense (Err (Sheet f)) = ⊥
TellsAxis L pushes pulls sense (Err (Question f)) = AxisAnswer sense (with_plates L pushes) (with_plates L pulls) (Err f)

-- bending: level, Mp, Mn and verdict as defined, where it carries exactly when neither verdict 1 nor 2 fits and no choice's factored sum of moments exceeds the resistance
abbrev pub TellsBending : Ledger → (ℕ → ℕ) → (ℕ → ℕ) → List (ℕ × ℕ) → Outcome → Type 0
TellsBending L pushes pulls factors (Ok Done) = ⊥
TellsBending L pushes pulls factors (Ok (Extremes e)) = ⊥
TellsBending L pushes pulls factors (Ok (Axis a)) = ⊥
TellsBending L pushes pulls factors (Ok (Bending b)) = BendingAnswer L pushes pulls factors (Ok b)
TellsBending L pushes pulls factors (Err (Sheet f)) = ⊥
TellsBending L pushes pulls factors (Err (Question f)) = BendingAnswer L pushes pulls factors (Err f)

-- what one request may bring: its reply, and the ledger after it, which a question leaves as it was
abbrev pub Brings : Ledger → Request → Outcome → Ledger → Type 0
Brings L (change c) r M = Changes L c r M
Brings L (extremes factors k) r M = TellsExtremes L factors k r × (M ≡ L)
Brings L (axis pushes pulls sense) r M = TellsAxis L pushes pulls sense r × (M ≡ L)
Brings L (bending pushes pulls factors) r M = TellsBending L pushes pulls factors r × (M ≡ L)

-- a new sheet, and each request after those before it
pub data Run : List Request → List Outcome → Ledger → Type 0 where
  opened : Run [] [] blank
  more : {qs : List Request} {rs : List Outcome} {L : Ledger} (q : Request) (r : Outcome) (M : Ledger) → Run qs rs L → Brings L q r M → Run (qs ++ q ∷ []) (rs ++ r ∷ []) M

-- a run into a list of replies that is as long as the calls; else no run, and the list as it was
abbrev pub RunsInto : List Request → List Outcome → Option Sheets → List Outcome → Type 0
RunsInto qs before (Some s) after = (length before ≡ length qs) × Run qs after (ledger s)
RunsInto qs before None after = (length before ≢ length qs) × (after ≡ before)
