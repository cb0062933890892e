-- The whole transcript of a record.
use Rattle.std.specs.Prelude.{◌≡◌, ℕ, ◌<◌, List, [], ◌++◌, length, MatchBool, nat_lt}
use Rattle.faults.specs.declared.reading.ReadFault.TheVariants.{TooLong}
use Rattle.faults.specs.declared.recorded.RecordFault.TheVariants.{Reading}
use Rattle.sheet.specs.Ledger.{Ledger, blank}
use Rattle.record.specs.Lines.{fault_line}
use Rattle.record.specs.Runs.{Outcome}
use Rattle.record.specs.Steps.{Advances, step_text}

-- one step more: its line behind those before it
pub record Follows (L : Ledger) (bytes : List ℕ) (place : ℕ) (before : List ℕ) (M : Ledger) (next : ℕ) (after : List ℕ) : Type 0 where
  pub outcome : Outcome
  pub advances : Advances L bytes place M next outcome
  pub lines : after ≡ before ++ step_text place outcome

-- the lines from a ledger and a place to the record's end: those of one step after another, with none skipped
pub data Reads (bytes : List ℕ) : Ledger → ℕ → List ℕ → Type 0 where
  ended : {L : Ledger} → Reads bytes L (length bytes) []
  stepped : {L : Ledger} {place : ℕ} {text : List ℕ} (M : Ledger) (next : ℕ) (o : Outcome) →
      place < length bytes → Advances L bytes place M next o → Reads bytes M next text → Reads bytes L place (step_text place o ++ text)

-- the lines of a record, from a new sheet and its first byte; of a record over 65,536 bytes one fault line
abbrev pub Transcript : List ℕ → List ℕ → Type 0
Transcript bytes text = MatchBool (nat_lt 65536 (length bytes)) (text ≡ fault_line 0 (Reading TooLong)) (Reads bytes blank 0 text)
