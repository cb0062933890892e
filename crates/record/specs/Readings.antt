-- A record that is being read, command by command.
use Rattle.std.specs.Prelude.{◌≡◌, ℕ, ◌<◌, ◌≤◌, List, length, Some, None, Ok, Err, Option, Result}
use Rattle.faults.specs.declared.reading.ReadFault.{ReadFault}
use Rattle.faults.specs.declared.reading.ReadFault.TheVariants.{TooLong}
use Rattle.sheet.specs.Ledger.{ledger, blank}
use Rattle.record.specs.declared.reading.Reading.{Reading}
use Rattle.record.specs.Lines.{Wrote}
use Rattle.record.specs.Runs.{Outcome}
use Rattle.record.specs.declared.stepped.Stepped.{Stepped}
use Rattle.record.specs.Steps.{Advances, MakesStep, step_text}

-- at the record's first byte, with a new sheet
pub record Starts (bytes : List ℕ) (r : Reading) : Type 0 where
  pub reads : r.bytes.now ≡ bytes
  pub place : r.place ≡ 0
  pub sheet : ledger r.sheet ≡ blank

-- refused exactly where the record is over 65,536 bytes
abbrev pub Opens : List ℕ → Result Reading ReadFault → Type 0
Opens bytes (Ok r) = (length bytes ≤ 65536) × Starts bytes r
Opens bytes (Err f) = (65536 < length bytes) × (f ≡ TooLong)

-- one step more, from inside the record: that of a call that makes a step there, with its line of n bytes at the front of the buffer, the rest untouched, and the place behind it
pub record ReadsLine (r : Reading) (before : List ℕ) (n : ℕ) (s : Reading) (after : List ℕ) : Type 0 where
  pub inside : r.place < length r.bytes.now
  pub reads : s.bytes.now ≡ r.bytes.now
  pub step : Stepped
  pub makes : MakesStep (ledger r.sheet) r.bytes.now r.place before (ledger s.sheet) step after
  pub place : s.place ≡ step.place
  pub line : n ≡ step.written
  pub outcome : Outcome
  pub advances : Advances (ledger r.sheet) r.bytes.now r.place (ledger s.sheet) s.place outcome
  pub forward : r.place < s.place
  pub wrote : Wrote (step_text r.place outcome) before n after

-- at the record's end nothing more, and all is as it was; before it, one command more
abbrev pub Continues : Reading → List ℕ → Option ℕ → Reading → List ℕ → Type 0
Continues r before None s after = (r.place ≡ length r.bytes.now) × (s ≡ r) × (after ≡ before)
Continues r before (Some n) s after = ReadsLine r before n s after
