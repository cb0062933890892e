-- One step of the reader: its tests in their order, the command at its place, and the place after it.
use Rattle.std.specs.Prelude.{◌≡◌, ℕ, ◌-◌, List, [], length, drop, Some, None, Ok, Err, MatchBool, Option, Result, ◌==◌, nat_lt}
use Rattle.faults.specs.declared.place.Fault.{Fault}
use Rattle.faults.specs.declared.reading.ReadFault.{ReadFault}
use Rattle.faults.specs.declared.reading.ReadFault.TheVariants.{CutShort, ShortBuffer, TooLong}
use Rattle.faults.specs.declared.recorded.RecordFault.{RecordFault}
use Rattle.faults.specs.declared.recorded.RecordFault.TheVariants.{Reading}
use Rattle.sheet.specs.Ledger.{Ledger}
use Rattle.command.specs.declared.commands.Command.{Command}
use Rattle.command.specs.Bytes.{parsed}
use Rattle.record.specs.declared.stepped.Stepped.{Stepped}
use Rattle.record.specs.Lines.{fault_line, Wrote}
use Rattle.record.specs.Runs.{Outcome, Refused, Runs}

-- what is read at the place: a command that is run, with the next place behind it; or none, and the reader goes to the record's end
abbrev pub Obeys : Ledger → List ℕ → Result (Command × List ℕ) ReadFault → Ledger → ℕ → Outcome → Type 0
Obeys L bytes (Err f) M next o = Refused L f M o × (next ≡ length bytes)
Obeys L bytes (Ok p) M next o = Runs L p.0 M o × (next ≡ length bytes - length p.1)

-- from a place: nothing at the record's end, refused past it, else what is read there
abbrev pub Advances : Ledger → List ℕ → ℕ → Ledger → ℕ → Outcome → Type 0
Advances L bytes place M next o =
    MatchBool (place == length bytes) ((o ≡ Ok []) × (M ≡ L) × (next ≡ place))
    (MatchBool (nat_lt (length bytes) place) (Refused L CutShort M o × (next ≡ length bytes))
    (Obeys L bytes (parsed (drop place bytes)) M next o))

-- what a step leaves: the next place, the line that it writes, and its fault
pub record Report : Type 0 where
  pub next : ℕ
  pub text : List ℕ
  pub fault : Option Fault

-- a fault with the place of its command
abbrev pub fault_at : ℕ → RecordFault → Option Fault
fault_at place f = Some (record { place = place; fault = f })

-- the reader stays where it is, with a fault that has no line
abbrev pub halted : ℕ → ReadFault → Report
halted place f = record { next = place; text = []; fault = fault_at place (Reading f) }

abbrev pub step_text : ℕ → Outcome → List ℕ
step_text place (Ok text) = text
step_text place (Err f) = fault_line place f

abbrev pub step_fault : ℕ → Outcome → Option Fault
step_fault place (Ok text) = None
step_fault place (Err f) = fault_at place f

abbrev pub report_of : ℕ → ℕ → Outcome → Report
report_of place next o = record { next = next; text = step_text place o; fault = step_fault place o }

-- a step that is neither refused for the record's length nor for the buffer's: the next place, the fault, and the line at the front of the buffer, the rest untouched
pub record GoesOn (L : Ledger) (bytes : List ℕ) (from : ℕ) (before : List ℕ) (M : Ledger) (s : Stepped) (after : List ℕ) : Type 0 where
  pub outcome : Outcome
  pub advances : Advances L bytes from M s.place outcome
  pub wrote : Wrote (step_text from outcome) before s.written after
  pub fault : s.fault ≡ step_fault from outcome

-- a step from a place with a line buffer of this length
abbrev pub Steps : Ledger → List ℕ → ℕ → ℕ → Ledger → Report → Type 0
Steps L bytes place buffer M report =
    MatchBool (nat_lt 65536 (length bytes)) ((M ≡ L) × (report ≡ halted place TooLong))
    (MatchBool (nat_lt buffer 64) ((M ≡ L) × (report ≡ halted place ShortBuffer))
    ((next : ℕ) × (o : Outcome) × Advances L bytes place M next o × (report ≡ report_of place next o)))

-- a call that makes a step: what it leaves, with the line at the front of the buffer and the rest untouched
pub record MakesStep (L : Ledger) (bytes : List ℕ) (from : ℕ) (before : List ℕ) (M : Ledger) (s : Stepped) (after : List ℕ) : Type 0 where
  pub report : Report
  pub steps : Steps L bytes from (length before) M report
  pub place : s.place ≡ report.next
  pub wrote : Wrote report.text before s.written after
  pub fault : s.fault ≡ report.fault
