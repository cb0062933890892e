-- One step more of a transcript.
use Rattle.std.proofs.Common.{◌≡◌, ℕ, ◌<◌, ◌≤◌, List, [], ◌++◌, length, take, drop, Ok, Err, codes, MatchBool, Result, sym, refl, ap, ◌∙◌, subst, append_assoc, arith, length-append, length-drop, le-ltb, lt-ltb, ne_eqb}
use Rattle.std.proofs.lemmas.Bool.{MatchBool-at_false}
use Rattle.std.proofs.lemmas.Fmt.{decimal_digit, decimal_step}
use Rattle.std.proofs.lemmas.List.{take_at, append-nil}
use Rattle.faults.specs.declared.reading.ReadFault.{ReadFault}
use Rattle.faults.specs.declared.reading.ReadFault.TheVariants.{TooLong}
use Rattle.faults.specs.declared.recorded.RecordFault.TheVariants.{Reading}
use Rattle.sheet.specs.Ledger.{Ledger, blank}
use Rattle.command.specs.declared.commands.Command.{Command}
use Rattle.command.specs.Bytes.{parsed}
use Rattle.command.proofs.Shorter.{shorter}
use Rattle.record.specs.declared.stepped.Stepped.{Stepped}
use Rattle.record.specs.Lines.{fault_line, Wrote}
use Rattle.record.specs.Runs.{Outcome}
use Rattle.record.specs.Steps.{Obeys, Advances, step_text, Report, MakesStep}
use Rattle.record.specs.Transcripts.{Follows, Reads, ended, stepped, Transcript}

-- from inside the record a step goes forward, and not past the end
pub forward : (L : Ledger) (bytes : List ℕ) (place : ℕ) (M : Ledger) (next : ℕ) (o : Outcome) → place < length bytes → Advances L bytes place M next o → (place < next) × (next ≤ length bytes)
forward L bytes place M next o h a = go (parsed (drop place bytes)) refl (MatchBool-at_false _ _ (le-ltb (length bytes) place (omega arith)) (MatchBool-at_false _ _ (ne_eqb place (length bytes) (omega arith)) a))
  where
    go : (r : Result (Command × List ℕ) ReadFault) → r ≡ parsed (drop place bytes) → Obeys L bytes r M next o → (place < next) × (next ≤ length bytes)
    go (Err f) e x = let n = x.1 in (omega arith, omega arith)
    go (Ok p) e x =
        let n = x.1 in
        let s = shorter (drop place bytes) p.0 p.1 e in
        let l = length-drop place bytes in
        (omega arith, omega arith)

-- the outcome of a step with a long enough buffer on a record that is not too long
pub record Taken (L : Ledger) (bytes : List ℕ) (place : ℕ) (before : List ℕ) (M : Ledger) (s : Stepped) (after : List ℕ) : Type 0 where
  pub outcome : Outcome
  pub advances : Advances L bytes place M s.place outcome
  pub wrote : Wrote (step_text place outcome) before s.written after

pub taken : {L : Ledger} {bytes : List ℕ} {place : ℕ} {before : List ℕ} {M : Ledger} {s : Stepped} {after : List ℕ} → length bytes ≤ 65536 → 64 ≤ length before → MakesStep L bytes place before M s after → Taken L bytes place before M s after
taken {L} {bytes} {place} {before} {M} {s} {after} few room m =
    let g = MatchBool-at_false _ _ (le-ltb (length before) 64 room) (MatchBool-at_false _ _ (le-ltb 65536 (length bytes) few) m.steps) in
    record {
      outcome = g.1;
      advances = subst (λ n. Advances L bytes place M n g.1) (sym (m.place ∙ ap (λ (r : Report). r.next) g.3)) g.2;
      wrote = subst (λ t. Wrote t before s.written after) (ap (λ (r : Report). r.text) g.3) m.wrote;
    }

-- the line is the front of the buffer
pub front : {text before after : List ℕ} {n : ℕ} → Wrote text before n after → take n after ≡ text
front {text} {before} {after} {n} w = ap (take n) w.after ∙ take_at text (drop n before) n (sym w.len)

pub fits : {text before after : List ℕ} {n : ℕ} → Wrote text before n after → n ≤ length after
fits {text} {before} {after} {n} w =
    let a = ap length w.after ∙ length-append text (drop n before) in
    let l = w.len in
    omega arith

pub too_long_line : fault_line 0 (Reading TooLong) ≡ codes "fault at 0 record 20\n"
too_long_line = rw (decimal_digit 0 (omega arith), decimal_step 20 (omega arith) (omega arith), decimal_digit 2 (omega arith)) refl

pub long : (bytes text : List ℕ) → 65536 < length bytes → text ≡ fault_line 0 (Reading TooLong) → Transcript bytes text
long bytes text h e = subst (λ b. MatchBool b (text ≡ fault_line 0 (Reading TooLong)) (Reads bytes blank 0 text)) (sym (lt-ltb 65536 (length bytes) h)) e

-- the lines so far begin the transcript: whatever is read from here on goes behind them
abbrev pub Begun : List ℕ → Ledger → ℕ → List ℕ → Type 0
Begun bytes L place lines = (text : List ℕ) → Reads bytes L place text → Reads bytes blank 0 (lines ++ text)

module _ (bytes : List ℕ) (L : Ledger) (place : ℕ) (lines : List ℕ) (begun : Begun bytes L place lines) where
  pub begun_more : (M : Ledger) (next : ℕ) (after : List ℕ) → place < length bytes → Follows L bytes place lines M next after → Begun bytes M next after
  begun_more M next after h f text r =
      subst (Reads bytes blank 0) (sym (append_assoc lines (step_text place f.outcome) text) ∙ ap (λ x. x ++ text) (sym f.lines))
      (begun (step_text place f.outcome ++ text) (stepped M next f.outcome h f.advances r))

  pub whole : length bytes ≤ 65536 → place ≡ length bytes → Transcript bytes lines
  whole h at =
      let all = begun [] (subst (λ p. Reads bytes L p []) (sym at) ended) in
      subst (λ b. MatchBool b (lines ≡ fault_line 0 (Reading TooLong)) (Reads bytes blank 0 lines)) (sym (le-ltb 65536 (length bytes) h)) (subst (Reads bytes blank 0) (append-nil lines) all)
