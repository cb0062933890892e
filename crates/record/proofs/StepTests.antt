-- The tests of a step, in their order.
use Rattle.std.proofs.Common.{◌≡◌, ℕ, ◌-◌, ◌<◌, ◌≤◌, Bool, true, false, List, [], ◌++◌, length, take, drop, None, Ok, Err, MatchBool, Result, sym, refl, ap, ◌∙◌, subst, append_assoc, le_refl, arith, length-append, length-take-le, take-append-drop, le-ltb, lt-ltb, eq-eqb, ne_eqb}
use Rattle.std.proofs.lemmas.List.{drop-append-le}
use Rattle.std.proofs.lemmas.Slice.{between_to_end}
use Rattle.faults.specs.declared.reading.ReadFault.{ReadFault}
use Rattle.faults.specs.declared.reading.ReadFault.TheVariants.{CutShort, ShortBuffer, TooLong}
use Rattle.faults.specs.declared.recorded.RecordFault.{RecordFault}
use Rattle.faults.specs.declared.recorded.RecordFault.TheVariants.{Reading}
use Rattle.sheet.specs.Ledger.{Ledger}
use Rattle.command.specs.declared.commands.Command.{Command}
use Rattle.command.specs.Bytes.{parsed}
use Rattle.record.specs.declared.stepped.Stepped.{Stepped}
use Rattle.record.specs.Lines.{fault_line, Wrote}
use Rattle.record.specs.Runs.{Outcome, Runs, Delivers}
use Rattle.record.specs.Steps.{Obeys, Advances, halted, report_of, fault_at, GoesOn, Steps, MakesStep}

yes : (b : Bool) (P Q : Type 0) → b ≡ true → P → MatchBool b P Q
yes true P Q e p = p
yes false P Q e p = absurd (borrow.Author.Tests.clash e)

no : (b : Bool) (P Q : Type 0) → b ≡ false → Q → MatchBool b P Q
no true P Q e q = absurd (borrow.Author.Tests.clash (sym e))
no false P Q e q = q

module _ (L : Ledger) (bytes : List ℕ) (place : ℕ) where
  pub at_end : place ≡ length bytes → Advances L bytes place L place (Ok [])
  at_end e = yes _ _ _ (eq-eqb place (length bytes) e) (refl, refl, refl)

  pub past_end : length bytes < place → Advances L bytes place L (length bytes) (Err (Reading CutShort))
  past_end h = no _ _ _ (ne_eqb place (length bytes) (omega arith)) (yes _ _ _ (lt-ltb (length bytes) place h) ((refl, refl), refl))

  module _ (h : place < length bytes) where
    within : (M : Ledger) (next : ℕ) (o : Outcome) → Obeys L bytes (parsed (drop place bytes)) M next o → Advances L bytes place M next o
    within M next o d = no _ _ _ (ne_eqb place (length bytes) (omega arith)) (no _ _ _ (le-ltb (length bytes) place (omega arith)) d)

    -- what was read from the place on, as a slice of the bytes
    read_here : (r : Result (Command × List ℕ) ReadFault) → r ≡ parsed (take (length bytes - place) (drop place bytes)) → r ≡ parsed (drop place bytes)
    read_here r e = e ∙ ap parsed (between_to_end bytes place (length bytes) (le_refl (length bytes)))

    pub unread : (f : ReadFault) → Err f ≡ parsed (take (length bytes - place) (drop place bytes)) → Advances L bytes place L (length bytes) (Err (Reading f))
    unread f e = within L (length bytes) (Err (Reading f)) (subst (λ r. Obeys L bytes r L (length bytes) (Err (Reading f))) (read_here (Err f) e) ((refl, refl), refl))

    pub ran : (c : Command) (rest : List ℕ) (M : Ledger) (before : List ℕ) (q : Result ℕ RecordFault) (after : List ℕ) →
        Ok (c, rest) ≡ parsed (take (length bytes - place) (drop place bytes)) → Delivers (Runs L c M) before q after →
        Delivers (Advances L bytes place M (length bytes - length rest)) before q after
    ran c rest M before q after e x = record {
      outcome = x.outcome;
      holds = within M (length bytes - length rest) x.outcome (subst (λ r. Obeys L bytes r M (length bytes - length rest) x.outcome) (read_here (Ok (c, rest)) e) (x.holds, refl));
      returns = x.returns;
    }

-- a step that stays
module _ (L : Ledger) (bytes : List ℕ) (place : ℕ) (before : List ℕ) (s : Stepped) where
  stays : (f : ReadFault) → Steps L bytes place (length before) L (halted place f) → s ≡ record { place = place; written = 0; fault = fault_at place (Reading f) } → MakesStep L bytes place before L s before
  stays f steps e = record {
    report = halted place f;
    steps = steps;
    place = ap (λ (x : Stepped). x.place) e;
    wrote = record { len = ap (λ (x : Stepped). x.written) e; after = ap (λ (n : ℕ). drop n before) (sym (ap (λ (x : Stepped). x.written) e)) };
    fault = ap (λ (x : Stepped). x.fault) e;
  }

  pub too_long : 65536 < length bytes → s ≡ record { place = place; written = 0; fault = fault_at place (Reading TooLong) } → MakesStep L bytes place before L s before
  too_long h e = stays TooLong (yes _ _ _ (lt-ltb 65536 (length bytes) h) (refl, refl)) e

  pub short_buffer : length bytes ≤ 65536 → length before < 64 → s ≡ record { place = place; written = 0; fault = fault_at place (Reading ShortBuffer) } → MakesStep L bytes place before L s before
  short_buffer l h e = stays ShortBuffer (no _ _ _ (le-ltb 65536 (length bytes) l) (yes _ _ _ (lt-ltb (length before) 64 h) (refl, refl))) e

-- a step that goes on
module _ (L : Ledger) (bytes : List ℕ) (place : ℕ) (before : List ℕ) (M : Ledger) (next : ℕ) where
  pub wrote_line : (n : ℕ) (after : List ℕ) → Delivers (Advances L bytes place M next) before (Ok n) after → GoesOn L bytes place before M (record { place = next; written = n; fault = None }) after
  wrote_line n after x = go x.outcome x.holds x.returns
    where
      go : (o : Outcome) → Advances L bytes place M next o → Rattle.record.specs.Runs.Returns before o (Ok n) after → GoesOn L bytes place before M (record { place = next; written = n; fault = None }) after
      go (Ok text) a w = record { outcome = Ok text; advances = a; wrote = w; fault = refl }
      go (Err f) a w = absurd w

  pub wrote_fault : (f : RecordFault) (middle : List ℕ) (n : ℕ) (after : List ℕ) → Delivers (Advances L bytes place M next) before (Err f) middle → Wrote (fault_line place f) middle n after →
      GoesOn L bytes place before M (record { place = next; written = n; fault = fault_at place f }) after
  wrote_fault f middle n after x w = go x.outcome x.holds x.returns
    where
      go : (o : Outcome) → Advances L bytes place M next o → Rattle.record.specs.Runs.Returns before o (Err f) middle → GoesOn L bytes place before M (record { place = next; written = n; fault = fault_at place f }) after
      go (Ok text) a v = absurd v
      go (Err g) a v = record {
        outcome = Err g;
        advances = a;
        wrote = subst (λ h. Wrote (fault_line place h) before n after) v.0 (subst (λ b. Wrote (fault_line place f) b n after) v.1 w);
        fault = ap (fault_at place) v.0;
      }

-- a line at the front of a buffer's first 64 bytes is at the front of the buffer, and what is behind them is untouched
pub wrote_front : {text before front : List ℕ} {n : ℕ} → 64 ≤ length before → length front ≡ 64 → Wrote text (take 64 before) n front → Wrote text before n (front ++ drop 64 before)
wrote_front {text} {before} {front} {n} long size w =
    let l = w.len in
    let a = ap length w.after ∙ length-append text (drop n (take 64 before)) in
    let t : length (take 64 before) ≡ 64 = length-take-le 64 before long in
    let inside : n ≤ length (take 64 before) = omega arith in
    record {
      len = w.len;
      after = ap (λ (x : List ℕ). x ++ drop 64 before) w.after
          ∙ append_assoc text (drop n (take 64 before)) (drop 64 before)
          ∙ ap (λ (x : List ℕ). text ++ x) (sym (drop-append-le n (take 64 before) (drop 64 before) inside) ∙ ap (drop n) (take-append-drop 64 before));
    }

pub made : {L : Ledger} {bytes : List ℕ} {place : ℕ} {before : List ℕ} {M : Ledger} {s : Stepped} {front : List ℕ} → length bytes ≤ 65536 → 64 ≤ length before → length front ≡ 64 →
    GoesOn L bytes place (take 64 before) M s front → MakesStep L bytes place before M s (front ++ drop 64 before)
made {L} {bytes} {place} {before} {M} {s} {front} few room size g = record {
  report = report_of place s.place g.outcome;
  steps = no _ _ _ (le-ltb 65536 (length bytes) few) (no _ _ _ (le-ltb (length before) 64 room) (s.place, g.outcome, g.advances, refl));
  place = refl;
  wrote = wrote_front room size g.wrote;
  fault = g.fault;
}
