-- A record has one transcript.
use Rattle.std.proofs.Common.{◌≡◌, ℕ, ◌<◌, Bool, true, false, eqb, ltb, ◌⊎◌, List, [], ◌++◌, length, drop, Ok, Err, MatchBool, Result, sym, refl, ◌∙◌, subst, inl, inr, arith}
use Rattle.faults.specs.declared.reading.ReadFault.{ReadFault}
use Rattle.faults.specs.declared.reading.ReadFault.TheVariants.{CutShort, TooLong}
use Rattle.faults.specs.declared.recorded.RecordFault.TheVariants.{Reading}
use Rattle.sheet.specs.Ledger.{Ledger, blank}
use Rattle.command.specs.declared.commands.Command.{Command}
use Rattle.command.specs.Bytes.{parsed}
use Rattle.record.specs.Lines.{fault_line}
use Rattle.record.specs.Runs.{Outcome, Refused}
use Rattle.record.specs.Steps.{Obeys, Advances, step_text}
use Rattle.record.specs.Transcripts.{Reads, ended, stepped, Transcript}
use Rattle.office.proofs.OneOutcome.{one_refused, one_run}

-- a step has one outcome, next place and ledger
pub record Alike (M N : Ledger) (m n : ℕ) (o p : Outcome) : Type 0 where
  pub ledgers : M ≡ N
  pub places : m ≡ n
  pub outcomes : o ≡ p

one_obeyed : (L : Ledger) (bytes : List ℕ) (r : Result (Command × List ℕ) ReadFault) (M N : Ledger) (m n : ℕ) (o p : Outcome) → Obeys L bytes r M m o → Obeys L bytes r N n p → Alike M N m n o p
one_obeyed L bytes (Err f) M N m n o p x y = let s = one_refused L f M N o p x.0 y.0 in record { ledgers = s.0; places = x.1 ∙ sym y.1; outcomes = s.1 }
one_obeyed L bytes (Ok c) M N m n o p x y = let s = one_run L c.0 M N o p x.0 y.0 in record { ledgers = s.0; places = x.1 ∙ sym y.1; outcomes = s.1 }

one_step : (L : Ledger) (bytes : List ℕ) (place : ℕ) (M N : Ledger) (m n : ℕ) (o p : Outcome) → Advances L bytes place M m o → Advances L bytes place N n p → Alike M N m n o p
one_step L bytes place M N m n o p = go (eqb place (length bytes)) (ltb (length bytes) place)
  where
    go : (b c : Bool) →
        MatchBool b ((o ≡ Ok []) × (M ≡ L) × (m ≡ place)) (MatchBool c (Refused L CutShort M o × (m ≡ length bytes)) (Obeys L bytes (parsed (drop place bytes)) M m o)) →
        MatchBool b ((p ≡ Ok []) × (N ≡ L) × (n ≡ place)) (MatchBool c (Refused L CutShort N p × (n ≡ length bytes)) (Obeys L bytes (parsed (drop place bytes)) N n p)) →
        Alike M N m n o p
    go true c x y = record { ledgers = x.1 ∙ sym y.1; places = x.2 ∙ sym y.2; outcomes = x.0 ∙ sym y.0 }
    go false true x y = let s = one_refused L CutShort M N o p x.0 y.0 in record { ledgers = s.0; places = x.1 ∙ sym y.1; outcomes = s.1 }
    go false false x y = one_obeyed L bytes (parsed (drop place bytes)) M N m n o p x y

module _ (bytes : List ℕ) where
  record Goes (L : Ledger) (place : ℕ) (text : List ℕ) : Type 0 where
    ledger : Ledger
    next : ℕ
    outcome : Outcome
    rest : List ℕ
    within : place < length bytes
    advances : Advances L bytes place ledger next outcome
    reads : Reads bytes ledger next rest
    lines : text ≡ step_text place outcome ++ rest

  either : {L : Ledger} {place : ℕ} {text : List ℕ} → Reads bytes L place text → ((place ≡ length bytes) × (text ≡ [])) ⊎ Goes L place text
  either ended = inl (refl, refl)
  either (stepped M next o h a r) = inr (record { ledger = M; next = next; outcome = o; rest = _; within = h; advances = a; reads = r; lines = refl })

  one_reading : {L : Ledger} {place : ℕ} {text : List ℕ} → Reads bytes L place text → (N : Ledger) (at : ℕ) (other : List ℕ) → Reads bytes N at other → N ≡ L → at ≡ place → text ≡ other
  one_reading ended N at other y k e = go (either y)
    where
      go : ((at ≡ length bytes) × (other ≡ [])) ⊎ Goes N at other → [] ≡ other
      go (inl z) = sym z.1
      go (inr z) = let w = z.within in absurd (let n : ⊥ = omega arith in n)
  one_reading {L} {place} (stepped {text} M next o h a r) N at other y k e = go (one_reading r) (either y)
    where
      go : ((K : Ledger) (n : ℕ) (rest : List ℕ) → Reads bytes K n rest → K ≡ M → n ≡ next → text ≡ rest) → ((at ≡ length bytes) × (other ≡ [])) ⊎ Goes N at other → step_text place o ++ text ≡ other
      go alone (inl z) = let w = z.0 in absurd (let n : ⊥ = omega arith in n)
      go alone (inr z) =
          let b : Advances L bytes place z.ledger z.next z.outcome = subst (λ (n : ℕ). Advances L bytes n z.ledger z.next z.outcome) e (subst (λ (K : Ledger). Advances K bytes at z.ledger z.next z.outcome) k z.advances) in
          let s = one_step L bytes place M z.ledger next z.next o z.outcome a b in
          let t : text ≡ z.rest = alone z.ledger z.next z.rest z.reads (sym s.ledgers) (sym s.places) in
          (λ i. step_text (sym e i) (s.outcomes i) ++ t i) ∙ sym z.lines

pub one_transcript : (bytes s t : List ℕ) → Transcript bytes s → Transcript bytes t → s ≡ t
one_transcript bytes s t = go (ltb 65536 (length bytes))
  where
    go : (b : Bool) → MatchBool b (s ≡ fault_line 0 (Reading TooLong)) (Reads bytes blank 0 s) → MatchBool b (t ≡ fault_line 0 (Reading TooLong)) (Reads bytes blank 0 t) → s ≡ t
    go true x y = x ∙ sym y
    go false x y = one_reading bytes x blank 0 t y refl refl
