-- A change to the sheet has one outcome, and leaves one ledger.
use Rattle.std.proofs.Common.{◌≡◌, ℕ, ◌<◌, ◌≤◌, cond, eqb, ◌⊎◌, Ok, Err, sym, refl, ap, ◌∙◌, inl, inr, arith}
use borrow.Author.Tests.{clash}
use Rattle.std.proofs.lemmas.Bool.{cases_lt}
use Rattle.faults.specs.declared.value.ValueFault.TheVariants.{OutOfRange, NotSixteenths}
use Rattle.faults.specs.declared.sheet.SheetReason.{SheetReason}
use Rattle.faults.specs.declared.sheet.SheetReason.TheVariants.{NoSlot, SlotFull, SlotEmpty, PlateLimits, RoleStands, TooStrong, Value, TooLow}
use Rattle.faults.specs.declared.sheet.SheetFault.{SheetFault}
use Rattle.faults.specs.declared.recorded.RecordFault.TheVariants.{Sheet, Part, Question, Reading}
use Rattle.faults.specs.Numbers.{reason_number, sheet_number}
use Rattle.sheet.specs.Ledger.{Ledger, Change, Refused, Answers}
use Rattle.record.specs.Runs.{Outcome, Changes}

-- no two reasons have one number
reason_of : ℕ → SheetReason
reason_of n =
    cond (eqb n 1) NoSlot
    (cond (eqb n 2) SlotFull
    (cond (eqb n 3) SlotEmpty
    (cond (eqb n 4) PlateLimits
    (cond (eqb n 5) RoleStands
    (cond (eqb n 6) TooStrong
    (cond (eqb n 7) (Value OutOfRange)
    (cond (eqb n 8) (Value NotSixteenths)
    TooLow)))))))

reason_back : (r : SheetReason) → reason_of (reason_number r) ≡ r
unfolding reason_of
reason_back NoSlot = refl
reason_back SlotFull = refl
reason_back SlotEmpty = refl
reason_back PlateLimits = refl
reason_back RoleStands = refl
reason_back TooStrong = refl
reason_back (Value OutOfRange) = refl
reason_back (Value NotSixteenths) = refl
reason_back TooLow = refl

one_reason : (r s : SheetReason) → reason_number r ≡ reason_number s → r ≡ s
one_reason r s e = sym (reason_back r) ∙ ap reason_of e ∙ reason_back s

module _ (L : Ledger) (c : Change) where
  no_smaller : (m n : ℕ) → Refused L c m → Refused L c n → m < n → ⊥
  no_smaller m n x y h = clash (sym (y.first m h) ∙ x.this)

  one_line : (m n : ℕ) → Refused L c m → Refused L c n → m ≡ n
  one_line m n x y = go (cases_lt m n) (cases_lt n m)
    where
      go : (m < n) ⊎ (n ≤ m) → (n < m) ⊎ (m ≤ n) → m ≡ n
      go (inl h) k = absurd (no_smaller m n x y h)
      go (inr h) (inl k) = absurd (no_smaller n m y x k)
      go (inr h) (inr k) = omega arith

  one_fault : (f g : SheetFault) → Answers L c (Err f) → Answers L c (Err g) → f ≡ g
  one_fault f g x y =
      let reason : f.reason ≡ g.reason = one_reason f.reason g.reason (one_line (sheet_number f) (sheet_number g) x.0 y.0) in
      let slot : f.slot ≡ g.slot = x.1 ∙ sym y.1 in
      λ i. record { reason = reason i; slot = slot i }

  pub one_change : (M N : Ledger) (o p : Outcome) → Changes L c M o → Changes L c N p → (M ≡ N) × (o ≡ p)
  one_change M N (Ok t) (Ok u) x y = (x.1 ∙ sym y.1, ap Ok (x.2 ∙ sym y.2))
  one_change M N (Ok t) (Err (Sheet f)) x y = absurd (clash (sym (x.0 (sheet_number f)) ∙ y.0.0.this))
  one_change M N (Ok t) (Err (Part f)) x y = absurd y
  one_change M N (Ok t) (Err (Question f)) x y = absurd y
  one_change M N (Ok t) (Err (Reading f)) x y = absurd y
  one_change M N (Err (Sheet f)) (Ok u) x y = absurd (clash (sym (y.0 (sheet_number f)) ∙ x.0.0.this))
  one_change M N (Err (Sheet f)) (Err (Sheet g)) x y = (x.1 ∙ sym y.1, ap (λ (h : SheetFault). Err (Sheet h)) (one_fault f g x.0 y.0))
  one_change M N (Err (Sheet f)) (Err (Part g)) x y = absurd y
  one_change M N (Err (Sheet f)) (Err (Question g)) x y = absurd y
  one_change M N (Err (Sheet f)) (Err (Reading g)) x y = absurd y
  one_change M N (Err (Part f)) p x y = absurd x
  one_change M N (Err (Question f)) p x y = absurd x
  one_change M N (Err (Reading f)) p x y = absurd x
