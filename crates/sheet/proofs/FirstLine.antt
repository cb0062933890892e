-- The number found by trying the lines in turn is that of the first line that applies.
use Rattle.std.proofs.Common.{◌≡◌, ℕ, zero, suc, ◌+◌, ◌<◌, ◌≤◌, Bool, true, false, cond, ◌⊎◌, List, [], ◌∷◌, Some, None, Ok, Err, Option, Result, sym, refl, ap, ◌∙◌, subst, inl, inr, arith, ne_eqb}
use borrow.Author.Tests.{clash}
use Rattle.std.proofs.lemmas.Bool.{cases_lt}
use Rattle.faults.specs.declared.sheet.SheetFault.{SheetFault}
use Rattle.faults.specs.Numbers.{sheet_number}
use Rattle.sheet.specs.Ledger.{Ledger, Change, slot_of, applies, Refused, Accepted, first_of, refusal, changed, unless, after, Answers, Refuses}

-- k numbers from a on
up_from : ℕ → ℕ → List ℕ
up_from a zero = []
up_from a (suc k) = a ∷ up_from (suc a) k

module _ (f : ℕ → Bool) where
  Tried : ℕ → ℕ → Option ℕ → Type 0
  Tried a k (Some n) = (f n ≡ true) × ((m : ℕ) → m < n → f m ≡ false)
  Tried a k None = (m : ℕ) → m < a + k → f m ≡ false

  more : (a : ℕ) → ((m : ℕ) → m < a → f m ≡ false) → f a ≡ false → (m : ℕ) → m < suc a → f m ≡ false
  more a below e m h = go (cases_lt m a)
    where
      go : (m < a) ⊎ (a ≤ m) → f m ≡ false
      go (inl l) = below m l
      go (inr l) = ap f (let q : m ≡ a = omega arith in q) ∙ e

  tried : (a k : ℕ) → ((m : ℕ) → m < a → f m ≡ false) → Tried a k (first_of f (up_from a k))
  unfolding Tried up_from
  tried a zero below = λ m h. below m (omega arith)
  tried a (suc k) below = go (f a) refl (λ e. tried (suc a) k (more a below e))
    where
      shift : (o : Option ℕ) → Tried (suc a) k o → Tried a (suc k) o
      shift (Some n) t = t
      shift None t = λ m h. t m (omega arith)

      go : (b : Bool) → f a ≡ b → (f a ≡ false → Tried (suc a) k (first_of f (up_from (suc a) k))) → Tried a (suc k) (cond b (Some a) (first_of f (up_from (suc a) k)))
      go true e rest = (e, below)
      go false e rest = shift (first_of f (up_from (suc a) k)) (rest e)

module _ (L : Ledger) (c : Change) where
  none_past : (n : ℕ) → 10 ≤ n → applies L c n ≡ false
  none_past n h =
      rw (ne_eqb n 1 (omega arith), ne_eqb n 2 (omega arith), ne_eqb n 3 (omega arith), ne_eqb n 4 (omega arith), ne_eqb n 5 (omega arith), ne_eqb n 6 (omega arith), ne_eqb n 7 (omega arith), ne_eqb n 8 (omega arith), ne_eqb n 9 (omega arith)) refl

  none_below : (m : ℕ) → m < 1 → applies L c m ≡ false
  none_below m h = ap (applies L c) (let q : m ≡ 0 = omega arith in q)

  tried_lines : Tried (applies L c) 1 9 (refusal L c)
  unfolding up_from
  tried_lines = tried (applies L c) 1 9 none_below

  pub refused : (n : ℕ) → refusal L c ≡ Some n → Refused L c n
  unfolding Tried
  refused n e = let t = subst (Tried (applies L c) 1 9) e tried_lines in record { this = t.0; first = t.1 }

  pub accepted : refusal L c ≡ None → Accepted L c
  unfolding Tried
  accepted e n = go (cases_lt n 10)
    where
      go : (n < 10) ⊎ (10 ≤ n) → applies L c n ≡ false
      go (inl h) = subst (Tried (applies L c) 1 9) e tried_lines n h
      go (inr h) = none_past n h

  -- and back: the line is settled, and with it the answer
  pub accepted_back : Accepted L c → refusal L c ≡ None
  accepted_back a = rw (a 1, a 2, a 3, a 4, a 5, a 6, a 7, a 8, a 9) refl

  -- an answer whose fault has been given the call's slot
  abbrev pub Named : ℕ → Result (Unit {0}) SheetFault → Result (Unit {0}) SheetFault → Type 0
  Named s (Ok u) r = r ≡ Ok u
  Named s (Err f) r = r ≡ Err (record { reason = f.reason; slot = Some s })

  pub answers : (s : ℕ) → Some s ≡ slot_of c → (res r : Result (Unit {0}) SheetFault) → Refuses L c res → Named s res r → Answers L c r
  answers s named (Ok u) r e is = subst (Answers L c) (sym is) (accepted e)
  answers s named (Err f) r e is = subst (Answers L c) (sym is) (refused (sheet_number f) e, named)

  -- what a call leaves, by its answer
  pub after_accepted : Accepted L c → after L c ≡ changed L c
  after_accepted a = ap (λ (o : Option ℕ). unless o L (changed L c)) (accepted_back a)

  pub after_refused : (n : ℕ) → Refused L c n → after L c ≡ L
  after_refused n r = go (refusal L c) refl
    where
      go : (o : Option ℕ) → refusal L c ≡ o → unless o L (changed L c) ≡ L
      go (Some m) e = refl
      go None e = absurd (clash (sym (accepted e n) ∙ r.this))
