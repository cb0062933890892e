-- A change's reply and what it leaves.
use Rattle.std.proofs.Common.{◌≡◌, Ok, Err, Result, sym, ◌∙◌, subst}
use Rattle.faults.specs.declared.sheet.SheetFault.{SheetFault}
use Rattle.faults.specs.Numbers.{sheet_number}
use Rattle.sheet.specs.Ledger.{Ledger, Change, after, Answers}
use Rattle.sheet.proofs.FirstLine.{after_accepted, after_refused}
use Rattle.runs.specs.Requests.{Request, change}
use Rattle.runs.specs.Run.{Outcome, Changes, replied, Brings}

changes : (L : Ledger) (c : Change) (r : Result (Unit {0}) SheetFault) (M : Ledger) → Answers L c r → M ≡ after L c → Changes L c (replied r) M
changes L c (Ok u) M a e = (a, e ∙ after_accepted L c a)
changes L c (Err f) M a e = (a.0, a.1, e ∙ after_refused L c (sheet_number f) a.0)

pub brings_change : (L : Ledger) (q : Request) (c : Change) (r : Result (Unit {0}) SheetFault) (p : Outcome) (M : Ledger) → q ≡ change c → p ≡ replied r → Answers L c r → M ≡ after L c → Brings L q p M
brings_change L q c r p M is e a left = subst (λ x. Brings L x p M) (sym is) (subst (λ x. Changes L c x M) (sym e) (changes L c r M a left))
