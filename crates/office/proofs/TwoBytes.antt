-- A command has at least two bytes, so a step from inside the record goes two bytes on or to its end.
use Rattle.std.proofs.Common.{◌≡◌, ℕ, ◌+◌, ◌<◌, ◌≤◌, Bool, true, false, cond, eqb, ltb, ◌⊎◌, List, [], ◌∷◌, length, drop, Ok, Err, Result, sym, refl, subst, inl, inr, arith, length-drop, ltb-false, le-ltb, ne_eqb}
use Rattle.std.proofs.lemmas.Bool.{MatchBool-at_false}
use Rattle.faults.specs.declared.reading.ReadFault.{ReadFault}
use Rattle.faults.specs.declared.reading.ReadFault.TheVariants.{UnknownCommand, CutShort}
use Rattle.sheet.specs.Ledger.{Ledger}
use Rattle.command.specs.declared.commands.Command.{Command}
use Rattle.command.specs.Bytes.{taking, parsed, place, lift, lower, enter, strike, extremes, bending, shear}
use Rattle.record.specs.Runs.{Outcome}
use Rattle.record.specs.Steps.{Obeys, Advances}

-- what follows a command is shorter than these bytes
abbrev Leaves : List ℕ → Result (Command × List ℕ) ReadFault → Type 0
Leaves ops (Ok p) = length p.1 + 1 ≤ length ops
Leaves ops (Err f) = Unit {0}

leaves_taking : (n : ℕ) (ops : List ℕ) (c : Command) → 1 ≤ n → Leaves ops (taking n ops c)
leaves_taking n ops c h = go (ltb (length ops) n) refl
  where
    go : (b : Bool) → ltb (length ops) n ≡ b → Leaves ops (cond b (Err CutShort) (Ok (c, drop n ops)))
    go true e = tt
    go false e = let l = ltb-false (length ops) n e in omega (arith, length-drop n ops)

leaves_cond : (b : Bool) (ops : List ℕ) (x y : Result (Command × List ℕ) ReadFault) → Leaves ops x → Leaves ops y → Leaves ops (cond b x y)
leaves_cond true ops x y p q = p
leaves_cond false ops x y p q = q

leaves_parsed : (b : ℕ) (ops : List ℕ) → Leaves ops (parsed (b ∷ ops))
leaves_parsed b ops =
    leaves_cond (eqb b 1) ops _ _ (leaves_taking 12 ops (place ops) (omega arith))
    (leaves_cond (eqb b 2) ops _ _ (leaves_taking 1 ops (lift ops) (omega arith))
    (leaves_cond (eqb b 3) ops _ _ (leaves_taking 2 ops (lower ops) (omega arith))
    (leaves_cond (eqb b 4) ops _ _ (leaves_taking 7 ops (enter ops) (omega arith))
    (leaves_cond (eqb b 5) ops _ _ (leaves_taking 1 ops (strike ops) (omega arith))
    (leaves_cond (eqb b 6) ops _ _ (leaves_taking 2 ops (extremes ops) (omega arith))
    (leaves_cond (eqb b 7) ops _ _ (leaves_taking 9 ops (bending ops) (omega arith))
    (leaves_cond (eqb b 8) ops _ (Err UnknownCommand) (leaves_taking 3 ops (shear ops) (omega arith)) tt)))))))

two_shorter : (bs : List ℕ) (p : Command × List ℕ) → Ok p ≡ parsed bs → length p.1 + 2 ≤ length bs
two_shorter [] p e = let z : ◌≡◌ {A = ℕ} 0 1 = cc in absurd (omega arith)
two_shorter (b ∷ ops) p e = let l = subst (Leaves ops) (sym e) (leaves_parsed b ops) in omega arith

pub two_on : (L : Ledger) (bytes : List ℕ) (at : ℕ) (M : Ledger) (next : ℕ) (o : Outcome) → at < length bytes → Advances L bytes at M next o → (at + 2 ≤ next) ⊎ (next ≡ length bytes)
two_on L bytes at M next o h a = go (parsed (drop at bytes)) refl (MatchBool-at_false _ _ (le-ltb (length bytes) at (omega arith)) (MatchBool-at_false _ _ (ne_eqb at (length bytes) (omega arith)) a))
  where
    go : (r : Result (Command × List ℕ) ReadFault) → r ≡ parsed (drop at bytes) → Obeys L bytes r M next o → (at + 2 ≤ next) ⊎ (next ≡ length bytes)
    go (Err f) e x = inr x.1
    go (Ok p) e x =
        let n = x.1 in
        let s = two_shorter (drop at bytes) p e in
        let l = length-drop at bytes in
        inl (omega arith)
