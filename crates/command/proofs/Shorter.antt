-- What follows a command is shorter than what began with it.
use Rattle.std.proofs.Common.{◌≡◌, ℕ, ◌<◌, ◌≤◌, Bool, true, false, cond, eqb, ltb, List, [], ◌∷◌, length, drop, Ok, Err, Result, ap, arith, length-drop}
use Rattle.faults.specs.declared.reading.ReadFault.{ReadFault}
use Rattle.faults.specs.declared.reading.ReadFault.TheVariants.{CutShort}
use Rattle.command.specs.declared.commands.Command.{Command}
use Rattle.command.specs.Bytes.{taking, parsed, place, lift, lower, enter, strike, extremes, bending, shear}

-- the length of what follows, where a command was read
abbrev left : Result (Command × List ℕ) ReadFault → ℕ
left (Ok p) = length p.1
left (Err f) = 0

left_taking : (n : ℕ) (ops : List ℕ) (c : Command) → left (taking n ops c) ≤ length ops
left_taking n ops c = go (ltb (length ops) n)
  where
    go : (b : Bool) → left (cond b (Err CutShort) (Ok (c, drop n ops))) ≤ length ops
    go true = omega arith
    go false = omega (arith, length-drop n ops)

left_cond : (b : Bool) (x y : Result (Command × List ℕ) ReadFault) (n : ℕ) → left x ≤ n → left y ≤ n → left (cond b x y) ≤ n
left_cond true x y n p q = p
left_cond false x y n p q = q

left_parsed : (b : ℕ) (ops : List ℕ) → left (parsed (b ∷ ops)) ≤ length ops
left_parsed b ops =
    left_cond (eqb b 1) _ _ (length ops) (left_taking 12 ops (place ops))
    (left_cond (eqb b 2) _ _ (length ops) (left_taking 1 ops (lift ops))
    (left_cond (eqb b 3) _ _ (length ops) (left_taking 2 ops (lower ops))
    (left_cond (eqb b 4) _ _ (length ops) (left_taking 7 ops (enter ops))
    (left_cond (eqb b 5) _ _ (length ops) (left_taking 1 ops (strike ops))
    (left_cond (eqb b 6) _ _ (length ops) (left_taking 2 ops (extremes ops))
    (left_cond (eqb b 7) _ _ (length ops) (left_taking 9 ops (bending ops))
    (left_cond (eqb b 8) _ _ (length ops) (left_taking 3 ops (shear ops)) (omega arith))))))))

pub shorter : (bs : List ℕ) (c : Command) (rest : List ℕ) → Ok (c, rest) ≡ parsed bs → length rest < length bs
shorter [] c rest e = let z : ◌≡◌ {A = ℕ} 0 1 = cc in absurd (omega arith)
shorter (b ∷ ops) c rest e = omega (arith, left_parsed b ops, ap left e)
