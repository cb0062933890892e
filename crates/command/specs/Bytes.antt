-- What a record's bytes say: one byte for the command, then its operands in fixed widths, big end first.
use Rattle.std.specs.Prelude.{◌≡◌, ℕ, ◌+◌, ◌*◌, ◌<◌, ◌≤◌, cond, List, [], ◌∷◌, length, take, drop, Ok, Err, Result, ◌==◌, nat_lt, slice_index}
use Rattle.std.proofs.Common.{to_z}
use Rattle.std.specs.Int.{w32}
use Rattle.std.specs.Borrow.{Bor}
use Rattle.faults.specs.declared.reading.ReadFault.{ReadFault}
use Rattle.faults.specs.declared.reading.ReadFault.TheVariants.{UnknownCommand, CutShort}
use Rattle.command.specs.declared.commands.Command.{Command}
use Rattle.command.specs.declared.commands.Command.TheVariants.{Place, Lift, Lower, Enter, Strike, Extremes, Bending, Shear}

-- the operand of one byte at place i
abbrev pub byte : List ℕ → ℕ → ℕ
byte ops i = slice_index ops i

-- the number of two bytes from place i on
abbrev pub two_bytes : List ℕ → ℕ → ℕ
two_bytes ops i = byte ops i * 256 + byte ops (i + 1)

-- the number of four bytes from place i on
abbrev pub four_bytes : List ℕ → ℕ → ℕ
four_bytes ops i = byte ops i * 16777216 + byte ops (i + 1) * 65536 + byte ops (i + 2) * 256 + byte ops (i + 3)

-- a command with n operand bytes, and the bytes after it; cut short where there are fewer
abbrev pub taking : ℕ → List ℕ → Command → Result (Command × List ℕ) ReadFault
taking n ops c = cond (nat_lt (length ops) n) (Err CutShort) (Ok (c, drop n ops))

-- the first n bytes and the bytes after them; cut short where there are fewer
abbrev pub Splits : ℕ → List ℕ → Result (Bor (List ℕ) × Bor (List ℕ)) ReadFault → Type 0
Splits n ops (Ok p) = (n ≤ length ops) × (p.0.now ≡ take n ops) × (p.1.now ≡ drop n ops)
Splits n ops (Err f) = (length ops < n) × (f ≡ CutShort)

abbrev pub place : List ℕ → Command
place ops = Place (byte ops 0) (byte ops 1) (two_bytes ops 2) (two_bytes ops 4) (two_bytes ops 6) (four_bytes ops 8)

abbrev pub lift : List ℕ → Command
lift ops = Lift (byte ops 0)

abbrev pub lower : List ℕ → Command
lower ops = Lower (two_bytes ops 0)

abbrev pub enter : List ℕ → Command
enter ops = Enter (byte ops 0) (byte ops 1) (byte ops 2) (to_z w32 (four_bytes ops 3))

abbrev pub strike : List ℕ → Command
strike ops = Strike (byte ops 0)

abbrev pub extremes : List ℕ → Command
extremes ops = Extremes (byte ops 0) (byte ops 1)

abbrev pub bending : List ℕ → Command
bending ops = Bending (byte ops 0) (two_bytes ops 1) (two_bytes ops 3) (two_bytes ops 5) (two_bytes ops 7)

abbrev pub shear : List ℕ → Command
shear ops = Shear (byte ops 0) (two_bytes ops 1)

-- the first command of the bytes and the bytes after it
abbrev pub parsed : List ℕ → Result (Command × List ℕ) ReadFault
parsed [] = Err CutShort
parsed (b ∷ ops) =
    cond (b == 1) (taking 12 ops (place ops))
    (cond (b == 2) (taking 1 ops (lift ops))
    (cond (b == 3) (taking 2 ops (lower ops))
    (cond (b == 4) (taking 7 ops (enter ops))
    (cond (b == 5) (taking 1 ops (strike ops))
    (cond (b == 6) (taking 2 ops (extremes ops))
    (cond (b == 7) (taking 9 ops (bending ops))
    (cond (b == 8) (taking 3 ops (shear ops))
    (Err UnknownCommand))))))))

-- a reading's result, with the bytes that it refers to
abbrev pub shown : Result (Command × Bor (List ℕ)) ReadFault → Result (Command × List ℕ) ReadFault
shown (Ok p) = Ok (p.0, p.1.now)
shown (Err f) = Err f
