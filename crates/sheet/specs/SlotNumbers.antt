-- Slots by their numbers.
use Rattle.std.specs.Prelude.{◌≡◌, ℕ, ◌≤◌, true, false, cond, not, ◌||◌, List, Some, Ok, Err, Option, Result, nat_le}
use Rattle.faults.specs.declared.sheet.SheetFault.{SheetFault}
use Rattle.faults.specs.Numbers.{sheet_number}
use Rattle.sheet.specs.declared.slot.Slot.{Slot}
use Rattle.sheet.specs.Slots.{full}

-- the slot of a number, among n; refused with 1 past the last one, by a fault that names the number
abbrev pub Numbers : (n : ℕ) → ℕ → Result (Slot n) SheetFault → Type 0
Numbers n s (Ok slot) = slot.index ≡ s
Numbers n s (Err f) = (n ≤ s) × (sheet_number f ≡ 1) × (f.slot ≡ Some s)

-- the same of a free slot: refused with 1 past the last one, and with 2 where it is full
abbrev pub FindsFree : {X : Type 0} (n : ℕ) → List (Option X) → ℕ → Result (Slot n) SheetFault → Type 0
FindsFree n xs s (Ok slot) = (slot.index ≡ s) × (full xs s ≡ false)
FindsFree n xs s (Err f) = (nat_le n s || full xs s ≡ true) × (sheet_number f ≡ cond (nat_le n s) 1 2) × (f.slot ≡ Some s)

-- the same of a full slot: refused with 1 past the last one, and with 3 where it is empty
abbrev pub FindsFull : {X : Type 0} (n : ℕ) → List (Option X) → ℕ → Result (Slot n) SheetFault → Type 0
FindsFull n xs s (Ok slot) = (slot.index ≡ s) × (full xs s ≡ true)
FindsFull n xs s (Err f) = (nat_le n s || not (full xs s) ≡ true) × (sheet_number f ≡ cond (nat_le n s) 1 3) × (f.slot ≡ Some s)
