-- The ledger: the slots as the calls alone make them, which call is refused and with which number, and what a call leaves. Refusals and changes are defined from the calls; `ledger` only reads off what stands in a sheet's slots.
use Rattle.std.specs.Prelude.{◌≡◌, ℕ, ◌+◌, ◌^◌, ◌<◌, ◌≤◌, Bool, true, false, cond, not, List, [], ◌∷◌, ℤ, Some, None, Ok, Err, Option, Result, ◌==◌, nat_le, nat_lt, slice_set}
use Rattle.faults.specs.declared.value.ValueFault.{ValueFault}
use Rattle.faults.specs.declared.value.ValueFault.TheVariants.{OutOfRange, NotSixteenths}
use Rattle.faults.specs.declared.sheet.SheetFault.{SheetFault}
use Rattle.faults.specs.Numbers.{sheet_number}
use Rattle.loads.specs.declared.load_type.LoadType.{LoadType}
use Rattle.loads.specs.declared.kind.EffectKind.{EffectKind}
use Rattle.sheet.specs.declared.row.Row.{Row}
use Rattle.sheet.specs.declared.plate.Plate.{Plate}
use Rattle.sheet.specs.declared.plate.PlateInput.{PlateInput}
use Rattle.sheet.specs.declared.held.Sheet.{Sheet}
use Rattle.sheet.specs.Slots.{empties, full, content}
use Rattle.sheet.specs.Plates.{is_lawful, role_of, plate_of, force, total_force, stands, passes, lowered}

pub record Ledger : Type 0 where
  pub plates : List (Option Plate)
  pub rows : List (Option Row)

-- a new sheet: 24 plate slots and 64 effect slots, all empty
abbrev pub blank : Ledger
blank = record { plates = empties 24; rows = empties 64 }

-- what a sheet holds, as a ledger
abbrev pub ledger : Sheet → Ledger
ledger s = record { plates = s.plates.slots.items; rows = s.rows.slots.items }

-- a call that changes a sheet, by its arguments; a value as it was judged, its sixteenths or its fault
pub data Change : Type 0 where
  place : ℕ → PlateInput → Change
  lift : ℕ → Change
  lower : ℕ → Change
  enter : ℕ → LoadType → EffectKind → Result ℤ ValueFault → Change
  strike : ℕ → Change

-- the slot that a call names
abbrev pub slot_of : Change → Option ℕ
slot_of (place s p) = Some s
slot_of (lift s) = Some s
slot_of (lower n) = None
slot_of (enter s t k v) = Some s
slot_of (strike s) = Some s

-- line 1: a plate slot past 23, or an effect slot past 63
abbrev pub no_slot : Change → Bool
no_slot (place s p) = nat_le 24 s
no_slot (lift s) = nat_le 24 s
no_slot (lower n) = false
no_slot (enter s t k v) = nat_le 64 s
no_slot (strike s) = nat_le 64 s

-- line 2: placing or entering into a full slot
abbrev pub slot_full : Ledger → Change → Bool
slot_full L (place s p) = full L.plates s
slot_full L (lift s) = false
slot_full L (lower n) = false
slot_full L (enter s t k v) = full L.rows s
slot_full L (strike s) = false

-- line 3: lifting or striking an empty slot
abbrev pub slot_empty : Ledger → Change → Bool
slot_empty L (place s p) = false
slot_empty L (lift s) = not (full L.plates s)
slot_empty L (lower n) = false
slot_empty L (enter s t k v) = false
slot_empty L (strike s) = not (full L.rows s)

-- line 4: a plate's role, measure or yield outside its limits
abbrev pub outside_limits : Change → Bool
outside_limits (place s p) = not (is_lawful p)
outside_limits (lift s) = false
outside_limits (lower n) = false
outside_limits (enter s t k v) = false
outside_limits (strike s) = false

-- line 5: role 1, 2 or 3 already stands
abbrev pub role_stands : Ledger → Change → Bool
role_stands L (place s p) = stands (role_of p.role) L.plates
role_stands L (lift s) = false
role_stands L (lower n) = false
role_stands L (enter s t k v) = false
role_stands L (strike s) = false

-- line 6: plates would pass 2 ^ 36
abbrev pub too_strong : Ledger → Change → Bool
too_strong L (place s p) = nat_lt (2 ^ 36) (total_force L.plates + force (plate_of p))
too_strong L (lift s) = false
too_strong L (lower n) = false
too_strong L (enter s t k v) = false
too_strong L (strike s) = false

abbrev out_of_range_value : Result ℤ ValueFault → Bool
out_of_range_value (Ok z) = false
out_of_range_value (Err OutOfRange) = true
out_of_range_value (Err NotSixteenths) = false

-- line 7: a value that is no number or beyond 131,072
abbrev pub out_of_range : Change → Bool
out_of_range (place s p) = false
out_of_range (lift s) = false
out_of_range (lower n) = false
out_of_range (enter s t k v) = out_of_range_value v
out_of_range (strike s) = false

abbrev not_sixteenths_value : Result ℤ ValueFault → Bool
not_sixteenths_value (Ok z) = false
not_sixteenths_value (Err OutOfRange) = false
not_sixteenths_value (Err NotSixteenths) = true

-- line 8: a value that is no multiple of 1/16
abbrev pub not_sixteenths : Change → Bool
not_sixteenths (place s p) = false
not_sixteenths (lift s) = false
not_sixteenths (lower n) = false
not_sixteenths (enter s t k v) = not_sixteenths_value v
not_sixteenths (strike s) = false

-- line 9: a lowered plate would pass 4,096
abbrev pub too_low : Ledger → Change → Bool
too_low L (place s p) = false
too_low L (lift s) = false
too_low L (lower n) = passes n L.plates
too_low L (enter s t k v) = false
too_low L (strike s) = false

-- line n applies to a call at a ledger
abbrev pub applies : Ledger → Change → ℕ → Bool
applies L c n =
    cond (n == 1) (no_slot c)
    (cond (n == 2) (slot_full L c)
    (cond (n == 3) (slot_empty L c)
    (cond (n == 4) (outside_limits c)
    (cond (n == 5) (role_stands L c)
    (cond (n == 6) (too_strong L c)
    (cond (n == 7) (out_of_range c)
    (cond (n == 8) (not_sixteenths c)
    (cond (n == 9) (too_low L c)
    false))))))))

-- a call is refused with n: line n applies and no smaller line does
pub record Refused (L : Ledger) (c : Change) (n : ℕ) : Type 0 where
  pub this : applies L c n ≡ true
  pub first : (m : ℕ) → m < n → applies L c m ≡ false

-- a call is accepted: no line applies
abbrev pub Accepted : Ledger → Change → Type 0
Accepted L c = (n : ℕ) → applies L c n ≡ false

-- the first of some numbers for which a test holds
abbrev pub first_of : (ℕ → Bool) → List ℕ → Option ℕ
first_of f [] = None
first_of f (n ∷ ns) = cond (f n) (Some n) (first_of f ns)

-- the number that a call is refused with, by trying the lines in turn
abbrev pub refusal : Ledger → Change → Option ℕ
refusal L c = first_of (applies L c) (1 ∷ 2 ∷ 3 ∷ 4 ∷ 5 ∷ 6 ∷ 7 ∷ 8 ∷ 9 ∷ [])

-- what a call that is not refused does to the slots
abbrev pub changed : Ledger → Change → Ledger
changed L (place s p) = record { plates = slice_set L.plates s (Some (plate_of p)); rows = L.rows }
changed L (lift s) = record { plates = slice_set L.plates s None; rows = L.rows }
changed L (lower n) = record { plates = lowered n L.plates; rows = L.rows }
changed L (enter s t k (Ok z)) = record { plates = L.plates; rows = slice_set L.rows s (Some (record { load = t; kind = k; sixteenths = z })) }
changed L (enter s t k (Err f)) = L
changed L (strike s) = record { plates = L.plates; rows = slice_set L.rows s None }

abbrev pub unless : Option ℕ → Ledger → Ledger → Ledger
unless (Some n) L M = L
unless None L M = M

-- the ledger after a call: a refused one changes nothing
abbrev pub after : Ledger → Change → Ledger
after L c = unless (refusal L c) L (changed L c)

-- a call's answer is the ledger's: accepted, or refused with its number by a fault that names the call's slot
abbrev pub Answers : Ledger → Change → Result (Unit {0}) SheetFault → Type 0
Answers L c (Ok u) = Accepted L c
Answers L c (Err f) = Refused L c (sheet_number f) × (f.slot ≡ slot_of c)

-- the same by the number that trying the lines gives
abbrev pub Refuses : Ledger → Change → Result (Unit {0}) SheetFault → Type 0
Refuses L c (Ok u) = refusal L c ≡ None
Refuses L c (Err f) = refusal L c ≡ Some (sheet_number f)

-- what is told of a slot among n: its content, or refused with 1 past the last
abbrev pub Shows : {X : Type 0} → ℕ → List (Option X) → ℕ → Result (Option X) SheetFault → Type 0
Shows n xs s (Ok x) = (s < n) × (x ≡ content xs s)
Shows n xs s (Err f) = (n ≤ s) × (sheet_number f ≡ 1) × (f.slot ≡ Some s)
