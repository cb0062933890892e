-- Where the plates of roles 1, 2 and 3 stand, after each change.
use Rattle.std.proofs.Common.{◌≡◌, ℕ, zero, suc, ◌+◌, ◌<◌, min, Bool, true, false, cond, ◌||◌, List, [], ◌∷◌, length, set, is_some, Some, None, Option, sym, refl, ap, ◌∙◌, subst, arith}
use Rattle.std.specs.List.{position, position_from}
use Rattle.std.specs.Option.{option_map}
use Rattle.std.proofs.lemmas.Iterator.Adapters.{position_from-zero}
use denote.Enum.Bare.{sameb}
use Rattle.sheet.specs.contracts.plate.Role.{the_type}
use Rattle.sheet.specs.declared.plate.Role.{Role}
use Rattle.sheet.specs.declared.plate.Role.TheVariants.{TopFlange, Web, BottomFlange, Other}
use Rattle.sheet.specs.declared.plate.Plate.{Plate}
use Rattle.sheet.specs.Slots.{empties, content}
use Rattle.sheet.specs.Plates.{clash, clash_in, stands, same_role, standing, lowered_in, lowered}
use Rattle.sheet.specs.declared.role_slots.RoleSlots.{RoleSlots}
use Rattle.sheet.specs.RoleSlots.{noted, earlier, slot_with, same_slot, Noted}
use Rattle.sheet.proofs.Roles.{clash_sym, none_of}
use borrow.Author.Tests as tests

same_is : (a b : Option ℕ) → same_slot a b ≡ true → a ≡ b
same_is None None e = refl
same_is None (Some j) e = absurd (tests.clash e)
same_is (Some i) None e = absurd (tests.clash e)
same_is (Some i) (Some j) e = ap Some (tests.eqb-true i j e)

same_self : (a : Option ℕ) → same_slot a a ≡ true
same_self None = refl
same_self (Some i) = tests.eq-eqb i i refl

-- what is noted, as equations
pub read_note : (s : RoleSlots) (xs : List (Option Plate)) → Noted s xs → (r : Role) → noted r s ≡ slot_with r xs
read_note s xs all r = same_is (noted r s) (slot_with r xs) (all r)

pub make_note : (s : RoleSlots) (xs : List (Option Plate)) → ((r : Role) → noted r s ≡ slot_with r xs) → Noted s xs
make_note s xs all r = subst (λ (o : Option ℕ). same_slot (noted r s) o ≡ true) (all r) (same_self (noted r s))

-- nothing noted
pub unnoted : (s : RoleSlots) → (s.top_flange ≡ None) × ((s.web ≡ None) × (s.bottom_flange ≡ None)) → (r : Role) → noted r s ≡ None
unnoted s e TopFlange = e.0
unnoted s e Web = e.1.0
unnoted s e BottomFlange = e.1.1
unnoted s e Other = refl

pub slot-empties : (r : Role) (n : ℕ) → slot_with r (empties n) ≡ None
slot-empties r zero = refl
slot-empties r (suc n) = ap (option_map suc) (slot-empties r n)

clash-lowered : (n : ℕ) (r : Role) (x : Option Plate) → clash_in r (lowered_in n x) ≡ clash_in r x
clash-lowered n r None = refl
clash-lowered n r (Some p) = refl

pub slot-lowered : (n : ℕ) (r : Role) (xs : List (Option Plate)) → slot_with r (lowered n xs) ≡ slot_with r xs
slot-lowered n r [] = refl
slot-lowered n r (x ∷ xs) = λ i. cond (clash-lowered n r x i) (Some 0) (option_map suc (slot-lowered n r xs i))

test_some : (b t : Bool) (o : Option ℕ) → t ≡ is_some o → (b || t) ≡ is_some (cond b (Some 0) (option_map suc o))
test_some true t o e = refl
test_some false t None e = e
test_some false t (Some i) e = e

-- whether a role stands is whether it has a slot
pub stands-slot : (r : Role) (xs : List (Option Plate)) → stands r xs ≡ is_some (slot_with r xs)
stands-slot r [] = refl
stands-slot r (x ∷ xs) = test_some (clash_in r x) (stands r xs) (slot_with r xs) (stands-slot r xs)

no_slot : (r : Role) (xs : List (Option Plate)) → stands r xs ≡ false → slot_with r xs ≡ None
no_slot r xs e = none_of (slot_with r xs) (sym (stands-slot r xs) ∙ e)

-- what stands in a slot that may be none
abbrev pub at_slot : List (Option Plate) → Option ℕ → Option Plate
at_slot xs None = None
at_slot xs (Some i) = content xs i

at_next : (x : Option Plate) (xs : List (Option Plate)) (o : Option ℕ) → at_slot (x ∷ xs) (option_map suc o) ≡ at_slot xs o
at_next x xs None = refl
at_next x xs (Some i) = refl

same_clash : (r q : Role) → clash r r ≡ true → same_role q r ≡ clash r q
same_clash TopFlange TopFlange e = refl
same_clash TopFlange Web e = refl
same_clash TopFlange BottomFlange e = refl
same_clash TopFlange Other e = refl
same_clash Web TopFlange e = refl
same_clash Web Web e = refl
same_clash Web BottomFlange e = refl
same_clash Web Other e = refl
same_clash BottomFlange TopFlange e = refl
same_clash BottomFlange Web e = refl
same_clash BottomFlange BottomFlange e = refl
same_clash BottomFlange Other e = refl
same_clash Other q e = absurd (tests.clash e)

here_or_later : (b : Bool) (p : Plate) (xs : List (Option Plate)) (o : Option ℕ) (y : Option Plate) → y ≡ at_slot xs o → cond b (Some p) y ≡ at_slot (Some p ∷ xs) (cond b (Some 0) (option_map suc o))
here_or_later true p xs o y e = refl
here_or_later false p xs o y e = e ∙ sym (at_next (Some p) xs o)

pub single : (r : Role) → sameb the_type r Other ≡ false → clash r r ≡ true
single TopFlange e = refl
single Web e = refl
single BottomFlange e = refl
single Other e = absurd (tests.clash (sym e))

-- the plate of role 1, 2 or 3 is the one in the role's slot
pub standing-slot : (r : Role) → clash r r ≡ true → (xs : List (Option Plate)) → standing r xs ≡ at_slot xs (slot_with r xs)
standing-slot r e [] = refl
standing-slot r e (None ∷ xs) = standing-slot r e xs ∙ sym (at_next None xs (slot_with r xs))
standing-slot r e (Some p ∷ xs) =
    ap (λ (b : Bool). cond b (Some p) (standing r xs)) (same_clash r p.role e) ∙ here_or_later (clash r p.role) p xs (slot_with r xs) (standing r xs) (standing-slot r e xs)

abbrev Below : Option ℕ → ℕ → Type 0
Below None n = Unit {0}
Below (Some i) n = i < n

below_next : (b : Bool) (o : Option ℕ) (n : ℕ) → Below o n → Below (cond b (Some 0) (option_map suc o)) (suc n)
below_next true o n h = omega arith
below_next false None n h = tt
below_next false (Some i) n h = omega arith

slot_inside : (r : Role) (xs : List (Option Plate)) → Below (slot_with r xs) (length xs)
slot_inside r [] = tt
slot_inside r (x ∷ xs) = below_next (clash_in r x) (slot_with r xs) (length xs) (slot_inside r xs)

pub slot_below : (r : Role) (xs : List (Option Plate)) (i : ℕ) → Some i ≡ slot_with r xs → i < length xs
slot_below r xs i e = subst (λ (o : Option ℕ). Below o (length xs)) (sym e) (slot_inside r xs)

-- a slot counted from i on
counted : ℕ → Option ℕ → Option ℕ
counted i None = None
counted i (Some j) = Some (i + j)

-- the first one that a test passes, at an element and behind it
counted_more : (b : Bool) (i : ℕ) (o q : Option ℕ) → q ≡ counted (i + 1) o → cond b (Some i) q ≡ counted i (cond b (Some 0) (option_map suc o))
unfolding counted
counted_more true i o q e = ap Some (let z : i ≡ i + 0 = omega arith in z)
counted_more false i None q e = e
counted_more false i (Some j) q e = e ∙ ap Some (let z : i + 1 + j ≡ i + suc j = omega arith in z)

counted_from : (r : Role) (i : ℕ) (xs : List (Option Plate)) → position_from (clash_in r) i xs ≡ counted i (slot_with r xs)
unfolding counted
counted_from r i [] = refl
counted_from r i (x ∷ xs) = counted_more (clash_in r x) i (slot_with r xs) (position_from (clash_in r) (i + 1) xs) (counted_from r (i + 1) xs)

counted_zero : (o : Option ℕ) → counted 0 o ≡ o
unfolding counted
counted_zero None = refl
counted_zero (Some j) = ap Some (let z : 0 + j ≡ j = omega arith in z)

-- the first slot that the search finds
pub position-slot : (r : Role) (xs : List (Option Plate)) → position (clash_in r) xs ≡ slot_with r xs
position-slot r xs = position_from-zero (clash_in r) xs ∙ counted_from r 0 xs ∙ counted_zero (slot_with r xs)

unclashed : (r : Role) (xs : List (Option Plate)) (s : ℕ) (v : Option Plate) → clash_in r v ≡ false → clash_in r (content xs s) ≡ false → slot_with r (set xs s v) ≡ slot_with r xs
unclashed r [] s v e f = refl
unclashed r (x ∷ xs) zero v e f = ap (λ (b : Bool). cond b (Some 0) (option_map suc (slot_with r xs))) (e ∙ sym f)
unclashed r (x ∷ xs) (suc s) v e f = ap (λ (o : Option ℕ). cond (clash_in r x) (Some 0) (option_map suc o)) (unclashed r xs s v e f)

-- the slot behind a first one that clashes or does not
later : (b : Bool) (s : ℕ) (o q : Option ℕ) → q ≡ Some (earlier s o) → cond b (Some 0) (option_map suc q) ≡ Some (earlier (suc s) (cond b (Some 0) (option_map suc o)))
later true s o q e = ap Some (let z : 0 ≡ min 0 (suc s) = omega arith in z)
later false s None q e = ap (option_map suc) e
later false s (Some i) q e = ap (option_map suc) e ∙ ap Some (let z : suc (min i s) ≡ min (suc i) (suc s) = omega arith in z)

at_front : (o : Option ℕ) → ◌≡◌ {A = Option ℕ} (Some 0) (Some (earlier 0 (option_map suc o)))
at_front None = refl
at_front (Some i) = ap Some (let z : 0 ≡ min (suc i) 0 = omega arith in z)

clashed : (r : Role) (xs : List (Option Plate)) (s : ℕ) (v : Option Plate) → s < length xs → clash_in r v ≡ true → clash_in r (content xs s) ≡ false → slot_with r (set xs s v) ≡ Some (earlier s (slot_with r xs))
clashed r [] s v h e f = absurd (omega arith)
clashed r (x ∷ xs) zero v h e f =
    ap (λ (b : Bool). cond b (Some 0) (option_map suc (slot_with r xs))) e ∙ at_front (slot_with r xs)
    ∙ ap (λ (b : Bool). Some (earlier 0 (cond b (Some 0) (option_map suc (slot_with r xs))))) (sym f)
clashed r (x ∷ xs) (suc s) v h e f = later (clash_in r x) s (slot_with r xs) (slot_with r (set xs s v)) (clashed r xs s v (omega arith) e f)

clash_same : (a b : Role) → clash a b ≡ true → a ≡ b
clash_same TopFlange TopFlange e = refl
clash_same TopFlange Web e = absurd (tests.clash e)
clash_same TopFlange BottomFlange e = absurd (tests.clash e)
clash_same TopFlange Other e = absurd (tests.clash e)
clash_same Web TopFlange e = absurd (tests.clash e)
clash_same Web Web e = refl
clash_same Web BottomFlange e = absurd (tests.clash e)
clash_same Web Other e = absurd (tests.clash e)
clash_same BottomFlange TopFlange e = absurd (tests.clash e)
clash_same BottomFlange Web e = absurd (tests.clash e)
clash_same BottomFlange BottomFlange e = refl
clash_same BottomFlange Other e = absurd (tests.clash e)
clash_same Other b e = absurd (tests.clash e)

-- a plate of a role is put into an empty slot
pub slot_put : (xs : List (Option Plate)) (s : ℕ) (p : Plate) → s < length xs → content xs s ≡ None →
    (r : Role) → cond (clash p.role r) (Some (earlier s (slot_with p.role xs))) (slot_with r xs) ≡ slot_with r (set xs s (Some p))
slot_put xs s p h empty r = go (clash p.role r) refl
  where
    go : (b : Bool) → clash p.role r ≡ b → cond b (Some (earlier s (slot_with p.role xs))) (slot_with r xs) ≡ slot_with r (set xs s (Some p))
    go true e =
        ap (λ (a : Role). Some (earlier s (slot_with a xs))) (clash_same p.role r e)
        ∙ sym (clashed r xs s (Some p) h (clash_sym r p.role ∙ e) (ap (clash_in r) empty))
    go false e = sym (unclashed r xs s (Some p) (clash_sym r p.role ∙ e) (ap (clash_in r) empty))

-- a plate is taken out, and its role looked for anew
pub slot_out : (xs : List (Option Plate)) (s : ℕ) (p : Plate) → content xs s ≡ Some p →
    (r : Role) → cond (clash p.role r) (slot_with p.role (set xs s None)) (slot_with r xs) ≡ slot_with r (set xs s None)
slot_out xs s p is r = go (clash p.role r) refl
  where
    go : (b : Bool) → clash p.role r ≡ b → cond b (slot_with p.role (set xs s None)) (slot_with r xs) ≡ slot_with r (set xs s None)
    go true e = ap (λ (a : Role). slot_with a (set xs s None)) (clash_same p.role r e)
    go false e = sym (unclashed r xs s None refl (ap (clash_in r) is ∙ clash_sym r p.role ∙ e))
