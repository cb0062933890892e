-- The plates' measures after each change.
use Rattle.std.proofs.Common.{◌≡◌, ℕ, zero, suc, ◌+◌, ◌-◌, ◌*◌, ◌%◌, ◌^◌, ◌<◌, ◌≤◌, min, true, false, ◌&&◌, eqb, ◌⊎◌, List, [], ◌∷◌, map, length, get_or, set, replicate, Some, None, Option, sym, refl, ap, ◌∙◌, inl, inr, mul-le-mul, arith, ltb-false, eq-eqb, eqb-true}
use Rattle.std.proofs.lemmas.List.{get_or-set_same, get_or-set_other, get_or_past}
use Rattle.std.proofs.lemmas.Bool.{cases_eq, cases_lt, and_parts}
use Rattle.std.proofs.lemmas.Bool.Decides.{nat_tests}
use Rattle.sheet.specs.declared.plate.Plate.{Plate}
use Rattle.sheet.specs.Slots.{empties, content}
use Rattle.sheet.specs.Plates.{passes_in, passes, lowered_in, lowered}
use Rattle.sheet.specs.Invariants.{within}
use Rattle.sheet.specs.Measures.{fits_slot}
use Rattle.sheet.proofs.Lowering.{some_none}
use Rattle.sheet.proofs.Roles.{get_or-lowered, get_or-empties}

-- a standing plate's breadth and yield
sizes : (p : Plate) → within p ≡ true → (p.breadth ≤ 4096) × (p.fy ≤ 100000)
sizes p e = (grind (arith, nat_tests), grind (arith, nat_tests))

-- which its measures hold whole
pub whole : (p : Plate) → within p ≡ true → p.breadth * p.fy % 2 ^ 32 ≡ p.breadth * p.fy
whole p e = let z = sizes p e in let m = mul-le-mul z.0 z.1 in omega arith

pub record Fits (p : Plate) (top height strength : ℕ) : Type 0 where
  pub top_is : top ≡ p.top
  pub height_is : height ≡ p.height
  pub strength_is : strength ≡ p.breadth * p.fy % 2 ^ 32

pub read : (p : Plate) (t h s : ℕ) → fits_slot (Some p) t h s ≡ true → Fits p t h s
read p t h s e =
    let a = and_parts (eqb t p.top) (eqb h p.height && eqb s (p.breadth * p.fy % 2 ^ 32)) e in
    let b = and_parts (eqb h p.height) (eqb s (p.breadth * p.fy % 2 ^ 32)) a.1 in
    record { top_is = eqb-true t p.top a.0; height_is = eqb-true h p.height b.0; strength_is = eqb-true s (p.breadth * p.fy % 2 ^ 32) b.1 }

make : (p : Plate) (t h s : ℕ) → t ≡ p.top → h ≡ p.height → s ≡ p.breadth * p.fy % 2 ^ 32 → fits_slot (Some p) t h s ≡ true
make p t h s a b d = rw (eq-eqb t p.top a, eq-eqb h p.height b, eq-eqb s (p.breadth * p.fy % 2 ^ 32) d) refl

-- the same lists by other names
pub fits_same : (xs ys : List (Option Plate)) (ts hs ss us vs ws : List ℕ) → ys ≡ xs → us ≡ ts → vs ≡ hs → ws ≡ ss → ((i : ℕ) → fits_slot (content xs i) (get_or ts i 0) (get_or hs i 0) (get_or ss i 0) ≡ true) →
    (i : ℕ) → fits_slot (content ys i) (get_or us i 0) (get_or vs i 0) (get_or ws i 0) ≡ true
fits_same xs ys ts hs ss us vs ws a b d e all i = rw (a, b, d, e) (all i)

pub fits_put : (xs : List (Option Plate)) (ts hs ss : List ℕ) (s : ℕ) (p : Plate) → s < length xs → s < length ts → s < length hs → s < length ss → ((i : ℕ) → fits_slot (content xs i) (get_or ts i 0) (get_or hs i 0) (get_or ss i 0) ≡ true) →
    (i : ℕ) → fits_slot (content (set xs s (Some p)) i) (get_or (set ts s p.top) i 0) (get_or (set hs s p.height) i 0) (get_or (set ss s (p.breadth * p.fy % 2 ^ 32)) i 0) ≡ true
fits_put xs ts hs ss s p a b d e all i = go (cases_eq i s)
  where
    go : (i ≡ s) ⊎ (i ≡ s → ⊥) → fits_slot (content (set xs s (Some p)) i) (get_or (set ts s p.top) i 0) (get_or (set hs s p.height) i 0) (get_or (set ss s (p.breadth * p.fy % 2 ^ 32)) i 0) ≡ true
    go (inl q) = rw (q, get_or-set_same xs s (Some p) None a) (make p _ _ _ (get_or-set_same ts s p.top 0 b) (get_or-set_same hs s p.height 0 d) (get_or-set_same ss s (p.breadth * p.fy % 2 ^ 32) 0 e))
    go (inr q) = rw (get_or-set_other xs s i (Some p) None q, get_or-set_other ts s i p.top 0 q, get_or-set_other hs s i p.height 0 q, get_or-set_other ss s i (p.breadth * p.fy % 2 ^ 32) 0 q) (all i)

pub fits_out : (xs : List (Option Plate)) (ts hs ss : List ℕ) (s : ℕ) → s < length xs → s < length hs → ((i : ℕ) → fits_slot (content xs i) (get_or ts i 0) (get_or hs i 0) (get_or ss i 0) ≡ true) →
    (i : ℕ) → fits_slot (content (set xs s None) i) (get_or ts i 0) (get_or (set hs s 0) i 0) (get_or ss i 0) ≡ true
fits_out xs ts hs ss s a d all i = go (cases_eq i s)
  where
    go : (i ≡ s) ⊎ (i ≡ s → ⊥) → fits_slot (content (set xs s None) i) (get_or ts i 0) (get_or (set hs s 0) i 0) (get_or ss i 0) ≡ true
    go (inl q) = rw (q, get_or-set_same xs s None None a, get_or-set_same hs s 0 0 d) refl
    go (inr q) = rw (get_or-set_other xs s i None None q, get_or-set_other hs s i 0 0 q) (all i)

get_d_over : (f : ℕ → ℕ) (ts : List ℕ) (i : ℕ) → i < length ts → get_or (map f ts) i 0 ≡ f (get_or ts i 0)
get_d_over f [] i h = absurd (omega arith)
get_d_over f (t ∷ ts) zero h = refl
get_d_over f (t ∷ ts) (suc i) h = get_d_over f ts i (omega arith)

pub fits_lower : (n : ℕ) (xs : List (Option Plate)) (ts hs ss : List ℕ) → length xs ≡ length ts → passes n xs ≡ false → ((i : ℕ) → fits_slot (content xs i) (get_or ts i 0) (get_or hs i 0) (get_or ss i 0) ≡ true) →
    (i : ℕ) → fits_slot (content (lowered n xs) i) (get_or (map (λ t. min (t + n) (2 ^ 16 - 1)) ts) i 0) (get_or hs i 0) (get_or ss i 0) ≡ true
fits_lower n xs ts hs ss long low all i = rw (get_or-lowered n xs i) (go (content xs i) refl (cases_lt i (length xs)))
  where
    go : (x : Option Plate) → content xs i ≡ x → (i < length xs) ⊎ (length xs ≤ i) → fits_slot (lowered_in n x) (get_or (map (λ t. min (t + n) (2 ^ 16 - 1)) ts) i 0) (get_or hs i 0) (get_or ss i 0) ≡ true
    go None e w = rw e at (all i)
    go (Some p) e (inr h) = let z : ◌≡◌ {A = ℕ} 0 1 = cc (get_or_past xs i None h) in absurd (omega arith)
    go (Some p) e (inl h) =
        let r = read p (get_or ts i 0) (get_or hs i 0) (get_or ss i 0) (rw e at (all i)) in
        let l = ltb-false 4096 (p.top + n + p.height) (sym (ap (passes_in n) e) ∙ some_none (passes_in n) xs i None h low) in
        let o = get_d_over (λ t. min (t + n) (2 ^ 16 - 1)) ts i (omega arith) in
        make (record { role = p.role; top = p.top + n; breadth = p.breadth; height = p.height; fy = p.fy }) _ _ _ (o ∙ (let q : min (get_or ts i 0 + n) (2 ^ 16 - 1) ≡ p.top + n = omega (arith, r.top_is) in q)) r.height_is r.strength_is

get_or_zeros : (n i : ℕ) → ◌≡◌ {A = ℕ} (get_or (replicate n 0) i 0) 0
get_or_zeros zero i = refl
get_or_zeros (suc n) zero = refl
get_or_zeros (suc n) (suc i) = get_or_zeros n i

pub fits_empties : (n : ℕ) (ts hs ss : List ℕ) → hs ≡ replicate n 0 → (i : ℕ) → fits_slot (content (empties n) i) (get_or ts i 0) (get_or hs i 0) (get_or ss i 0) ≡ true
fits_empties n ts hs ss e i = rw (get_or-empties n i) (eq-eqb (get_or hs i 0) 0 (ap (λ l. get_or l i 0) e ∙ get_or_zeros n i))
