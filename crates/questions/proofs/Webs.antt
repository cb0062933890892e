-- The bounds of a standing web, and of its buckling coefficient.
use Rattle.std.proofs.Common.{◌≡◌, ℕ, suc, ◌+◌, ◌*◌, ◌/◌, ◌≤◌, Bool, true, false, cond, ◌&&◌, eqb, leb, List, [], ◌∷◌, Some, None, Option, sym, refl, ap, ◌∙◌, subst, mul-le-mul, arith, le-leb, leb-true}
use native.Mathlib.Nat.{div-le_of_le-mul}
use borrow.Author.Tests.{clash}
use Rattle.sheet.specs.declared.plate.Role.{Role}
use Rattle.sheet.specs.declared.plate.Role.TheVariants.{Web}
use Rattle.sheet.specs.declared.plate.Plate.{Plate}
use Rattle.sheet.specs.Plates.{role_number, is_sized, same_role, standing}
use Rattle.sheet.specs.Invariants.{Within, within}
use Rattle.questions.specs.Shear.{WebFits, spacing_fits, Buckles}

-- a standing plate of a role is within its limits and has that role
standing_kept : (r : Role) (xs : List (Option Plate)) → Within xs → (p : Plate) → standing r xs ≡ Some p → (within p ≡ true) × (same_role p.role r ≡ true)
standing_kept r [] w p e = let z : ◌≡◌ {A = ℕ} 0 1 = cc in absurd (omega arith)
standing_kept r (None ∷ xs) w p e = standing_kept r xs (λ i. w (suc i)) p e
standing_kept r (Some q ∷ xs) w p e = go (same_role q.role r) refl e (standing_kept r xs (λ i. w (suc i)) p)
  where
    go : (b : Bool) → same_role q.role r ≡ b → cond b (Some q) (standing r xs) ≡ Some p → (standing r xs ≡ Some p → (within p ≡ true) × (same_role p.role r ≡ true)) → (within p ≡ true) × (same_role p.role r ≡ true)
    go true t f rest = let s : q ≡ p = cc in (subst (λ (x : Plate). within x ≡ true) s (w 0), subst (λ (x : Plate). same_role x.role r ≡ true) s t)
    go false t f rest = rest f

and_parts : (a b : Bool) → (a && b) ≡ true → (a ≡ true) × (b ≡ true)
and_parts true b e = (refl, e)
and_parts false b e = absurd (clash e)

sized_web : (b h f : ℕ) → is_sized true b h f ≡ true → (1 ≤ h) × (h ≤ 4096) × (b ≤ 64) × (f ≤ 100000)
sized_web b h f e =
    let g = and_parts (leb 1 b && leb b 4096 && leb 1 h && leb h 4096 && leb 30000 f && leb f 100000) (leb b 64) e in
    let k = and_parts (leb 1 b && leb b 4096 && leb 1 h && leb h 4096 && leb 30000 f) (leb f 100000) g.0 in
    let l = and_parts (leb 1 b && leb b 4096 && leb 1 h && leb h 4096) (leb 30000 f) k.0 in
    let m = and_parts (leb 1 b && leb b 4096 && leb 1 h) (leb h 4096) l.0 in
    let n = and_parts (leb 1 b && leb b 4096) (leb 1 h) m.0 in
    (leb-true 1 h n.1, leb-true h 4096 m.1, leb-true b 64 g.1, leb-true f 100000 k.1)

pub web_fits : (xs : List (Option Plate)) → Within xs → (p : Plate) → standing Web xs ≡ Some p → WebFits p
web_fits xs w p e =
    let k = standing_kept Web xs w p e in
    let sized = (and_parts (is_sized (eqb (role_number p.role) 2) p.breadth p.height p.fy) (leb (p.top + p.height) 4096) k.0).0 in
    let l = sized_web p.breadth p.height p.fy (ap (λ (x : Bool). is_sized x p.breadth p.height p.fy) (sym k.1) ∙ sized) in
    record { some = l.0; low = l.1; thin = l.2; weak = l.3 }

-- a spacing within its range, and the coefficient that it gives
fits_from : (h d : ℕ) → h ≤ 4 * d → d ≤ 3 * h → spacing_fits h d ≡ true
fits_from h d x y = rw (le-leb h (4 * d) x, le-leb d (3 * h) y) refl

pub buckles : (height : ℕ) (o : Option ℕ) (s h d : ℕ) → o ≡ Some s → h ≡ height → d ≡ s → h ≤ 4 * d → d ≤ 3 * h → Buckles height o (500 + 500 * (h * h) / (d * d)) × (500 + 500 * (h * h) / (d * d) ≤ 8500)
buckles height o s h d is p q x y =
    let square = mul-le-mul x x in
    let quotient = div-le_of_le-mul (d * d) {m = 500 * (h * h)} {n = 8000} (omega arith) in (
      subst (λ (z : Option ℕ). Buckles height z (500 + 500 * (h * h) / (d * d))) (sym is)
          (subst (λ (z : ℕ). Buckles z (Some s) (500 + 500 * (h * h) / (d * d))) p (subst (λ (z : ℕ). Buckles h (Some z) (500 + 500 * (h * h) / (d * d))) q (fits_from h d x y, refl))),
      omega arith,
    )
