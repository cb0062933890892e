-- The strips of a table, and that a shape keeps the laws of parts.
use Rattle.std.specs.Prelude.{◌≡◌, ℕ, zero, suc, ◌+◌, ◌-◌, ◌*◌, ◌^◌, ◌<◌, ◌≤◌, List, [], ◌∷◌, length, sum, slice_index, slice_index_or, refl}
use Rattle.std.proofs.Common.{ap, ◌∙◌, ⊎_elim, not-suc-le-zero, le_of_suc-le-suc}
use native.Mathlib.Omega.{arith}
use Rattle.std.proofs.lemmas.Bool.{lt-ltb, le-ltb}
use Rattle.std.proofs.lemmas.List.{get_or_past}
use Rattle.std.proofs.lemmas.List.Sums.{sum_by-cons}
use Rattle.section.specs.Strips.{sum_to}
use Rattle.section.specs.Parts.{Lawful}
use Rattle.section.specs.Sums.{sum_to_first, sum_to_cong, sum_to_split, sum_to-times, zeros, le_or_lt}
use Rattle.kinds.specs.Shapes.{table_strip}

sum-get_or : (bs : List ℕ) (m : ℕ) → length bs ≤ m → sum_to (λ j. slice_index bs j) m ≡ sum bs
sum-get_or [] m l = zeros (λ j. 0) m (λ _ _. refl)
sum-get_or (x ∷ xs) zero l = absurd (not-suc-le-zero l)
sum-get_or (x ∷ xs) (suc m) l =
    let r = sum-get_or xs m (le_of_suc-le-suc l) in
    omega (arith, sum_to_first (λ j. slice_index (x ∷ xs) j) m, sum_by-cons (λ y. y) x xs)

module _ (top strength : ℕ) (bs : List ℕ) where
  pub strip_before : (i : ℕ) → i < top → table_strip top strength bs i ≡ 0
  unfolding table_strip
  strip_before i l = let e = lt-ltb i top l in rw e

  pub strip_at : (j : ℕ) → table_strip top strength bs (top + j) ≡ slice_index bs j * strength
  unfolding table_strip
  strip_at j = let e = le-ltb (top + j) top (omega arith) in let q : top + j - top ≡ j = omega arith in rw (e, q)

  pub strip_past : (i : ℕ) → top + length bs ≤ i → table_strip top strength bs i ≡ 0
  strip_past i l =
      let q : top + (i - top) ≡ i = omega arith in
      let e = rw q at (strip_at (i - top)) in
      let z = get_or_past bs (i - top) 0 (omega arith) in
      let m : slice_index_or bs (i - top) 0 * strength ≡ 0 = rw z (omega arith) in
      e ∙ m

  pub strip_none : (i : ℕ) → length bs ≡ 0 → table_strip top strength bs i ≡ 0
  strip_none i e = ⊎_elim (λ l. strip_past i (omega arith)) (strip_before i) (le_or_lt top i)

  pub strip_sum : (n : ℕ) → top + length bs ≤ n → sum_to (table_strip top strength bs) n ≡ sum bs * strength
  strip_sum n l =
      let q : top + (n - top) ≡ n = omega arith in
      let s = rw q at (sum_to_split (table_strip top strength bs) top (n - top)) in
      let z = zeros (table_strip top strength bs) top strip_before in
      let c = sum_to_cong (λ j. table_strip top strength bs (top + j)) (λ j. slice_index bs j * strength) (n - top) (λ j _. strip_at j) in
      let t = sum_to-times (λ j. slice_index bs j) strength (n - top) in
      let g = ap (λ v. v * strength) (sum-get_or bs (n - top) (omega arith)) in
      omega arith

pub shape_laws : {S : Type 0} (top strength : S → ℕ) (bs : S → List ℕ) → ((x : S) → top x + length (bs x) ≤ 4096) → ((x : S) → sum (bs x) * strength x ≤ 2 ^ 36) →
    Lawful (λ (x : S). table_strip (top x) (strength x) (bs x)) (λ (x : S). table_strip (top x) (strength x) (bs x))
shape_laws top strength bs inside light = record {
  pushes_end = λ x i l. let h = inside x in strip_past (top x) (strength x) (bs x) i (omega arith);
  pulls_end = λ x i l. let h = inside x in strip_past (top x) (strength x) (bs x) i (omega arith);
  pushes_light = λ x. let h = light x in omega (arith, strip_sum (top x) (strength x) (bs x) 4096 (inside x));
  pulls_light = λ x. let h = light x in omega (arith, strip_sum (top x) (strength x) (bs x) 4096 (inside x));
  weaker_pull = λ x i. omega arith;
}
