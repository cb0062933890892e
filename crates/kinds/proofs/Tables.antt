-- A table's strips, added up one by one, and how far down they go.
use Rattle.std.proofs.Common.{◌≡◌, ℕ, suc, ◌+◌, ◌-◌, ◌*◌, ◌^◌, ◌<◌, ◌≤◌, min, List, [], length, get_or, take, sum, sym, ap, ◌∙◌, ⊎_elim, mul-le-mul_right, arith}
use mathlib.Core.Path.{fun_ext}
use Rattle.std.proofs.lemmas.List.{get_or-take, length-take, length-take-le}
use Rattle.std.proofs.lemmas.List.Sums.{sum_by-take-le}
use Rattle.std.proofs.lemmas.Nat.{mul-le}
use Rattle.section.specs.declared.sense.Sense.{Sense}
use Rattle.section.specs.declared.sense.Sense.TheVariants.{Sagging, Hogging}
use Rattle.section.specs.declared.resultants.Resultants.{Resultants}
use Rattle.section.specs.Strips.{sum_to, no_strips, ◌⊕◌}
use Rattle.section.specs.Parts.{IsDepth, IsResultants}
use Rattle.section.specs.Sums.{le_or_lt}
use Rattle.section.specs.Blocks.{block_strip, IsBetween}
use Rattle.section.specs.BlockLaws.{block_before, block_within, block_past}
use Rattle.section.proofs.ClosedForm.{is_above, is_below}
use Rattle.section.proofs.Together.{resultants_both, resultants_small}
use Rattle.kinds.specs.Shapes.{table_strip, Broad}
use Rattle.kinds.specs.ShapeLaws.{strip_before, strip_at, strip_past, strip_none, strip_sum}

-- a table of no breadths has no strips
pub empty_table : (top yield : ℕ) → table_strip top yield [] ≡ no_strips
empty_table top yield = fun_ext (λ i. strip_none top yield [] i (omega arith))

-- what one strip gives, on the one side on which it lies
module _ (i w k : ℕ) where
  sides : (s : Sense) (a b : ℕ × ℕ) → i < 4096 → k ≤ 4096 → IsBetween w (k - (i + 1)) (k - i) a → IsBetween w (i - k) (i + 1 - k) b →
      IsResultants s (block_strip i 1 w) (block_strip i 1 w) k (record { above = a.0; below = b.0; moment = a.1 + b.1 })
  sides Sagging a b l h x y =
      let u = is_above i 1 w k a x in
      let v = is_below i 1 w 4096 k b (omega arith) h y in
      record { above_is = u.0; below_is = v.0; moment_is = omega (arith, u.1, v.1) }
  sides Hogging a b l h x y =
      let u = is_above i 1 w k a x in
      let v = is_below i 1 w 4096 k b (omega arith) h y in
      record { above_is = u.0; below_is = v.0; moment_is = omega (arith, u.1, v.1) }

  nothing : (near far : ℕ) → near ≡ 0 → far ≡ 0 → IsBetween w near far (0, 0)
  nothing near far p q = rw (p, q) (record { force_is = omega arith; moment_is = omega arith })

  one : (d far : ℕ) → far ≡ suc d → IsBetween w d far (w, w * (2 * d + 1))
  one d far q = rw q (record { force_is = omega arith; moment_is = omega arith })

  pub strip_above : (s : Sense) → i < k → k ≤ 4096 → IsResultants s (block_strip i 1 w) (block_strip i 1 w) k (record { above = w; below = 0; moment = w * (2 * (k - i) - 1) })
  strip_above s l h =
      let d : 2 * (k - i) - 1 ≡ 2 * (k - (i + 1)) + 1 = omega arith in
      let e : w * (2 * (k - (i + 1)) + 1) + 0 ≡ w * (2 * (k - (i + 1)) + 1) = omega arith in
      rw d (rw e at (sides s (w, w * (2 * (k - (i + 1)) + 1)) (0, 0) (omega arith) h (one (k - (i + 1)) (k - i) (omega arith)) (nothing (i - k) (i + 1 - k) (omega arith) (omega arith))))

  pub strip_below : (s : Sense) → k ≤ i → i < 4096 → IsResultants s (block_strip i 1 w) (block_strip i 1 w) k (record { above = 0; below = w; moment = w * (2 * (i - k) + 1) })
  strip_below s l h =
      let e : 0 + w * (2 * (i - k) + 1) ≡ w * (2 * (i - k) + 1) = omega arith in
      rw e at (sides s (0, 0) (w, w * (2 * (i - k) + 1)) h (omega arith) (nothing (k - (i + 1)) (k - i) (omega arith) (omega arith)) (one (i - k) (i + 1 - k) (omega arith)))

module _ (top yield : ℕ) (bs : List ℕ) where
  -- one breadth more adds one strip
  pair : (xs ys : List ℕ) (i : ℕ) → top ≤ i → get_or xs (i - top) 0 ≡ get_or ys (i - top) 0 → table_strip top yield xs i ≡ table_strip top yield ys i
  pair xs ys i l e =
      let q : top + (i - top) ≡ i = omega arith in
      rw q at (strip_at top yield xs (i - top) ∙ ap (λ (v : ℕ). v * yield) e ∙ sym (strip_at top yield ys (i - top)))

  one_more : (j i : ℕ) → j < length bs → table_strip top yield (take (j + 1) bs) i ≡ table_strip top yield (take j bs) i + block_strip (top + j) 1 (get_or bs j 0 * yield) i
  one_more j i l =
      let w = get_or bs j 0 * yield in
      let m : length (take (j + 1) bs) ≡ j + 1 = length-take-le (j + 1) bs (omega arith) in
      let n : length (take j bs) ≡ j = length-take-le j bs (omega arith) in
      ⊎_elim
      (λ h. ⊎_elim
      (λ g. omega (arith, strip_past top yield (take (j + 1) bs) i (omega arith), strip_past top yield (take j bs) i (omega arith), block_past (top + j) 1 w i g))
      (λ g.
      let e : i ≡ top + j = omega arith in
      let a = strip_at top yield (take (j + 1) bs) j ∙ ap (λ (v : ℕ). v * yield) (get_or-take (j + 1) bs j 0 (omega arith)) in
      rw e (omega (arith, a, strip_past top yield (take j bs) (top + j) (omega arith), block_within (top + j) 1 w (top + j) (omega arith) (omega arith))))
      (le_or_lt (top + j + 1) i))
      (λ h. ⊎_elim
      (λ g.
      let a = pair (take (j + 1) bs) (take j bs) i g (get_or-take (j + 1) bs (i - top) 0 (omega arith) ∙ sym (get_or-take j bs (i - top) 0 (omega arith))) in
      omega (arith, a, block_before (top + j) 1 w i h))
      (λ g. omega (arith, strip_before top yield (take (j + 1) bs) i g, strip_before top yield (take j bs) i g, block_before (top + j) 1 w i h))
      (le_or_lt top i))
      (le_or_lt (top + j) i)

  pub table_next : (s : Sense) (j k : ℕ) (a r : Resultants) → j < length bs →
      IsResultants s (table_strip top yield (take j bs)) (table_strip top yield (take j bs)) k a →
      IsResultants s (block_strip (top + j) 1 (get_or bs j 0 * yield)) (block_strip (top + j) 1 (get_or bs j 0 * yield)) k r →
      IsResultants s (table_strip top yield (take (j + 1) bs)) (table_strip top yield (take (j + 1) bs)) k (record { above = a.above + r.above; below = a.below + r.below; moment = a.moment + r.moment })
  table_next s j k a r l x y =
      let f = table_strip top yield (take j bs) in
      let g = block_strip (top + j) 1 (get_or bs j 0 * yield) in
      let e : table_strip top yield (take (j + 1) bs) ≡ (f ⊕ g) = fun_ext (λ i. one_more j i l) in
      rw e (resultants_both s f g f g k a r x y)

  -- one turn of the loop that adds up a table
  pub upper_turn : (s : Sense) (j k : ℕ) (a : Resultants) → j < length bs → top + j < k → k ≤ 4096 →
      IsResultants s (table_strip top yield (take j bs)) (table_strip top yield (take j bs)) k a →
      IsResultants s (table_strip top yield (take (j + 1) bs)) (table_strip top yield (take (j + 1) bs)) k (record { above = a.above + get_or bs j 0 * yield; below = a.below; moment = a.moment + get_or bs j 0 * yield * (2 * (k - (top + j)) - 1) })
  upper_turn s j k a l above shallow x =
      let e : a.below + 0 ≡ a.below = omega arith in
      rw e at (table_next s j k a _ l x (strip_above (top + j) (get_or bs j 0 * yield) k s above shallow))

  pub lower_turn : (s : Sense) (j k : ℕ) (a : Resultants) → j < length bs → k ≤ top + j → top + j < 4096 →
      IsResultants s (table_strip top yield (take j bs)) (table_strip top yield (take j bs)) k a →
      IsResultants s (table_strip top yield (take (j + 1) bs)) (table_strip top yield (take (j + 1) bs)) k (record { above = a.above; below = a.below + get_or bs j 0 * yield; moment = a.moment + get_or bs j 0 * yield * (2 * (top + j - k) + 1) })
  lower_turn s j k a l below inside x =
      let e : a.above + 0 ≡ a.above = omega arith in
      rw e at (table_next s j k a _ l x (strip_below (top + j) (get_or bs j 0 * yield) k s below inside))

  -- the first breadths give no more than all
  pub table_small : (j k : ℕ) (r : Resultants) → top + length bs ≤ 4096 → sum bs * yield ≤ 2 ^ 36 → k ≤ 4096 →
      IsResultants Sagging (table_strip top yield (take j bs)) (table_strip top yield (take j bs)) k r → (r.above ≤ 2 ^ 36) × (r.below ≤ 2 ^ 36) × (r.moment ≤ 2 ^ 50)
  table_small j k r inside light shallow h =
      let t = strip_sum top yield (take j bs) 4096 (omega (arith, length-take j bs)) in
      let m = mul-le-mul_right yield (sum_by-take-le (λ (x : ℕ). x) bs j) in
      let l : sum_to (table_strip top yield (take j bs)) 4096 ≤ 2 ^ 36 = omega arith in
      let e : min k 4096 ≡ k = omega arith in
      resultants_small Sagging (table_strip top yield (take j bs)) (table_strip top yield (take j bs)) k r l l (rw e h)

  pub no_table : length bs ≡ 0 → IsDepth (table_strip top yield bs) (table_strip top yield bs) 0
  no_table e = record { past = λ i l. (strip_none top yield bs i e, strip_none top yield bs i e); least = λ d h. omega arith }

  pub table_depth : Broad bs → 30000 ≤ yield → 0 < length bs → IsDepth (table_strip top yield bs) (table_strip top yield bs) (top + length bs)
  table_depth broad strong some = record {
    past = λ i l. (strip_past top yield bs i l, strip_past top yield bs i l);
    least = λ d h.
        ⊎_elim (λ l. l)
        (λ l.
        let e = strip_at top yield bs (length bs - 1) in
        let z = h (top + (length bs - 1)) (omega arith) in
        let m = mul-le 1 30000 (get_or bs (length bs - 1) 0) yield (broad (length bs - 1) (omega arith)).0 strong in
        absurd (let b : ⊥ = omega arith in b))
        (le_or_lt (top + length bs) d);
  }
