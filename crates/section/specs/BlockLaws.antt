-- Laws of blocks, for the laws of the parts that are made of them.
use Rattle.std.specs.Prelude.{◌≡◌, ℕ, zero, suc, ◌+◌, ◌*◌, ◌<◌, ◌≤◌, List, [], ◌∷◌, refl}
use Rattle.std.proofs.Common.{⊎_elim}
use native.Mathlib.Omega.{arith}
use Rattle.std.proofs.lemmas.Bool.{lt-ltb, le-ltb}
use Rattle.section.specs.declared.block.Block.{Block}
use Rattle.section.specs.Strips.{sum_to}
use Rattle.section.specs.Sums.{sum_to_cong, sum_to_split, sum_to_suc, sum_to_zero, sum_to_add, zeros, sum_to_past, le_or_lt}
use Rattle.section.specs.Blocks.{block_strip, strips, stacked, stacked_total}

constant : (c n : ℕ) → sum_to (λ _. c) n ≡ c * n
constant c zero = let z = sum_to_zero (λ _. c) in omega arith
constant c (suc n) = let r = constant c n in omega (arith, sum_to_suc (λ _. c) n)

module _ (top height strength : ℕ) where
  pub block_before : (i : ℕ) → i < top → block_strip top height strength i ≡ 0
  unfolding block_strip
  block_before i l = let e = lt-ltb i top l in rw e

  pub block_within : (i : ℕ) → top ≤ i → i < top + height → block_strip top height strength i ≡ strength
  unfolding block_strip
  block_within i l h = let e = le-ltb i top l in let f = lt-ltb i (top + height) h in rw (e, f)

  pub block_past : (i : ℕ) → top + height ≤ i → block_strip top height strength i ≡ 0
  unfolding block_strip
  block_past i l = let h : top ≤ i = omega arith in let e = le-ltb i top h in let f = le-ltb i (top + height) l in rw (e, f)

  pub block_sum : (n : ℕ) → top + height ≤ n → sum_to (block_strip top height strength) n ≡ strength * height
  block_sum n l =
      let p = sum_to_past (block_strip top height strength) (top + height) n l block_past in
      let s = sum_to_split (block_strip top height strength) top height in
      let z = zeros (block_strip top height strength) top block_before in
      let c = sum_to_cong (λ j. block_strip top height strength (top + j)) (λ _. strength) height (λ j h. block_within (top + j) (omega arith) (omega arith)) in
      omega (arith, constant strength height)

  pub block_none : height ≡ 0 → (i : ℕ) → block_strip top height strength i ≡ 0
  block_none e i = ⊎_elim (λ l. block_past i (omega arith)) (block_before i) (le_or_lt top i)

-- a block ends by the strip 4,096, and its strips sum to its total
pub strips_end : (b : Block) (i : ℕ) → 4096 ≤ i → strips b i ≡ 0
strips_end b i l = let h = b.inside in block_past b.top b.height b.strength i (omega arith)

pub strips-sum : (b : Block) → sum_to (strips b) 4096 ≡ b.strength * b.height
strips-sum b = block_sum b.top b.height b.strength 4096 b.inside

-- so do blocks together
pub stacked_end : (bs : List Block) (i : ℕ) → 4096 ≤ i → stacked bs i ≡ 0
stacked_end [] i l = refl
stacked_end (b ∷ bs) i l = omega (arith, strips_end b i l, stacked_end bs i l)

pub stacked-sum : (bs : List Block) → sum_to (stacked bs) 4096 ≡ stacked_total bs
stacked-sum [] = zeros (λ _. 0) 4096 (λ _ _. refl)
stacked-sum (b ∷ bs) = omega (arith, sum_to_add (strips b) (stacked bs) 4096, strips-sum b, stacked-sum bs)
