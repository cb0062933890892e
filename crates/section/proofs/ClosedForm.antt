-- The forces and moments of a block in closed form: each side of an equation adds what the other takes away.
use Rattle.std.proofs.Common.{◌≡◌, ℕ, zero, suc, ◌+◌, ◌-◌, ◌*◌, ◌^◌, ◌<◌, ◌≤◌, ◌∙◌, ⊎_elim, mul-le-mul_left, arith}
use Rattle.std.proofs.lemmas.Nat.{mul-le}
use Rattle.section.specs.Strips.{force_above, force_below, moment_above, moment_below}
use Rattle.section.specs.Parts.{IsDepth}
use Rattle.section.specs.Sums.{le_or_lt}
use Rattle.section.specs.Blocks.{block_strip, IsBetween}
use Rattle.section.specs.BlockLaws.{block_before, block_within, block_past}
use Rattle.section.proofs.Levels.{above_none, below_none, above_step, below_step, moment_above_step, moment_below_step}

-- (d + 1)² = d² + 2d + 1
longer : (w d e : ℕ) → e ≡ suc d → (w * e ≡ w * d + w) × (w * (e * e) ≡ w * (d * d) + w * d + w * e)
longer w d e q = (rw q (omega arith), rw q (omega arith))

same : (w d e : ℕ) → e ≡ d → (w * e ≡ w * d) × (w * (e * e) ≡ w * (d * d))
same w d e q = (rw q, rw q)

factors : (w h : ℕ) → 0 < w * h → (0 < w) × (0 < h)
factors zero h l = absurd (let b : ⊥ = omega arith in b)
factors (suc w) zero l = absurd (let b : ⊥ = omega arith in b)
factors (suc w) (suc h) l = (omega arith, omega arith)

-- what the code computes of the ways to the nearer and the farther end
pub between : (w near far : ℕ) → near ≤ far → IsBetween w near far (w * (far - near), w * (far * far - near * near))
between w near far l = record { force_is = less w far near l; moment_is = less w (far * far) (near * near) (mul-le near near far far l l) }
  where
    less : (w x y : ℕ) → y ≤ x → w * (x - y) + w * y ≡ w * x
    less w x y l = let e : (x - y) + y ≡ x = omega arith in let d : w * (x - y) + w * y ≡ w * ((x - y) + y) = omega arith in rw e at d

-- and how large that is
pub between_small : (w near far height : ℕ) → near ≤ far → far ≤ near + height → far ≤ 4096 → w * height ≤ 2 ^ 36 → (w * (far - near) ≤ 2 ^ 36) × (w * (far * far - near * near) ≤ 2 ^ 49)
between_small w near far height l h b s =
    let d = mul-le-mul_left w (let x : far - near ≤ height = omega arith in x) in
    let e : far * far - near * near ≡ (far - near) * (far + near) = squares far near l in
    let m = mul-le-mul_left (w * (far - near)) (let x : far + near ≤ 8192 = omega arith in x) in
    let a : w * ((far - near) * (far + near)) ≡ w * (far - near) * (far + near) = omega arith in
    let t : w * (far - near) * 8192 ≤ 2 ^ 49 = omega arith in
    (omega arith, rw e (omega arith))
  where
    squares : (x y : ℕ) → y ≤ x → x * x - y * y ≡ (x - y) * (x + y)
    squares x y l =
        let q : y + (x - y) ≡ x = omega arith in
        let g : (y d : ℕ) → (y + d) * (y + d) - y * y ≡ d * ((y + d) + y) = λ y d. omega arith in
        rw q at (g y (x - y))

module _ (top height w : ℕ) where
  closed_above : (k : ℕ) → IsBetween w (k - (top + height)) (k - top) (force_above (block_strip top height w) k, moment_above (block_strip top height w) k)
  closed_above zero =
      let z = above_none (block_strip top height w) in
      let x = same w 0 (0 - (top + height)) (omega arith) in
      let y = same w 0 (0 - top) (omega arith) in
      record { force_is = omega arith; moment_is = omega arith }
  closed_above (suc k) =
      let r = closed_above k in
      let a = above_step (block_strip top height w) k in
      let m = moment_above_step (block_strip top height w) k in
      ⊎_elim
      (λ l. ⊎_elim
      (λ g.
      let s = block_past top height w k g in
      let x = longer w (k - (top + height)) (suc k - (top + height)) (omega arith) in
      let y = longer w (k - top) (suc k - top) (omega arith) in
      record { force_is = omega arith; moment_is = omega arith })
      (λ g.
      let s = block_within top height w k l g in
      let x = same w 0 (k - (top + height)) (omega arith) in
      let x' = same w 0 (suc k - (top + height)) (omega arith) in
      let y = longer w (k - top) (suc k - top) (omega arith) in
      record { force_is = omega arith; moment_is = omega arith })
      (le_or_lt (top + height) k))
      (λ l.
      let s = block_before top height w k l in
      let x = same w 0 (k - (top + height)) (omega arith) in
      let x' = same w 0 (suc k - (top + height)) (omega arith) in
      let y = same w 0 (k - top) (omega arith) in
      let y' = same w 0 (suc k - top) (omega arith) in
      record { force_is = omega arith; moment_is = omega arith })
      (le_or_lt top k)

  below_by : (n d k : ℕ) → top + height ≤ n → k + d ≡ n → IsBetween w (top - k) (top + height - k) (force_below n (block_strip top height w) k, moment_below n (block_strip top height w) k)
  below_by n zero k h e =
      let q : n ≡ k = omega arith in
      let z = below_none n (block_strip top height w) in
      let z' = rw q at z in
      let x = same w 0 (top - k) (omega arith) in
      let y = same w 0 (top + height - k) (omega arith) in
      rw q (record { force_is = omega arith; moment_is = omega arith })
  below_by n (suc d) k h e =
      let r = below_by n d (suc k) h (omega arith) in
      let a = below_step n (block_strip top height w) k (omega arith) in
      let m = moment_below_step n (block_strip top height w) k (omega arith) in
      ⊎_elim
      (λ l. ⊎_elim
      (λ g.
      let s = block_past top height w k g in
      let x = same w 0 (top - k) (omega arith) in
      let x' = same w 0 (top - suc k) (omega arith) in
      let y = same w 0 (top + height - k) (omega arith) in
      let y' = same w 0 (top + height - suc k) (omega arith) in
      record { force_is = omega arith; moment_is = omega arith })
      (λ g.
      let s = block_within top height w k l g in
      let x = same w 0 (top - k) (omega arith) in
      let x' = same w 0 (top - suc k) (omega arith) in
      let y = longer w (top + height - suc k) (top + height - k) (omega arith) in
      record { force_is = omega arith; moment_is = omega arith })
      (le_or_lt (top + height) k))
      (λ l.
      let s = block_before top height w k l in
      let x = longer w (top - suc k) (top - k) (omega arith) in
      let y = longer w (top + height - suc k) (top + height - k) (omega arith) in
      record { force_is = omega arith; moment_is = omega arith })
      (le_or_lt top k)

  closed_below : (n k : ℕ) → top + height ≤ n → k ≤ n → IsBetween w (top - k) (top + height - k) (force_below n (block_strip top height w) k, moment_below n (block_strip top height w) k)
  closed_below n k h l = below_by n (n - k) k h (omega arith)

  -- how far down it goes
  pub block_depth : 0 < w * height → IsDepth (block_strip top height w) (block_strip top height w) (top + height)
  block_depth some =
      let h = factors w height some in
      record {
        past = λ i l. (block_past top height w i l, block_past top height w i l);
        least = λ d e.
            ⊎_elim (λ l. l)
            (λ l. absurd (let s = block_within top height w (top + height - 1) (omega arith) (omega arith) in let z = e (top + height - 1) (omega arith) in let b : ⊥ = omega arith in b))
            (le_or_lt (top + height) d);
      }

  no_strength : w * height ≡ 0 → (i : ℕ) → block_strip top height w i ≡ 0
  no_strength e i =
      ⊎_elim
      (λ l. ⊎_elim (block_past top height w i)
      (λ g. ⊎_elim (λ z. block_within top height w i l g ∙ (let q : w ≡ 0 = omega arith in q)) (λ z. absurd (let m = mul-le 1 1 w height z (omega arith) in let b : ⊥ = omega arith in b)) (le_or_lt w 0))
      (le_or_lt (top + height) i))
      (block_before top height w i)
      (le_or_lt top i)

  pub block_no_depth : w * height ≡ 0 → IsDepth (block_strip top height w) (block_strip top height w) 0
  block_no_depth e = record { past = λ i l. (no_strength e i, no_strength e i); least = λ d h. omega arith }

  -- a force and a moment that meet the closed form are the definition's
  pub is_above : (k : ℕ) (r : ℕ × ℕ) → IsBetween w (k - (top + height)) (k - top) r → (r.0 ≡ force_above (block_strip top height w) k) × (r.1 ≡ moment_above (block_strip top height w) k)
  is_above k r b = let c = closed_above k in (omega (arith, c.force_is, b.force_is), omega (arith, c.moment_is, b.moment_is))

  pub is_below : (n k : ℕ) (r : ℕ × ℕ) → top + height ≤ n → k ≤ n → IsBetween w (top - k) (top + height - k) r → (r.0 ≡ force_below n (block_strip top height w) k) × (r.1 ≡ moment_below n (block_strip top height w) k)
  is_below n k r h l b = let c = closed_below n k h l in (omega (arith, c.force_is, b.force_is), omega (arith, c.moment_is, b.moment_is))

  -- the force alone
  pub force_above_closed : (k : ℕ) → w * ((k - top) - (k - (top + height))) ≡ force_above (block_strip top height w) k
  force_above_closed k = (is_above k _ (between w (k - (top + height)) (k - top) (omega arith))).0

  pub force_below_closed : (n k : ℕ) → top + height ≤ n → k ≤ n → w * ((top + height - k) - (top - k)) ≡ force_below n (block_strip top height w) k
  force_below_closed n k h l = (is_below n k _ h l (between w (top - k) (top + height - k) (omega arith))).0
