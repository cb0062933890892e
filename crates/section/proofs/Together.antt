-- Two parts together, and how large a part's forces and moments get.
use Rattle.std.proofs.Common.{◌≡◌, ℕ, ◌+◌, ◌-◌, ◌*◌, ◌^◌, ◌<◌, ◌≤◌, min, max, refl, ◌∙◌, add-mul, mul-le-mul_left, arith}
use Rattle.section.specs.declared.sense.Sense.{Sense}
use Rattle.section.specs.declared.sense.Sense.TheVariants.{Sagging, Hogging}
use Rattle.section.specs.declared.forces.Forces.{Forces}
use Rattle.section.specs.declared.resultants.Resultants.{Resultants}
use Rattle.section.specs.Strips.{sum_to, force_above, force_below, moment_above, moment_below, no_strips, ◌⊕◌, strength_above, strength_below}
use Rattle.section.specs.Parts.{Lawful, IsDepth, IsForces, IsResultants}
use Rattle.section.specs.Adding.{forces_sum}
use Rattle.section.specs.Sums.{sum_to_cong, sum_to_add, sum_to_le, sum_to_split, sum_to-times, zeros}
use Rattle.section.proofs.Adding.{forces_whole}

above_both : (s : Sense) (p q r t : ℕ → ℕ) → strength_above s (p ⊕ q) (r ⊕ t) ≡ strength_above s p r ⊕ strength_above s q t
above_both Sagging p q r t = refl
above_both Hogging p q r t = refl

below_both : (s : Sense) (p q r t : ℕ → ℕ) → strength_below s (p ⊕ q) (r ⊕ t) ≡ strength_below s p r ⊕ strength_below s q t
below_both Sagging p q r t = refl
below_both Hogging p q r t = refl

pub force_above_both : (f h : ℕ → ℕ) (k : ℕ) → force_above (f ⊕ h) k ≡ force_above f k + force_above h k
unfolding force_above
force_above_both f h k = sum_to_add f h k

pub force_below_both : (n : ℕ) (f h : ℕ → ℕ) (k : ℕ) → force_below n (f ⊕ h) k ≡ force_below n f k + force_below n h k
unfolding force_below
force_below_both n f h k = sum_to_add (λ j. f (k + j)) (λ j. h (k + j)) (n - k)

weighed : (f h w : ℕ → ℕ) (n : ℕ) → sum_to (λ i. (f i + h i) * w i) n ≡ sum_to (λ i. f i * w i) n + sum_to (λ i. h i * w i) n
weighed f h w n =
    sum_to_cong (λ i. (f i + h i) * w i) (λ i. f i * w i + h i * w i) n (λ i _. add-mul (f i) (h i) (w i)) ∙ sum_to_add (λ i. f i * w i) (λ i. h i * w i) n

pub moment_above_both : (f h : ℕ → ℕ) (k : ℕ) → moment_above (f ⊕ h) k ≡ moment_above f k + moment_above h k
unfolding moment_above
moment_above_both f h k = weighed f h (λ i. 2 * (k - i) - 1) k

pub moment_below_both : (n : ℕ) (d e : ℕ → ℕ) (k : ℕ) → moment_below n (d ⊕ e) k ≡ moment_below n d k + moment_below n e k
unfolding moment_below
moment_below_both n d e k = weighed (λ j. d (k + j)) (λ j. e (k + j)) (λ j. 2 * j + 1) (n - k)

-- bounds
sums : (n : ℕ) (f : ℕ → ℕ) (k : ℕ) → k ≤ n → sum_to f n ≡ sum_to f k + force_below n f k
unfolding force_below
sums n f k l = let e : k + (n - k) ≡ n = omega arith in rw e at (sum_to_split f k (n - k))

pub force_above_le : (n : ℕ) (f : ℕ → ℕ) (k : ℕ) → k ≤ n → force_above f k ≤ sum_to f n
unfolding force_above
force_above_le n f k l = omega (arith, sums n f k l)

pub force_below_le : (n : ℕ) (f : ℕ → ℕ) (k : ℕ) → k ≤ n → force_below n f k ≤ sum_to f n
force_below_le n f k l = omega (arith, sums n f k l)

light : (f w : ℕ → ℕ) (c n : ℕ) → ((i : ℕ) → i < n → w i ≤ c) → sum_to (λ i. f i * w i) n ≤ sum_to f n * c
light f w c n b =
    let e = sum_to_le (λ i. f i * w i) (λ i. f i * c) n (λ i l. mul-le-mul_left (f i) (b i l)) in
    omega (arith, sum_to-times f c n)

pub moment_above_le : (n : ℕ) (f : ℕ → ℕ) (k : ℕ) → k ≤ n → moment_above f k ≤ force_above f k * (2 * n)
unfolding moment_above force_above
moment_above_le n f k l = light f (λ i. 2 * (k - i) - 1) (2 * n) k (λ i h. omega arith)

pub moment_below_le : (n : ℕ) (d : ℕ → ℕ) (k : ℕ) → k ≤ n → moment_below n d k ≤ force_below n d k * (2 * n)
unfolding moment_below force_below
moment_below_le n d k l = light (λ j. d (k + j)) (λ j. 2 * j + 1) (2 * n) (n - k) (λ j h. omega arith)

pub strength_above-sum : (s : Sense) (p q : ℕ → ℕ) (n b : ℕ) → sum_to p n ≤ b → sum_to q n ≤ b → sum_to (strength_above s p q) n ≤ b
strength_above-sum Sagging p q n b x y = x
strength_above-sum Hogging p q n b x y = y

pub strength_below-sum : (s : Sense) (p q : ℕ → ℕ) (n b : ℕ) → sum_to p n ≤ b → sum_to q n ≤ b → sum_to (strength_below s p q) n ≤ b
strength_below-sum Sagging p q n b x y = y
strength_below-sum Hogging p q n b x y = x

-- the forces of a part whose pushes and pulls each sum to at most 2 ^ 36
pub forces_small : (s : Sense) (p q : ℕ → ℕ) (k : ℕ) (r : Forces) → sum_to p 4096 ≤ 2 ^ 36 → sum_to q 4096 ≤ 2 ^ 36 → IsForces s p q (min k 4096) r → (r.above ≤ 2 ^ 36) × (r.below ≤ 2 ^ 36)
forces_small s p q k r x y h =
    let l : min k 4096 ≤ 4096 = omega arith in
    let a = force_above_le 4096 (strength_above s p q) (min k 4096) l in
    let b = force_below_le 4096 (strength_below s p q) (min k 4096) l in
    let sa = strength_above-sum s p q 4096 (2 ^ 36) x y in
    let sb = strength_below-sum s p q 4096 (2 ^ 36) x y in
    (omega arith, omega arith)

-- and its resultants
pub resultants_small : (s : Sense) (p q : ℕ → ℕ) (k : ℕ) (r : Resultants) → sum_to p 4096 ≤ 2 ^ 36 → sum_to q 4096 ≤ 2 ^ 36 → IsResultants s p q (min k 4096) r →
    (r.above ≤ 2 ^ 36) × (r.below ≤ 2 ^ 36) × (r.moment ≤ 2 ^ 50)
resultants_small s p q k r x y h =
    let l : min k 4096 ≤ 4096 = omega arith in
    let a = force_above_le 4096 (strength_above s p q) (min k 4096) l in
    let b = force_below_le 4096 (strength_below s p q) (min k 4096) l in
    let m = moment_above_le 4096 (strength_above s p q) (min k 4096) l in
    let o = moment_below_le 4096 (strength_below s p q) (min k 4096) l in
    let sa = strength_above-sum s p q 4096 (2 ^ 36) x y in
    let sb = strength_below-sum s p q 4096 (2 ^ 36) x y in
    (omega arith, omega arith, omega arith)

-- so of any lawful part
pub lawful_small : {S : Type 0} {pushes pulls : S → ℕ → ℕ} → Lawful pushes pulls → (x : S) (s : Sense) (k : ℕ) (r : Resultants) → IsResultants s (pushes x) (pulls x) (min k 4096) r →
    (r.above ≤ 2 ^ 36) × (r.below ≤ 2 ^ 36) × (r.moment ≤ 2 ^ 50)
lawful_small laws x s k r h = resultants_small s _ _ k r (laws.pushes_light x) (laws.pulls_light x) h

pub lawful_forces_small : {S : Type 0} {pushes pulls : S → ℕ → ℕ} → Lawful pushes pulls → (x : S) (s : Sense) (k : ℕ) (r : Forces) → IsForces s (pushes x) (pulls x) (min k 4096) r →
    (r.above ≤ 2 ^ 36) × (r.below ≤ 2 ^ 36)
lawful_forces_small laws x s k r h = forces_small s _ _ k r (laws.pushes_light x) (laws.pulls_light x) h

-- the forces of two parts together are the sums of theirs
pub forces_both : (s : Sense) (p q r t : ℕ → ℕ) (k : ℕ) (a b : Forces) → IsForces s p r k a → IsForces s q t k b → IsForces s (p ⊕ q) (r ⊕ t) k (record { above = a.above + b.above; below = a.below + b.below })
forces_both s p q r t k a b x y =
    let u = above_both s p q r t in
    let d = below_both s p q r t in
    record {
      above_is = rw u (omega (arith, force_above_both (strength_above s p r) (strength_above s q t) k));
      below_is = rw d (omega (arith, force_below_both 4096 (strength_below s p r) (strength_below s q t) k));
    }

-- so what two lawful parts give, added
pub lawful_forces_both : {S T : Type 0} {pushes pulls : S → ℕ → ℕ} {pushes' pulls' : T → ℕ → ℕ} → Lawful pushes pulls → Lawful pushes' pulls' → (x : S) (y : T) (s : Sense) (k : ℕ) (a b r : Forces) →
    IsForces s (pushes x) (pulls x) (min k 4096) a → IsForces s (pushes' y) (pulls' y) (min k 4096) b → r ≡ forces_sum a b → IsForces s (pushes x ⊕ pushes' y) (pulls x ⊕ pulls' y) (min k 4096) r
lawful_forces_both laws laws' x y s k a b r h h' is =
    let p = lawful_forces_small laws x s k a h in
    let q = lawful_forces_small laws' y s k b h' in
    rw (is ∙ forces_whole a b (omega arith) (omega arith)) (forces_both s _ _ _ _ (min k 4096) a b h h')

pub lawful_both_small : {S T : Type 0} {pushes pulls : S → ℕ → ℕ} {pushes' pulls' : T → ℕ → ℕ} → Lawful pushes pulls → Lawful pushes' pulls' → (x : S) (y : T) (s : Sense) (k : ℕ) (a b r : Forces) →
    IsForces s (pushes x) (pulls x) (min k 4096) a → IsForces s (pushes' y) (pulls' y) (min k 4096) b → r ≡ forces_sum a b → (r.above ≤ 2 ^ 37) × (r.below ≤ 2 ^ 37)
lawful_both_small laws laws' x y s k a b r h h' is =
    let p = lawful_forces_small laws x s k a h in
    let q = lawful_forces_small laws' y s k b h' in
    rw (is ∙ forces_whole a b (omega arith) (omega arith)) (omega arith, omega arith)

-- and so are the resultants
pub resultants_both : (s : Sense) (p q r t : ℕ → ℕ) (k : ℕ) (a b : Resultants) → IsResultants s p r k a → IsResultants s q t k b →
    IsResultants s (p ⊕ q) (r ⊕ t) k (record { above = a.above + b.above; below = a.below + b.below; moment = a.moment + b.moment })
resultants_both s p q r t k a b x y =
    let u = above_both s p q r t in
    let d = below_both s p q r t in
    record {
      above_is = rw u (omega (arith, force_above_both (strength_above s p r) (strength_above s q t) k));
      below_is = rw d (omega (arith, force_below_both 4096 (strength_below s p r) (strength_below s q t) k));
      moment_is = rw (u, d) (omega (arith, moment_above_both (strength_above s p r) (strength_above s q t) k, moment_below_both 4096 (strength_below s p r) (strength_below s q t) k));
    }

-- the depth of two parts together is the greater of theirs
pub depth_both : (p q r t : ℕ → ℕ) (a b : ℕ) → IsDepth p r a → IsDepth q t b → IsDepth (p ⊕ q) (r ⊕ t) (max a b)
depth_both p q r t a b x y = record {
  past = λ i l. let u = x.past i (omega arith) in let v = y.past i (omega arith) in (omega arith, omega arith);
  least = λ d h.
      let u = x.least d (λ i l. let e = h i l in (omega arith, omega arith)) in
      let v = y.least d (λ i l. let e = h i l in (omega arith, omega arith)) in
      omega arith;
}

-- a lawful part is no deeper than 4,096
pub lawful_depth : {S : Type 0} {pushes pulls : S → ℕ → ℕ} → Lawful pushes pulls → (x : S) (d : ℕ) → IsDepth (pushes x) (pulls x) d → d ≤ 4096
lawful_depth laws x d h = h.least 4096 (λ i l. (laws.pushes_end x i l, laws.pulls_end x i l))

-- no strips
pub depth_none : IsDepth no_strips no_strips 0
depth_none = record { past = λ i l. (refl, refl); least = λ d h. omega arith }

pub resultants_none : (s : Sense) (k : ℕ) → k ≤ 4096 → IsResultants s no_strips no_strips k (record { above = 0; below = 0; moment = 0 })
resultants_none s k l =
    let z = zeros (λ _. 0) 4096 (λ _ _. refl) in
    let sa = strength_above-sum s (λ _. 0) (λ _. 0) 4096 0 (omega arith) (omega arith) in
    let sb = strength_below-sum s (λ _. 0) (λ _. 0) 4096 0 (omega arith) (omega arith) in
    let a = force_above_le 4096 (strength_above s (λ _. 0) (λ _. 0)) k l in
    let b = force_below_le 4096 (strength_below s (λ _. 0) (λ _. 0)) k l in
    let m = moment_above_le 4096 (strength_above s (λ _. 0) (λ _. 0)) k l in
    let o = moment_below_le 4096 (strength_below s (λ _. 0) (λ _. 0)) k l in
    record { above_is = omega arith; below_is = omega arith; moment_is = omega arith }

pub forces_none : (s : Sense) (k : ℕ) → k ≤ 4096 → IsForces s no_strips no_strips k (record { above = 0; below = 0 })
forces_none s k l = let r = resultants_none s k l in record { above_is = r.above_is; below_is = r.below_is }

-- strips that push and pull alike, by what those above the level and those below it give
pub halves_alike : (s : Sense) (f : ℕ → ℕ) (k a m b o : ℕ) → a ≡ force_above f k → m ≡ moment_above f k → b ≡ force_below 4096 f k → o ≡ moment_below 4096 f k →
    IsResultants s f f k (record { above = a; below = b; moment = m + o })
halves_alike Sagging f k a m b o p q r t = record { above_is = p; below_is = r; moment_is = omega arith }
halves_alike Hogging f k a m b o p q r t = record { above_is = p; below_is = r; moment_is = omega arith }

pub halves_small : (f : ℕ → ℕ) (k a m b o : ℕ) → sum_to f 4096 ≤ 2 ^ 36 →
    a ≡ force_above f (min k 4096) → m ≡ moment_above f (min k 4096) → b ≡ force_below 4096 f (min k 4096) → o ≡ moment_below 4096 f (min k 4096) → (a ≤ 2 ^ 36) × (b ≤ 2 ^ 36) × (m + o ≤ 2 ^ 50)
halves_small f k a m b o l p q r t =
    resultants_small Sagging f f k (record { above = a; below = b; moment = m + o }) l l (halves_alike Sagging f (min k 4096) a m b o p q r t)

pub forces_alike : (s : Sense) (f : ℕ → ℕ) (k a b : ℕ) → a ≡ force_above f k → b ≡ force_below 4096 f k → IsForces s f f k (record { above = a; below = b })
forces_alike Sagging f k a b p q = record { above_is = p; below_is = q }
forces_alike Hogging f k a b p q = record { above_is = p; below_is = q }
