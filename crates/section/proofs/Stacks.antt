-- Blocks added one by one, in the order of a list.
use Rattle.std.proofs.Common.{◌≡◌, ℕ, zero, suc, ◌+◌, ◌*◌, ◌^◌, ◌<◌, ◌≤◌, min, max, List, [], ◌∷◌, ◌++◌, length, get_or, take, set, ap, ◌∙◌, le_of_suc-le-suc, not-suc-le-zero, arith}
use mathlib.Core.Path.{fun_ext}
use Rattle.std.proofs.lemmas.List.{take_more}
use Rattle.section.specs.declared.sense.Sense.{Sense}
use Rattle.section.specs.declared.forces.Forces.{Forces}
use Rattle.section.specs.declared.resultants.Resultants.{Resultants}
use Rattle.section.specs.declared.block.Block.{Block}
use Rattle.section.specs.Strips.{sum_to, ◌⊕◌}
use Rattle.section.specs.Parts.{IsDepth, IsForces, IsResultants}
use Rattle.section.specs.Blocks.{strips, stacked, stacked_total}
use Rattle.section.specs.BlockLaws.{stacked-sum}
use Rattle.section.proofs.Together.{forces_both, forces_small, resultants_both, resultants_small, depth_both}

-- one block more
stacked_push : (bs : List Block) (b : Block) (i : ℕ) → stacked (bs ++ (b ∷ [])) i ≡ stacked bs i + strips b i
stacked_push [] b i = omega arith
stacked_push (x ∷ xs) b i = let r = stacked_push xs b i in omega arith

pub stacked_next : (bs : List Block) (i : ℕ) (d : Block) → i < length bs → stacked (take (i + 1) bs) ≡ (stacked (take i bs) ⊕ strips (get_or bs i d))
stacked_next bs i d l = ap stacked (take_more bs i d l) ∙ fun_ext (λ j. stacked_push (take i bs) (get_or bs i d) j)

pub total-take : (n : ℕ) (bs : List Block) → stacked_total (take n bs) ≤ stacked_total bs
total-take zero bs = omega arith
total-take (suc n) [] = omega arith
total-take (suc n) (b ∷ bs) = let r = total-take n bs in omega arith

pub resultants_next : (s : Sense) (bs : List Block) (i : ℕ) (d : Block) (k : ℕ) (a r : Resultants) → i < length bs → IsResultants s (stacked (take i bs)) (stacked (take i bs)) k a →
    IsResultants s (strips (get_or bs i d)) (strips (get_or bs i d)) k r →
    IsResultants s (stacked (take (i + 1) bs)) (stacked (take (i + 1) bs)) k (record { above = a.above + r.above; below = a.below + r.below; moment = a.moment + r.moment })
resultants_next s bs i d k a r l x y =
    rw (stacked_next bs i d l) (resultants_both s (stacked (take i bs)) (strips (get_or bs i d)) (stacked (take i bs)) (strips (get_or bs i d)) k a r x y)

pub forces_next : (s : Sense) (bs : List Block) (i : ℕ) (d : Block) (k : ℕ) (a r : Forces) → i < length bs → IsForces s (stacked (take i bs)) (stacked (take i bs)) k a →
    IsForces s (strips (get_or bs i d)) (strips (get_or bs i d)) k r →
    IsForces s (stacked (take (i + 1) bs)) (stacked (take (i + 1) bs)) k (record { above = a.above + r.above; below = a.below + r.below })
forces_next s bs i d k a r l x y =
    rw (stacked_next bs i d l) (forces_both s (stacked (take i bs)) (strips (get_or bs i d)) (stacked (take i bs)) (strips (get_or bs i d)) k a r x y)

pub stack_small : (s : Sense) (bs : List Block) (i k : ℕ) (r : Resultants) → stacked_total bs ≤ 2 ^ 36 → IsResultants s (stacked (take i bs)) (stacked (take i bs)) (min k 4096) r →
    (r.above ≤ 2 ^ 36) × (r.below ≤ 2 ^ 36) × (r.moment ≤ 2 ^ 50)
stack_small s bs i k r light h =
    let l : sum_to (stacked (take i bs)) 4096 ≤ 2 ^ 36 = omega (arith, stacked-sum (take i bs), total-take i bs) in
    resultants_small s (stacked (take i bs)) (stacked (take i bs)) k r l l h

pub stack_forces_small : (s : Sense) (bs : List Block) (i k : ℕ) (r : Forces) → stacked_total bs ≤ 2 ^ 36 → IsForces s (stacked (take i bs)) (stacked (take i bs)) (min k 4096) r →
    (r.above ≤ 2 ^ 36) × (r.below ≤ 2 ^ 36)
stack_forces_small s bs i k r light h =
    let l : sum_to (stacked (take i bs)) 4096 ≤ 2 ^ 36 = omega (arith, stacked-sum (take i bs), total-take i bs) in
    forces_small s (stacked (take i bs)) (stacked (take i bs)) k r l l h

pub depth_next : (bs : List Block) (i : ℕ) (d : Block) (m n : ℕ) → i < length bs → IsDepth (stacked (take i bs)) (stacked (take i bs)) m → IsDepth (strips (get_or bs i d)) (strips (get_or bs i d)) n →
    IsDepth (stacked (take (i + 1) bs)) (stacked (take (i + 1) bs)) (max m n)
depth_next bs i d m n l x y = rw (stacked_next bs i d l) (depth_both (stacked (take i bs)) (strips (get_or bs i d)) (stacked (take i bs)) (strips (get_or bs i d)) m n x y)

-- one block put in another's place
pub stacked-set : (bs : List Block) (n : ℕ) (b d : Block) (i : ℕ) → n < length bs → stacked (set bs n b) i + strips (get_or bs n d) i ≡ stacked bs i + strips b i
stacked-set [] n b d i l = absurd (not-suc-le-zero l)
stacked-set (x ∷ xs) zero b d i l = omega arith
stacked-set (x ∷ xs) (suc n) b d i l = let r = stacked-set xs n b d i (le_of_suc-le-suc l) in omega arith

pub total-set : (bs : List Block) (n : ℕ) (b d : Block) → n < length bs → stacked_total (set bs n b) + (get_or bs n d).strength * (get_or bs n d).height ≡ stacked_total bs + b.strength * b.height
total-set [] n b d l = absurd (not-suc-le-zero l)
total-set (x ∷ xs) zero b d l = omega arith
total-set (x ∷ xs) (suc n) b d l = let r = total-set xs n b d (le_of_suc-le-suc l) in omega arith
