-- `sheet::measures::Measures::moment` meets its contract.
use Rattle.std.proofs.Common.{◌≡◌, ℕ, ◌+◌, ◌-◌, ◌*◌, ◌<◌, ◌≤◌, sym, ap, ◌∙◌, ⊎_elim, mul-zero, slice_index, arith}
use mathlib.Core.Path.{fun_ext}
use Rattle.section.specs.declared.sense.Sense.TheVariants.{Sagging}
use Rattle.section.specs.Strips.{moment_above, moment_at}
use Rattle.section.specs.Sums.{le_or_lt}
use Rattle.section.specs.Blocks.{block_strip}
use Rattle.section.specs.BlockLaws.{block_none}
use Rattle.section.proofs.ClosedForm.{between, is_above, is_below}
use Rattle.section.proofs.Together.{resultants_none}
use Rattle.sheet.proofs.measures.Measures.moment.Goals as goal

no_way : (w x y u v : ℕ) → y ≡ x → v ≡ u → w * ((x * x - y * y) + (u * u - v * v)) ≡ 0
no_way w x y u v p q = rw (p, q) (let z : (x * x - x * x) + (u * u - u * u) ≡ 0 = omega arith in ap (λ m. w * m) z ∙ mul-zero w)

in_two : (w a b : ℕ) → w * (a + b) ≡ w * a + w * b
in_two w a b = omega arith

-- an empty slot's strips may begin anywhere
by_squares : (t h w k : ℕ) → (0 < h → t + h ≤ 4096) → k ≤ 4096 →
    w * (((k - t) * (k - t) - (k - (t + h)) * (k - (t + h))) + ((t + h - k) * (t + h - k) - (t - k) * (t - k))) ≡ moment_at 4096 (block_strip t h w) (block_strip t h w) k
by_squares t h w k inside l =
    ⊎_elim
    (λ e.
    let z : h ≡ 0 = omega arith in
    no_way w (k - t) (k - (t + h)) (t + h - k) (t - k) (omega arith) (omega arith) ∙ (resultants_none Sagging k l).moment_is ∙ ap (λ f. moment_at 4096 f f k) (sym (fun_ext (block_none t h w z))))
    (λ some.
    let a = (is_above t h w k _ (between w (k - (t + h)) (k - t) (omega arith))).1 in
    let b = (is_below t h w 4096 k _ (inside some) l (between w (t - k) (t + h - k) (omega arith))).1 in
    in_two w _ _ ∙ ap (λ m. m + w * ((t + h - k) * (t + h - k) - (t - k) * (t - k))) a ∙ ap (λ m. moment_above (block_strip t h w) k + m) b)
    (le_or_lt h 0)

pub returns : goal.returns
returns c =
    let s = c.args.self.now in
    let a = simp (c.saturating_sub.ensures, c.saturating_sub-2.ensures) at c.squares_between-above.ensures in
    let b = simp (c.saturating_sub-3.ensures, c.saturating_sub-4.ensures) at c.squares_between-below.ensures in
    rw (c.from.ensures, c.from-2.ensures, a, b) (by_squares (slice_index s.tops c.args.slot) (slice_index s.heights c.args.slot) (slice_index s.strengths c.args.slot) c.args.level c.requires.inside c.requires.shallow)
