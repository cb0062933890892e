-- `questions::extremes_of::type_extremes` meets its contract.
use Rattle.std.proofs.Common.{◌≡◌, ℕ, ◌*◌, ◌^◌, ◌≤◌, ℤ, pos, nat_abs, sym, ap, ◌∙◌, subst, to_z-of_z, w64, SFits, to_z, of_z}
use Rattle.loads.specs.Factors.{Range}
use Rattle.questions.specs.Extremes.{times}
use Rattle.questions.specs.Products.{least, greatest}
use Rattle.questions.proofs.Products.{product_fits, least-small, greatest-small, at_most}
use Rattle.questions.proofs.extremes_of.type_extremes.Goals as goal

pub returns : goal.returns
returns c =
    let r = c.factors-low.result in
    let s = c.args.sum in
    let e = c.factors-low.ensures in
    let l : Range r = subst Range (sym e) (c.args.state.now.lawful c.args.load) in
    let h = at_most r l in
    let f : SFits w64 (times r.0 s) = product_fits r.0 s h.0 c.requires in
    let g : SFits w64 (times r.1 s) = product_fits r.1 s h.1 c.requires in
    let o : SFits w64 c.min.result = record { sfits = c.min.type_inv } in
    let p : SFits w64 c.max.result = record { sfits = c.max.type_inv } in
    let a : to_z w64 (of_z w64 c.from.result) ≡ pos r.0 = to_z-of_z {w = w64} (record { sfits = c.from.type_inv }) ∙ c.from.ensures in
    let b : to_z w64 (of_z w64 c.from-2.result) ≡ pos r.1 = to_z-of_z {w = w64} (record { sfits = c.from-2.type_inv }) ∙ c.from-2.ensures in
    let lo : c.min.result ≡ least r s = simp (a, b, to_z-of_z c.ranges.sum, to_z-of_z f, to_z-of_z g) at c.min.ensures.value in
    let hi : c.max.result ≡ greatest r s = simp (a, b, to_z-of_z c.ranges.sum, to_z-of_z f, to_z-of_z g) at c.max.ensures.value in
    simp (to_z-of_z o, to_z-of_z p) (record {
      low = lo ∙ ap (λ (q : ℕ × ℕ). least q s) e;
      high = hi ∙ ap (λ (q : ℕ × ℕ). greatest q s) e;
      small = (
        subst (λ (z : ℤ). nat_abs z ≤ 1000 * 2 ^ 37) (sym lo) (least-small r s l c.requires),
        subst (λ (z : ℤ). nat_abs z ≤ 1000 * 2 ^ 37) (sym hi) (greatest-small r s l c.requires),
      );
    })
