-- `sheet::measures::Measures::lower` meets its contract.
use Rattle.std.proofs.Common.{ℕ, ◌+◌, ◌-◌, ◌^◌, ◌<◌, min, length, get_or, set, refl, ap, ◌∙◌, arith}
use lib.ListN.{length-map}
use Rattle.sheet.proofs.Lowering.{over_all, over_step}
use Rattle.sheet.proofs.measures.Measures.lower.Goals as goal

pub invariant_of-self : goal.invariant_of-self
invariant_of-self c =
    let s = c.args.self.now in
    let f = λ (t : ℕ). min (t + c.args.n) (2 ^ 16 - 1) in
    let all = over_all f s.tops c.loop-top.top-items c.loop-top.top-index c.loop-top.invariant (omega (arith, s.topped)) in
    record {
      topped = ap length all ∙ length-map s.tops f ∙ s.topped;
      sized = s.sized;
      strong = s.strong;
    }

pub loop-top-preserved : goal.loop-top-preserved
loop-top-preserved c =
    let s = c.args.self.now in
    let i = c.loop-top.top-index in
    let now' = c.loop-top.top-items in
    let h : i < length s.tops = omega (arith, s.topped) in
    ap (set now' i) c.saturating_add.ensures ∙ over_step (λ (t : ℕ). min (t + c.args.n) (2 ^ 16 - 1)) s.tops now' i c.loop-top.invariant 0 (get_or now' i 0) h refl

pub returns : goal.returns
returns c =
    let s = c.args.self.now in
    record { tops = over_all (λ (t : ℕ). min (t + c.args.n) (2 ^ 16 - 1)) s.tops c.loop-top.top-items c.loop-top.top-index c.loop-top.invariant (omega (arith, s.topped)); heights = refl; strengths = refl }
