-- A cover plate keeps the laws of parts.
use Rattle.std.specs.Prelude.{◌≡◌, ℕ, ◌*◌, ◌^◌, ◌≤◌}
use Rattle.std.proofs.Common.{arith}
use Rattle.section.specs.Strips.{sum_to}
use Rattle.section.specs.Parts.{Lawful}
use Rattle.section.specs.BlockLaws.{block_past, block_sum}
use Rattle.cover_plate.specs.declared.cover.CoverPlate.{CoverPlate}
use Rattle.cover_plate.specs.Covers.{cover_strips}

ends : (p : CoverPlate) (i : ℕ) → 4096 ≤ i → cover_strips p i ≡ 0
ends p i l = let h = p.inside in block_past p.top p.height (p.breadth * p.fy) i (omega arith)

light : (p : CoverPlate) → sum_to (cover_strips p) 4096 ≤ 2 ^ 36
light p =
    let h = p.light in
    let s = block_sum p.top p.height (p.breadth * p.fy) 4096 p.inside in
    omega arith

pub cover_laws : Lawful cover_strips cover_strips
cover_laws = record {
  pushes_end = ends;
  pulls_end = ends;
  pushes_light = light;
  pulls_light = light;
  weaker_pull = λ p i. omega arith;
}
