-- `sheet::plates_part::SheetPart::depth` meets its contract.
use Rattle.std.proofs.Common.{ap, ◌∙◌, sym, subst, arith}
use Rattle.std.specs.Option.{unwrap_or}
use Rattle.section.specs.Parts.{IsDepth}
use Rattle.section.proofs.Together.{lawful_depth}
use Rattle.sheet.specs.PlateLaws.{sheet_strips, plates_laws}
use Rattle.sheet.proofs.Feet.{foot_depth}
use Rattle.sheet.proofs.plates_part.SheetPart.depth.Goals as goal

is_depth : (c : goal.After-unwrap_or) → IsDepth (sheet_strips c.args.self.now) (sheet_strips c.args.self.now) c.unwrap_or.result
is_depth c =
    let s = c.args.self.now in
    subst (IsDepth (sheet_strips s) (sheet_strips s)) (sym (c.unwrap_or.ensures ∙ ap (λ o. unwrap_or o 0) s.plates.footed)) (foot_depth s.plates.slots.items s.within)

pub overflow_cast-result : goal.overflow_cast-result
overflow_cast-result c = omega (arith, lawful_depth plates_laws c.args.self.now c.unwrap_or.result (is_depth c))

pub returns : goal.returns
returns c = is_depth c
