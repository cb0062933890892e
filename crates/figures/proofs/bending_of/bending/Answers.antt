-- `figures::bending_of::bending` meets its contract.
use Rattle.std.proofs.Common.{List, ℤ, pos, ◌<ℤ◌, Option, sym, refl, subst, arith, lit<}
use borrow.Author.Differences.{ints}
use Rattle.loads.specs.declared.kind.EffectKind.TheVariants.{Moment}
use Rattle.loads.specs.Factors.{Lawful}
use Rattle.loads.proofs.Laws.{lawful_from}
use Rattle.section.specs.Parts.{IsDepth}
use Rattle.section.specs.BlockLaws.{block_past}
use Rattle.section.proofs.ClosedForm.{block_depth}
use Rattle.sheet.specs.declared.row.Row.{Row}
use Rattle.sheet.specs.Plates.{plate_of}
use Rattle.sheet.specs.PlateStrips.{plate_strips}
use Rattle.questions.specs.Bending.{IsResistance}
use Rattle.questions.specs.Extremes.{times}
use Rattle.questions.proofs.Choices.{extremes_from, none_above}
use Rattle.figures.specs.Girders.{top_flange, web, bottom_flange, girder, deck_pushes, deck_pulls}
use Rattle.figures.specs.Bending.{resistance, Carried, NotCarried, factors, at_limit, past_limit}
use Rattle.figures.proofs.Standing.{plates_depth}
use Rattle.figures.proofs.WorkedAxes.{girder_inside, composite}
use Rattle.figures.proofs.bending_of.bending.Goals as goal

girder_depth : IsDepth (plate_strips girder.plates) (plate_strips girder.plates) 808
girder_depth = plates_depth girder.plates girder_inside

deck_depth : IsDepth deck_pushes deck_pulls 128
deck_depth = record {
  past = λ i l. (omega (arith, block_past 0 128 5222400 i l), refl);
  least = λ d h. (block_depth 0 128 5222400 (lit< tt)).least d (λ i l. let e = h i l in (omega arith, omega arith));
}

-- whatever rows stand
resists : (rows : List (Option Row)) → IsResistance (record { plates = girder.plates; rows = rows }) deck_pushes deck_pulls resistance
resists rows = record {
  axis = record { level = 131; moment = 670355404800; imbalance = 9267200 };
  is_axis = composite;
  some_moment = lit< tt;
  plates_depth = 808;
  is_plates_depth = girder_depth;
  part_depth = 128;
  is_part_depth = deck_depth;
  top = plate_of top_flange;
  is_top = refl;
  web = plate_of web;
  is_web = refl;
  bottom = plate_of bottom_flange;
  is_bottom = refl;
  level = refl;
  mp = refl;
  mn = refl;
  compact = refl;
  ductile = refl;
}

carried : Carried
carried factors rows low e = (refl, refl, none_above factors Moment rows (record { low = low; high = pos 10436223 }) 7827167600 750 e refl)

not_carried : NotCarried
not_carried factors rows low e =
    let h = e.high_met in
    let x : pos 7827167600 <ℤ times 750 (pos 10436224) = omega (arith, ints) in
    (refl, refl, (h.0, h.1, subst (λ (z : ℤ). pos 7827167600 <ℤ times 750 z) (sym h.2) x))

lawful : Lawful factors
lawful = lawful_from factors refl

pub returns : goal.returns
returns c = record {
  depths = (girder_depth, deck_depth);
  moments = (refl, refl);
  resists = resists girder.rows;
  carried = carried;
  not_carried = not_carried;
  at_limit = (
    lawful,
    record {
      resistance = resistance;
      is_resistance = resists at_limit.rows;
      level = refl;
      mp = refl;
      mn = refl;
      verdict = carried factors at_limit.rows (pos 10436223) (extremes_from factors Moment at_limit.rows (record { low = pos 10436223; high = pos 10436223 }) lawful refl refl);
    },
  );
  past_limit = record {
    resistance = resistance;
    is_resistance = resists past_limit.rows;
    level = refl;
    mp = refl;
    mn = refl;
    verdict = not_carried factors past_limit.rows (pos 10436224) (extremes_from factors Moment past_limit.rows (record { low = pos 10436224; high = pos 10436224 }) lawful refl refl);
  };
}
