-- `cover_plate::cover::CoverPlate::new` keeps the type's invariant.
use Rattle.std.proofs.Common.{arith}
use Rattle.cover_plate.proofs.cover.CoverPlate.new.Goals as goal

-- what the block's strips take together
pub invariant_of-result-clause-light : goal.invariant_of-result-clause-light
invariant_of-result-clause-light c =
    let made = c.in_ok-new.ensures in
    let light = rw (made.1, made.2, c.from.ensures, c.from-2.ensures) at c.in_ok-new.field-0.light in
    omega arith
