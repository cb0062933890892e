-- `loads::effect::from_sixteenths` meets its contract. Assumes nothing.
use Rattle.std.proofs.Common.{to_z-of_z}
use lib.Signed.{nat_abs-le}
use lib.Ieee.{binary64, div, of_int}
use Rattle.loads.specs.Values.{IsSixteenths}
use Rattle.loads.proofs.Sixteenths.{sixteen}
use Rattle.loads.proofs.FromSixteenths.{is_sixteenths, round_trip}
use Rattle.loads.proofs.effect.from_sixteenths.Goals as goal

pub returns : goal.returns
returns c =
    let z = c.args.n in
    let v : IsSixteenths z (div binary64 (of_int binary64 z) sixteen) = is_sixteenths z (nat_abs-le z c.ranges.n.sfits) in
    rw (c.from.ensures, to_z-of_z c.ranges.n) (record { value = v; back = round_trip z _ v })
