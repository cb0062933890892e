use Rattle.std.proofs.Common.{◌-◌}
use Rattle.section.specs.Strips.{◌⊕◌}
use Rattle.section.proofs.Search.{Narrowed, ToldBefore}
use Rattle.section.proofs.axes.plastic_axis.Given as goal

abbrev pub invariant-loop-low : goal.invariant-loop-low
invariant-loop-low g l =
    let pushes = g.P.Part.pushes l.first ⊕ g.Q.Part.pushes l.second in
    let pulls = g.P.Part.pulls l.first ⊕ g.Q.Part.pulls l.second in
    record {
      narrowed : Narrowed l.sense pushes pulls l.low l.high;
      told : ToldBefore l.sense pushes pulls l.low l.before;
    }

abbrev pub decreases-loop-low : goal.decreases-loop-low
decreases-loop-low g l = l.high - l.low
