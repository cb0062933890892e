use Rattle.std.proofs.Common.{◌≡◌, ◌+◌, ◌-◌, ◌^◌, min, ◌++◌, map, take, drop}
use Rattle.sheet.proofs.measures.Measures.lower.Given as goal

abbrev pub invariant-loop-top : goal.invariant-loop-top
invariant-loop-top l = l.top-items ≡ map (λ t. min (t + l.n) (2 ^ 16 - 1)) (take l.top-index l.initial.top-items) ++ drop l.top-index l.initial.top-items
