use Rattle.std.proofs.Common.{map, take}
use Rattle.sheet.specs.Ledger.{ledger}
use Rattle.runs.specs.Requests.{request}
use Rattle.runs.specs.Run.{Run}
use Rattle.runs.proofs.replays.replay_into.Given as goal

abbrev pub invariant-loop-i : goal.invariant-loop-i
invariant-loop-i g l = Run (map (request g.P.Part.pushes g.P.Part.pulls) (take l.i l.calls)) (take l.i l.replies) (ledger l.sheet)
