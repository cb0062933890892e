use Rattle.std.proofs.Common.{map, take, vec_items}
use Rattle.sheet.specs.Ledger.{ledger}
use Rattle.runs.specs.Requests.{request}
use Rattle.runs.specs.Run.{Run}
use Rattle.runs.proofs.replays.replay.Given as goal

abbrev pub invariant-loop-call : goal.invariant-loop-call
invariant-loop-call g l = Run (map (request g.P.Part.pushes g.P.Part.pulls) (take l.call-index l.calls)) (vec_items l.replies) (ledger l.sheet)
