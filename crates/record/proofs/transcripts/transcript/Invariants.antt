use Rattle.std.proofs.Common.{◌-◌, length, vec_items}
use Rattle.record.proofs.Readings.{SoFar}
use Rattle.record.proofs.transcripts.transcript.Given as goal

abbrev pub invariant-loop-written : goal.invariant-loop-written
invariant-loop-written l = SoFar l.bytes l.reading (vec_items l.lines)

abbrev pub decreases-loop-written : goal.decreases-loop-written
decreases-loop-written l = length l.reading.bytes.now - l.reading.place
