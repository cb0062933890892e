-- `record::transcripts::transcript` meets its contract.
use Rattle.std.proofs.Common.{◌++◌, vec_items, codes, sym, ap, ◌∙◌}
use Rattle.record.proofs.Following.{long, too_long_line, front}
use Rattle.record.proofs.Readings.{so_far_more, so_far_all}
use Rattle.record.proofs.transcripts.transcript.Goals as goal

pub returns-in_default : goal.returns-in_default
returns-in_default c = long c.args.bytes.now (vec_items c.extend_from_slice.new.self) c.in_default.ensures.0
    (c.in_ok-extend_from_slice.ensures.items ∙ ap (λ x. x ++ codes "fault at 0 record 20\n") c.new-lines.ensures.items ∙ sym too_long_line)

pub loop-written-preserved : goal.loop-written-preserved
loop-written-preserved c =
    let l = c.in-Some.ensures in
    so_far_more c.loop-written.invariant l (c.in_ok-extend_from_slice-2.ensures.items ∙ ap (λ x. vec_items c.loop-written.lines ++ x) (front l.wrote))

pub returns : goal.returns
returns c = so_far_all c.loop-written.invariant c.in_default-next_line.ensures.0
