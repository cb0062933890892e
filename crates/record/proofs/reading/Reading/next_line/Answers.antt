-- `record::reading::Reading::next_line` meets its contract.
use Rattle.std.proofs.Common.{◌<◌, length, refl, arith}
use Rattle.sheet.specs.Ledger.{ledger}
use Rattle.record.proofs.Following.{forward, taken}
use Rattle.record.proofs.reading.Reading.next_line.Goals as goal

pub returns : goal.returns
returns c =
    let r = c.args.self.now in
    let inside : r.place < length r.bytes.now = let w = r.within in omega arith in
    let m = c.step-stepped.ensures in
    let t = taken r.few (omega arith) m in
    record {
      inside = inside;
      reads = refl;
      step = c.step-stepped.result;
      makes = m;
      place = refl;
      line = refl;
      outcome = t.outcome;
      advances = t.advances;
      forward = (forward (ledger r.sheet) r.bytes.now r.place (ledger c.step-stepped.new.sheet) c.step-stepped.result.place t.outcome inside t.advances).0;
      wrote = t.wrote;
    }
