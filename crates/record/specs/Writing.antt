-- What has been written into a line buffer.
use Rattle.std.specs.Prelude.{◌≡◌, ℕ, ◌+◌, List, ◌++◌, length, take, drop}
use Rattle.record.specs.declared.line_writer.LineWriter.{LineWriter}

abbrev pub written : LineWriter → List ℕ
written p = take p.len p.line.now

abbrev pub room : LineWriter → List ℕ
room p = drop p.len p.line.now

-- q is p after s was written
pub record Adds (p : LineWriter) (s : List ℕ) (q : LineWriter) : Type 0 where
  pub len : q.len ≡ p.len + length s
  pub size : length q.line.now ≡ length p.line.now
  pub front : written q ≡ written p ++ s
  pub back : room q ≡ drop (length s) (room p)
