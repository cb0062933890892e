-- A record's transcript in the caller's buffer.
use Rattle.std.specs.Prelude.{◌≡◌, ℕ, ◌+◌, ◌*◌, ◌<◌, ◌≤◌, List, ◌++◌, length, take, drop, MatchBool, nat_lt}
use Rattle.sheet.specs.Ledger.{Ledger}
use Rattle.record.specs.Runs.{Outcome}
use Rattle.record.specs.Steps.{Advances, step_text}
use Rattle.record.specs.Transcripts.{Transcript}

-- the record's one transcript, of n bytes: at the front of the buffer where it fits, with the rest untouched; where it does not fit, all of the buffer is untouched. A buffer of `most` bytes is long enough
pub record Fills (bytes before : List ℕ) (n : ℕ) (after : List ℕ) : Type 0 where
  pub text : List ℕ
  pub transcript : Transcript bytes text
  pub only : (other : List ℕ) → Transcript bytes other → other ≡ text
  pub len : n ≡ length text
  pub most : n ≤ 32 * (length bytes + 1)
  pub buffer : MatchBool (nat_lt (length before) n) (after ≡ before) (after ≡ text ++ drop n before)

-- a line at a place of the buffer, the rest untouched; all of it where the line does not fit
pub record Puts (before : List ℕ) (at : ℕ) (line after : List ℕ) : Type 0 where
  pub fits : at + length line ≤ length before → after ≡ take at before ++ (line ++ drop (at + length line) before)
  pub fails : length before < at + length line → after ≡ before

-- one step more: the next place, and the number of bytes with this step's line, which stands behind those before it where all fit
pub record Adds (L : Ledger) (bytes : List ℕ) (place : ℕ) (before : List ℕ) (n : ℕ) (M : Ledger) (r : ℕ × ℕ) (after : List ℕ) : Type 0 where
  pub outcome : Outcome
  pub advances : Advances L bytes place M r.0 outcome
  pub short : length (step_text place outcome) ≤ 64
  pub len : r.1 ≡ n + length (step_text place outcome)
  pub buffer : r.1 ≤ length before → after ≡ take n before ++ (step_text place outcome ++ drop r.1 before)

-- lines of n bytes, at the front of the buffer where all fit; of a buffer that is too short nothing is said
pub record Lays (lines before : List ℕ) (n : ℕ) (after : List ℕ) : Type 0 where
  pub len : n ≡ length lines
  pub buffer : n ≤ length before → after ≡ lines ++ drop n before

-- the lines of all steps of a record, with the most bytes that they can have
pub record RunsThrough (bytes before : List ℕ) (n : ℕ) (after : List ℕ) : Type 0 where
  pub text : List ℕ
  pub transcript : Transcript bytes text
  pub lays : Lays text before n after
  pub most : n ≤ 32 * (length bytes + 1)
