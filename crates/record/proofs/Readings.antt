-- The lines so far of a record that is being read.
use Rattle.std.proofs.Common.{◌≡◌, ℕ, ◌<◌, ◌≤◌, List, [], ◌++◌, length, sym, ap, ◌∙◌, subst}
use Rattle.sheet.specs.Ledger.{ledger, blank}
use Rattle.record.specs.declared.reading.Reading.{Reading}
use Rattle.record.specs.Steps.{Advances, step_text}
use Rattle.record.specs.Transcripts.{Reads, Transcript}
use Rattle.record.specs.Readings.{Starts, ReadsLine}
use Rattle.record.proofs.Following.{Begun, begun_more, whole}

pub record SoFar (bytes : List ℕ) (r : Reading) (lines : List ℕ) : Type 0 where
  pub reads : r.bytes.now ≡ bytes
  pub begun : Begun bytes (ledger r.sheet) r.place lines

pub so_far_none : {bytes lines : List ℕ} {r : Reading} → Starts bytes r → lines ≡ [] → SoFar bytes r lines
so_far_none {bytes} {lines} {r} s e = record {
  reads = s.reads;
  begun = λ text x.
      subst (λ (l : List ℕ). Reads bytes blank 0 (l ++ text)) (sym e)
      (subst (λ (p : ℕ). Reads bytes blank p text) s.place (subst (λ L. Reads bytes L r.place text) s.sheet x));
}

pub so_far_more : {bytes lines before line after : List ℕ} {r s : Reading} {n : ℕ} → SoFar bytes r lines → (l : ReadsLine r before n s line) → after ≡ lines ++ step_text r.place l.outcome → SoFar bytes s after
so_far_more {bytes} {lines} {before} {line} {after} {r} {s} {n} f l e = record {
  reads = l.reads ∙ f.reads;
  begun = begun_more bytes (ledger r.sheet) r.place lines f.begun (ledger s.sheet) s.place after (subst (λ (b : List ℕ). r.place < length b) f.reads l.inside) (record {
    outcome = l.outcome;
    advances = subst (λ (b : List ℕ). Advances (ledger r.sheet) b r.place (ledger s.sheet) s.place l.outcome) f.reads l.advances;
    lines = e;
  });
}

pub so_far_all : {bytes lines : List ℕ} {r : Reading} → SoFar bytes r lines → r.place ≡ length r.bytes.now → Transcript bytes lines
so_far_all {bytes} {lines} {r} f at =
    whole bytes (ledger r.sheet) r.place lines f.begun (subst (λ (b : List ℕ). length b ≤ 65536) f.reads r.few) (at ∙ ap length f.reads)
