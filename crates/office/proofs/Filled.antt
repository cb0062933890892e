-- The whole transcript in the caller's buffer.
use Rattle.std.proofs.Common.{◌≡◌, ℕ, ◌+◌, ◌*◌, ◌<◌, ◌≤◌, ltb, List, ◌++◌, length, drop, MatchBool, sym, refl, ap, ◌∙◌, subst, le-ltb, lt-ltb}
use Rattle.record.specs.Transcripts.{Transcript}
use Rattle.office.specs.Filling.{Fills, RunsThrough}
use Rattle.office.proofs.OneTranscript.{one_transcript}

module _ (bytes before text : List ℕ) (n : ℕ) (t : Transcript bytes text) (len : n ≡ length text) (most : n ≤ 32 * (length bytes + 1)) where
  fills : (after : List ℕ) → MatchBool (ltb (length before) n) (after ≡ before) (after ≡ text ++ drop n before) → Fills bytes before n after
  fills after w = record { text = text; transcript = t; only = λ other o. one_transcript bytes other text o t; len = len; most = most; buffer = w }

  pub untouched : length before < n → Fills bytes before n before
  untouched h = fills before (subst (λ b. MatchBool b (before ≡ before) (before ≡ text ++ drop n before)) (sym (lt-ltb (length before) n h)) refl)

  pub filled : (after : List ℕ) → n ≤ length before → after ≡ text ++ drop n before → Fills bytes before n after
  filled after h e = fills after (subst (λ b. MatchBool b (after ≡ before) (after ≡ text ++ drop n before)) (sym (le-ltb (length before) n h)) e)

-- all lines were written, since they fit
pub enough : (bytes before : List ℕ) (n : ℕ) (after : List ℕ) → RunsThrough bytes before n after → n ≤ length before → Fills bytes before n after
enough bytes before n after r h = filled bytes before r.text n r.transcript r.lays.len r.most after h (r.lays.buffer h)

-- they were measured first
pub measured : (bytes a b c d : List ℕ) (m n : ℕ) → RunsThrough bytes a m b → RunsThrough bytes c n d → n ≡ m
measured bytes a b c d m n x y = y.lays.len ∙ ap length (one_transcript bytes y.text x.text y.transcript x.transcript) ∙ sym x.lays.len

pub too_short : (bytes a b before : List ℕ) (m : ℕ) → RunsThrough bytes a m b → length before < m → Fills bytes before m before
too_short bytes a b before m r h = untouched bytes before r.text m r.transcript r.lays.len r.most h
