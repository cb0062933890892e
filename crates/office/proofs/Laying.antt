-- Lines laid one behind another in a buffer.
use Rattle.std.proofs.Common.{◌≡◌, ℕ, ◌+◌, ◌*◌, ◌<◌, ◌≤◌, ◌⊎◌, List, [], ◌++◌, length, take, drop, sym, refl, ap, ◌∙◌, subst, inl, inr, append_assoc, codes, arith, length-append}
use borrow.Rule.Slice.PartMut.{put_mid}
use Rattle.std.proofs.lemmas.List.{take_at, drop-drop}
use Rattle.std.proofs.lemmas.Slice.{drop-append-drop}
use Rattle.sheet.specs.Ledger.{ledger}
use Rattle.record.specs.declared.reading.Reading.{Reading}
use Rattle.record.specs.Steps.{step_text}
use Rattle.record.specs.Readings.{Starts, ReadsLine}
use Rattle.record.proofs.Following.{front, fits, long, too_long_line}
use Rattle.record.proofs.Readings.{SoFar, so_far_none, so_far_more, so_far_all}
use Rattle.office.specs.Filling.{Puts, Adds, Lays, RunsThrough}
use Rattle.office.proofs.TwoBytes.{two_on}

pub put_fits : (xs line ys : List ℕ) (a k : ℕ) → ys ≡ line → k ≡ length line → a + length line ≤ length xs → Puts xs a line (put_mid a k xs ys)
put_fits xs line ys a k is long h = record {
  fits = λ _. ap (λ (z : List ℕ). take a xs ++ (z ++ drop k (drop a xs))) is ∙ ap (λ (z : List ℕ). take a xs ++ (line ++ z)) (drop-drop k a xs ∙ ap (λ (j : ℕ). drop (a + j) xs) long);
  fails = λ less. absurd (let z : ⊥ = omega arith in z);
}

pub adds : {r s : Reading} {buffer line : List ℕ} {w : ℕ} (before : List ℕ) (n : ℕ) (after : List ℕ) →
    ReadsLine r buffer w s line → length line ≤ 64 → Puts before n (take w line) after → Adds (ledger r.sheet) r.bytes.now r.place before n (ledger s.sheet) (s.place, n + w) after
adds {r} {s} {buffer} {line} {w} before n after l small p =
    let text = step_text r.place l.outcome in
    let q = subst (λ (x : List ℕ). Puts before n x after) (front l.wrote) p in
    let k = l.wrote.len in
    let f = fits l.wrote in
    let e : n + length text ≡ n + w = omega arith in
    record {
      outcome = l.outcome;
      advances = l.advances;
      short = omega arith;
      len = sym e;
      buffer = λ h. q.fits (omega arith) ∙ ap (λ (k : ℕ). take n before ++ (text ++ drop k before)) e;
    }

-- the lines so far, and how many bytes they can have
pub record Going (bytes before : List ℕ) (r : Reading) (n : ℕ) (out : List ℕ) : Type 0 where
  pub lines : List ℕ
  pub far : SoFar bytes r lines
  pub lays : Lays lines before n out
  pub inside : r.place < length bytes → n ≤ 32 * r.place
  pub most : n ≤ 32 * (length bytes + 1)

pub going_none : {bytes : List ℕ} {r : Reading} (before : List ℕ) → Starts bytes r → Going bytes before r 0 before
going_none {bytes} {r} before s = record {
  lines = [];
  far = so_far_none s refl;
  lays = record { len = refl; buffer = λ _. refl };
  inside = λ _. omega arith;
  most = omega arith;
}

module _ {bytes before : List ℕ} {r : Reading} {n : ℕ} {out : List ℕ} (g : Going bytes before r n out) where
  lays_more : (line after : List ℕ) (m : ℕ) → length out ≡ length before → m ≡ n + length line → (m ≤ length out → after ≡ take n out ++ (line ++ drop m out)) → Lays (g.lines ++ line) before m after
  lays_more line after m same is put =
      let k = g.lays.len in record {
        len = is ∙ ap (λ (x : ℕ). x + length line) k ∙ sym (length-append g.lines line);
        buffer = λ h.
            let here : out ≡ g.lines ++ drop n before = g.lays.buffer (omega arith) in
            let head : take n out ≡ g.lines = ap (take n) here ∙ take_at g.lines (drop n before) n (sym k) in
            let tail : drop m out ≡ drop m before = ap (drop m) here ∙ drop-append-drop n before g.lines m (omega arith) (sym k) in
            put (omega arith) ∙ (λ i. head i ++ (line ++ tail i)) ∙ sym (append_assoc g.lines line (drop m before));
      }

  pub going_more : {s : Reading} {buffer line : List ℕ} {w : ℕ} (after : List ℕ) → length out ≡ length before → ReadsLine r buffer w s line → length line ≤ 64 → Puts out n (take w line) after →
      Going bytes before s (n + w) after
  unfolding adds
  going_more {s} {buffer} {line} {w} after same l small p =
      let a = adds out n after l small p in
      let b = a.len in
      let d = a.short in
      let h = l.inside in
      let e = ap length g.far.reads in
      let i = g.inside (omega arith) in
      record {
        lines = g.lines ++ step_text r.place l.outcome;
        far = so_far_more g.far l refl;
        lays = lays_more (step_text r.place l.outcome) after (n + w) same b a.buffer;
        inside = λ less. go less (two_on (ledger r.sheet) r.bytes.now r.place (ledger s.sheet) s.place l.outcome h l.advances);
        most = omega arith;
      }
    where
      go : s.place < length bytes → (r.place + 2 ≤ s.place) ⊎ (s.place ≡ length r.bytes.now) → n + w ≤ 32 * s.place
      go less (inl on) =
          let a = adds out n after l small p in
          let b = a.len in
          let d = a.short in
          let h = l.inside in
          let e = ap length g.far.reads in
          let i = g.inside (omega arith) in omega arith
      go less (inr end) = let e = ap length g.far.reads in absurd (let z : ⊥ = omega arith in z)

  pub through : r.place ≡ length r.bytes.now → RunsThrough bytes before n out
  through end = record { text = g.lines; transcript = so_far_all g.far end; lays = g.lays; most = g.most }

-- a record over 65,536 bytes
pub too_long : (bytes before after : List ℕ) → 65536 < length bytes → Puts before 0 (codes "fault at 0 record 20\n") after → RunsThrough bytes before 21 after
too_long bytes before after h p = record {
  text = codes "fault at 0 record 20\n";
  transcript = long bytes (codes "fault at 0 record 20\n") h (sym too_long_line);
  lays = record { len = refl; buffer = λ room. p.fits room };
  most = omega arith;
}
