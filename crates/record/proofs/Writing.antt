-- One text after another, and a number's last two digits after its front.
use Rattle.std.proofs.Common.{◌≡◌, ℕ, ◌+◌, ◌/◌, ◌%◌, ◌^◌, ◌<◌, ◌≤◌, List, [], ◌∷◌, ◌++◌, length, take, drop, ℤ, decimal, sym, ap, ◌∙◌, subst, append_assoc, arith, length-append, take-append-drop, to_z-of_z, w64, SFits, to_z, of_z}
use Rattle.std.specs.Fmt.{signed_decimal}
use Rattle.std.proofs.lemmas.Fmt.{decimal_digit, decimal_step}
use Rattle.std.proofs.lemmas.List.{drop-drop}
use Rattle.record.specs.declared.line_writer.LineWriter.{LineWriter}
use Rattle.record.specs.Writing.{Adds, written, room}

-- one text and then another is both
pub then : {p q r : LineWriter} {s t : List ℕ} → Adds p s q → Adds q t r → Adds p (s ++ t) r
then {p} {q} {r} {s} {t} a b = record {
  len = let e = a.len in let f = b.len in omega (arith, length-append s t);
  size = b.size ∙ a.size;
  front = b.front ∙ ap (λ (x : List ℕ). x ++ t) a.front ∙ append_assoc (written p) s t;
  back = b.back ∙ ap (drop (length t)) a.back ∙ drop-drop (length t) (length s) (room p) ∙ ap (λ (n : ℕ). drop n (room p)) (sym (length-append s t));
}

pub adds_is : {p q : LineWriter} {s t : List ℕ} → s ≡ t → Adds p s q → Adds p t q
adds_is {p} {q} e a = subst (λ (x : List ℕ). Adds p x q) e a

-- a text at the front, as the whole buffer
pub ends : {p q : LineWriter} {s : List ℕ} → p.len ≡ 0 → Adds p s q → q.len ≡ length s
ends e a = let f = a.len in omega arith

pub whole : {p q : LineWriter} {s : List ℕ} → p.len ≡ 0 → Adds p s q → q.line.now ≡ s ++ drop q.len p.line.now
whole {p} {q} {s} e a =
    sym (take-append-drop q.len q.line.now)
    ∙ ap (λ (x : List ℕ). x ++ room q) (a.front ∙ ap (λ (n : ℕ). take n p.line.now ++ s) e)
    ∙ ap (λ (x : List ℕ). s ++ x) (a.back ∙ ap (λ (n : ℕ). drop (length s) (drop n p.line.now)) e ∙ ap (λ (n : ℕ). drop n p.line.now) (sym (ends e a)))

-- digits
abbrev pub pair_of : ℕ → List ℕ
pair_of n = (48 + n / 10) ∷ ((48 + n % 10) ∷ [])

pub decimal_pair : (n : ℕ) → 10 ≤ n → n < 100 → decimal n ≡ pair_of n
decimal_pair n h l = decimal_step n h (omega arith) ∙ ap (λ (x : List ℕ). x ++ (48 + n % 10) ∷ []) (decimal_digit (n / 10) (omega arith))

pub decimal_pairs : (n : ℕ) → 100 ≤ n → n < 2 ^ 64 → decimal n ≡ decimal (n / 100) ++ pair_of (n % 100)
decimal_pairs n h f =
    let front : n / 10 / 10 ≡ n / 100 = omega arith in
    let tens : n / 10 % 10 ≡ n % 100 / 10 = omega arith in
    let ones : n % 10 ≡ n % 100 % 10 = omega arith in
    decimal_step n (omega arith) f
    ∙ ap (λ (x : List ℕ). x ++ (48 + n % 10) ∷ []) (decimal_step (n / 10) (omega arith) (omega arith))
    ∙ append_assoc (decimal (n / 10 / 10)) ((48 + n / 10 % 10) ∷ []) ((48 + n % 10) ∷ [])
    ∙ ap (λ (m : ℕ). decimal m ++ ((48 + n / 10 % 10) ∷ ((48 + n % 10) ∷ []))) front
    ∙ ap (λ (d : ℕ). decimal (n / 100) ++ ((48 + d) ∷ ((48 + n % 10) ∷ []))) tens
    ∙ ap (λ (d : ℕ). decimal (n / 100) ++ ((48 + n % 100 / 10) ∷ ((48 + d) ∷ []))) ones

pub length_pair : (n : ℕ) → 10 ≤ n → n < 100 → length (decimal n) ≡ 2
length_pair n h l = ap length (decimal_pair n h l)

pub length_pairs : (n : ℕ) → 100 ≤ n → n < 2 ^ 64 → length (decimal n) ≡ length (decimal (n / 100)) + 2
length_pairs n h f = ap length (decimal_pairs n h f) ∙ length-append (decimal (n / 100)) (pair_of (n % 100))

pub adds_digit : {p q : LineWriter} (n : ℕ) → n < 10 → Adds p ((48 + n) ∷ []) q → Adds p (decimal n) q
adds_digit n h a = adds_is (sym (decimal_digit n h)) a

pub adds_pair : {p q : LineWriter} (n : ℕ) → 10 ≤ n → n < 100 → Adds p (pair_of n) q → Adds p (decimal n) q
adds_pair n h l a = adds_is (sym (decimal_pair n h l)) a

pub adds_pairs : {p q r : LineWriter} (n : ℕ) → 100 ≤ n → n < 2 ^ 64 → Adds p (decimal (n / 100)) q → Adds q (pair_of (n % 100)) r → Adds p (decimal n) r
adds_pairs n h f a b = adds_is (sym (decimal_pairs n h f)) (then a b)

-- a signed parameter of 64 bits, as a call has it
pub adds-signed : {p q : LineWriter} {z : ℤ} → SFits w64 z → Adds p (signed_decimal (to_z w64 (of_z w64 z))) q → Adds p (signed_decimal z) q
adds-signed f a = adds_is (ap signed_decimal (to_z-of_z f)) a
