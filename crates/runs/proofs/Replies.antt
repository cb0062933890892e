-- A run of no calls, and one reply more of a run.
use Rattle.std.proofs.Common.{◌≡◌, ℕ, ◌+◌, ◌<◌, List, [], ◌∷◌, ◌++◌, map, length, get_or, take, sym, ap, ◌∙◌, subst}
use Rattle.std.proofs.lemmas.List.{take_all, take_more, take_more_set, map-append}
use Rattle.sheet.specs.Ledger.{Ledger, blank}
use Rattle.runs.specs.Requests.{Request}
use Rattle.runs.specs.Run.{Outcome, Run, opened, more, Brings}

-- a new sheet
pub run_none : (rs : List Outcome) (L : Ledger) → rs ≡ [] → L ≡ blank → Run [] rs L
run_none rs L e is = rw (e, is) opened

-- the requests of the calls up to the next one
pub run_more : {X : Type 0} (f : X → Request) (calls : List X) (i : ℕ) (x : X) (rs ss : List Outcome) (L : Ledger) (r : Outcome) (M : Ledger) → i < length calls → x ≡ get_or calls i x → ss ≡ rs ++ r ∷ [] →
    Run (map f (take i calls)) rs L → Brings L (f x) r M → Run (map f (take (i + 1) calls)) ss M
run_more f calls i x rs ss L r M h here e run b =
    let next : take (i + 1) calls ≡ take i calls ++ x ∷ [] = take_more calls i x h ∙ ap (λ y. take i calls ++ y ∷ []) (sym here) in
    subst (λ qs. Run qs ss M) (sym (ap (map f) next ∙ map-append f (take i calls) (x ∷ [])))
    (subst (λ ts. Run (map f (take i calls) ++ f x ∷ []) ts M) (sym e) (more (f x) r M run b))

-- what a loop over the calls begins with, goes on by and ends with
pub ruleset run_steps = (run_none, run_more, take_all, take_more_set)
