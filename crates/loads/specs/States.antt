-- Which limit states can be had.
use Rattle.std.specs.Prelude.{◌≡◌, ℕ, ◌-◌, ◌<◌, ◌≤◌, ◌⊎◌, List, [], Ok, Err, Result, slice_index_or}
use Rattle.faults.specs.declared.question.QuestionFault.{QuestionFault}
use Rattle.faults.specs.declared.question.QuestionFault.TheVariants.{UnlawfulFactors, UnknownState}
use Rattle.loads.specs.declared.limit_state.LimitState.{LimitState}
use Rattle.loads.specs.Factors.{Lawful, states}

-- of factors: a state with just these, refused where they are unlawful; as a state's own are lawful, so are those that are not refused
abbrev pub Makes : List (ℕ × ℕ) → Result LimitState QuestionFault → Type 0
Makes fs (Ok s) = s.factors ≡ fs
Makes fs (Err f) = (f ≡ UnlawfulFactors) × (Lawful fs → ⊥)

-- of a number: the published state, refused where it is not 1 to 9
abbrev pub Publishes : ℕ → Result LimitState QuestionFault → Type 0
Publishes n (Ok s) = (1 ≤ n) × (n ≤ 9) × (s.factors ≡ slice_index_or states (n - 1) [])
Publishes n (Err f) = (f ≡ UnknownState) × ((n ≡ 0) ⊎ (9 < n))
