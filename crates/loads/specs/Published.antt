-- The numbers of the published limit states, and the factors that each has.
use Rattle.std.specs.Prelude.{◌≡◌, ℕ, ◌-◌, ◌<◌, ◌⊎◌, List, [], Result, MatchResult, slice_index_or}
use Rattle.faults.specs.declared.question.QuestionFault.{QuestionFault}
use Rattle.faults.specs.declared.question.QuestionFault.TheVariants.{UnknownState}
use Rattle.loads.specs.declared.published.PublishedState.{PublishedState}
use Rattle.loads.specs.declared.published.PublishedState.TheVariants.{StrengthI, StrengthII, StrengthIII, StrengthIV, StrengthV, ServiceI, ServiceII, FatigueI, FatigueII}
use Rattle.loads.specs.Factors.{states}

abbrev pub number_of : PublishedState → ℕ
number_of StrengthI = 1
number_of StrengthII = 2
number_of StrengthIII = 3
number_of StrengthIV = 4
number_of StrengthV = 5
number_of ServiceI = 6
number_of ServiceII = 7
number_of FatigueI = 8
number_of FatigueII = 9

-- the state of a number, refused where it is not 1 to 9
abbrev pub Numbered : ℕ → Result PublishedState QuestionFault → Type 0
Numbered n r = MatchResult r (λ s. number_of s ≡ n) (λ f. (f ≡ UnknownState) × ((n ≡ 0) ⊎ (9 < n)))

-- the row of the table
abbrev pub factors_of : PublishedState → List (ℕ × ℕ)
factors_of s = slice_index_or states (number_of s - 1) []
