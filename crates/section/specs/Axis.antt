-- The plastic neutral axis.
use Rattle.std.specs.Prelude.{◌≡◌, ℕ, ◌+◌, ◌-◌, ◌<◌, ◌≤◌, Ok, Err, Result}
use Rattle.faults.specs.declared.question.QuestionFault.{QuestionFault}
use Rattle.faults.specs.declared.question.QuestionFault.TheVariants.{NoMoment}
use Rattle.section.specs.declared.axis.Axis.{Axis}
use Rattle.section.specs.declared.sense.Sense.{Sense}
use Rattle.section.specs.declared.resultants.Resultants.{Resultants}
use Rattle.section.specs.Strips.{moment_in, imbalance_in}

-- the first of the levels 0 to 4,096 with the smallest moment, where no level has a smaller imbalance
pub record IsAxis (sense : Sense) (pushes pulls : ℕ → ℕ) (axis : Axis) : Type 0 where
  pub within : axis.level ≤ 4096
  pub moment_is : axis.moment ≡ moment_in sense pushes pulls axis.level
  pub imbalance_is : axis.imbalance ≡ imbalance_in sense pushes pulls axis.level
  pub least : (k : ℕ) → k ≤ 4096 → axis.moment ≤ moment_in sense pushes pulls k
  pub first : (k : ℕ) → k < axis.level → axis.moment < moment_in sense pushes pulls k
  pub even : (k : ℕ) → k ≤ 4096 → axis.imbalance ≤ imbalance_in sense pushes pulls k

-- some level has no moment
pub record LacksMoment (sense : Sense) (pushes pulls : ℕ → ℕ) : Type 0 where
  pub level : ℕ
  pub within : level ≤ 4096
  pub none : moment_in sense pushes pulls level ≡ 0

-- the axis, where its moment is above 0; refused where some level has no moment
abbrev pub AxisAnswer : Sense → (ℕ → ℕ) → (ℕ → ℕ) → Result Axis QuestionFault → Type 0
AxisAnswer sense pushes pulls (Ok axis) = IsAxis sense pushes pulls axis × (0 < axis.moment)
AxisAnswer sense pushes pulls (Err fault) = (fault ≡ NoMoment) × LacksMoment sense pushes pulls

-- the answer of one level's resultants
abbrev pub Judged : ℕ → Resultants → Result Axis QuestionFault → Type 0
Judged level at (Ok axis) = (0 < at.moment) × (axis ≡ record { level = level; moment = at.moment; imbalance = (at.above - at.below) + (at.below - at.above) })
Judged level at (Err fault) = (fault ≡ NoMoment) × (at.moment ≡ 0)
