-- Factored sums of the standing rows, and their extremes over all choices of load factors.
use Rattle.std.specs.Prelude.{◌≡◌, ℕ, ◌≤◌, cond, List, ℤ, pos, ◌*ℤ◌, ◌≤ℤ◌, Some, None, Option}
use Rattle.loads.specs.declared.load_type.LoadType.{LoadType}
use Rattle.loads.specs.declared.kind.EffectKind.{EffectKind}
use Rattle.loads.specs.Kinds.{same_kind}
use Rattle.loads.specs.Factors.{range}
use Rattle.sheet.specs.declared.row.Row.{Row}
use Rattle.sheet.specs.Totals.{total}
use Rattle.questions.specs.declared.answers.Extremes.{Extremes}

-- a choice: one whole factor for each load type, used on all its rows
abbrev pub Choice : Type 0
Choice = LoadType → ℕ

-- each within its type's range
abbrev pub Chosen : List (ℕ × ℕ) → Choice → Type 0
Chosen factors choice = (t : LoadType) → ((range factors t).0 ≤ choice t) × (choice t ≤ (range factors t).1)

abbrev pub times : ℕ → ℤ → ℤ
times n z = pos n *ℤ z

-- a slot's share of the factored sum: factor × sixteenths of a row of this kind, in hundredths of a sixteenth
abbrev pub factored_slot : Choice → EffectKind → Option Row → ℤ
factored_slot choice k None = pos 0
factored_slot choice k (Some r) = cond (same_kind r.kind k) (times (choice r.load) r.sixteenths) (pos 0)

-- the factored sum, row by row
abbrev pub factored : Choice → EffectKind → List (Option Row) → ℤ
factored choice k rows = total (factored_slot choice k) rows

-- the extremes: every choice's factored sum lies between them, and some choice meets each
pub record IsExtremes (factors : List (ℕ × ℕ)) (k : EffectKind) (rows : List (Option Row)) (e : Extremes) : Type 0 where
  pub between : (choice : Choice) → Chosen factors choice → (e.low ≤ℤ factored choice k rows) × (factored choice k rows ≤ℤ e.high)
  pub low_met : (choice : Choice) × Chosen factors choice × (factored choice k rows ≡ e.low)
  pub high_met : (choice : Choice) × Chosen factors choice × (factored choice k rows ≡ e.high)

-- extremes that are the only ones of these rows
abbrev pub OnlyExtremes : List (ℕ × ℕ) → EffectKind → List (Option Row) → Extremes → Type 0
OnlyExtremes factors k rows r = (e : Extremes) → IsExtremes factors k rows e → e ≡ r
