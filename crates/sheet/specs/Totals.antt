-- Sums over the effect slots, row by row.
use Rattle.std.specs.Prelude.{ℕ, ◌^◌, ◌≤◌, cond, List, [], ◌∷◌, ℤ, pos, ◌+ℤ◌, Some, None, Option, ◌==◌, unsigned_abs}
use Rattle.loads.specs.declared.load_type.LoadType.{LoadType}
use Rattle.loads.specs.declared.load_type.LoadType.TheVariants.{Dc, Dw, Ll, Ws}
use Rattle.loads.specs.declared.kind.EffectKind.{EffectKind}
use Rattle.loads.specs.Kinds.{same_kind}
use Rattle.loads.specs.Factors.{index}
use Rattle.sheet.specs.declared.row.Row.{Row}
use Rattle.sheet.specs.Slots.{content}

abbrev pub total : {X : Type 0} → (X → ℤ) → List X → ℤ
total f [] = pos 0
total f (x ∷ xs) = f x +ℤ total f xs

-- a row's sixteenths, where it is of this kind
abbrev pub of_kind : EffectKind → Row → ℤ
of_kind k r = cond (same_kind r.kind k) r.sixteenths (pos 0)

-- what a slot adds to the sum of one load type and kind
abbrev pub adds : LoadType → EffectKind → Option Row → ℤ
adds t k None = pos 0
adds t k (Some r) = cond (index r.load == index t) (of_kind k r) (pos 0)

-- the sum of one load type's standing rows of one kind
abbrev pub type_sum : LoadType → EffectKind → List (Option Row) → ℤ
type_sum t k rows = total (adds t k) rows

-- the four sums of one kind, by the load type's index
abbrev pub type_sums : EffectKind → List (Option Row) → List ℤ
type_sums k rows = type_sum Dc k rows ∷ type_sum Dw k rows ∷ type_sum Ll k rows ∷ type_sum Ws k rows ∷ []

abbrev pub sixteenths_in : Option Row → ℤ
sixteenths_in None = pos 0
sixteenths_in (Some r) = r.sixteenths

-- every standing row's sixteenths are at most 2 ^ 31 in magnitude
abbrev pub Small : List (Option Row) → Type 0
Small rows = (i : ℕ) → unsigned_abs (sixteenths_in (content rows i)) ≤ 2 ^ 31
