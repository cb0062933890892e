-- The plates' strips, one slot after another.
use Rattle.std.proofs.Common.{◌≡◌, ℕ, ◌+◌, ◌<◌, List, [], ◌∷◌, ◌++◌, length, get_or, take, None, Option, ap, ◌∙◌, arith}
use mathlib.Core.Path.{fun_ext}
use Rattle.std.proofs.lemmas.List.{take_more}
use Rattle.section.specs.Strips.{◌⊕◌}
use Rattle.sheet.specs.declared.plate.Plate.{Plate}
use Rattle.sheet.specs.PlateStrips.{slot_strips, plate_strips}

push : (xs : List (Option Plate)) (x : Option Plate) (i : ℕ) → plate_strips (xs ++ x ∷ []) i ≡ plate_strips xs i + slot_strips x i
push [] x i = omega arith
push (y ∷ ys) x i = let r = push ys x i in omega arith

pub next : (xs : List (Option Plate)) (i : ℕ) → i < length xs → plate_strips (take (i + 1) xs) ≡ (plate_strips (take i xs) ⊕ slot_strips (get_or xs i None))
next xs i h = ap plate_strips (take_more xs i None h) ∙ fun_ext (λ j. push (take i xs) (get_or xs i None) j)
