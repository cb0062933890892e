-- The lines that a step writes.
use Rattle.std.specs.Prelude.{◌≡◌, ℕ, List, [], ◌∷◌, ◌++◌, length, drop, ℤ, codes, decimal}
use Rattle.std.specs.Fmt.{signed_decimal}
use Rattle.faults.specs.declared.layer.Layer.{Layer}
use Rattle.faults.specs.declared.layer.Layer.TheVariants.{Value, Sheet, Part, Question, Record}
use Rattle.faults.specs.declared.recorded.RecordFault.{RecordFault}
use Rattle.faults.specs.Numbers.{number, layer}

abbrev pub layer_name : Layer → List ℕ
layer_name Value = codes "value"
layer_name Sheet = codes "sheet"
layer_name Part = codes "part"
layer_name Question = codes "question"
layer_name Record = codes "record"

-- the byte 0A, which ends a line
abbrev pub line_end : List ℕ
line_end = 10 ∷ []

-- 6 low LOW high HIGH
abbrev pub extremes_line : ℤ → ℤ → List ℕ
extremes_line low high = codes "6 low " ++ (signed_decimal low ++ (codes " high " ++ (signed_decimal high ++ line_end)))

-- 7 level LEVEL moment MP mn MN verdict VERDICT
abbrev pub bending_line : ℕ → ℕ → ℕ → ℕ → List ℕ
bending_line level mp mn verdict =
    codes "7 level " ++ (decimal level ++ (codes " moment " ++ (decimal mp ++ (codes " mn " ++ (decimal mn ++ (codes " verdict " ++ (decimal verdict ++ line_end)))))))

-- 8 shear FORCE verdict VERDICT
abbrev pub shear_line : ℕ → ℕ → List ℕ
shear_line force verdict = codes "8 shear " ++ (decimal force ++ (codes " verdict " ++ (decimal verdict ++ line_end)))

-- fault at PLACE LAYER NUMBER
abbrev pub fault_line : ℕ → RecordFault → List ℕ
fault_line place f = codes "fault at " ++ (decimal place ++ (codes " " ++ (layer_name (layer f) ++ (codes " " ++ (decimal (number f) ++ line_end)))))

-- a line of n bytes at the front of a buffer, the rest untouched
pub record Wrote (line before : List ℕ) (n : ℕ) (left : List ℕ) : Type 0 where
  pub len : n ≡ length line
  pub after : left ≡ line ++ drop n before
