-- Shear studs.
use Rattle.std.specs.Prelude.{◌≡◌, ℕ, ◌*◌, ◌/◌, ◌≤◌, min, Ok, Err, Result}
use Rattle.faults.specs.declared.question.QuestionFault.{QuestionFault}
use Rattle.faults.specs.declared.question.QuestionFault.TheVariants.{StudLimits}
use Rattle.section.specs.Strips.{sum_to}
use Rattle.sheet.specs.Ledger.{Ledger}
use Rattle.sheet.specs.PlateStrips.{plate_strips}
use Rattle.questions.specs.declared.stud.Stud.{Stud}
use Rattle.questions.specs.declared.stud.StudAnswer.{StudAnswer}
use Rattle.questions.specs.Roots.{IsRoot}

-- area 100 to 1,000 thousandths of a square inch, Fu 50,000 to 80,000, f'c 2,000 to 10,000, Ec 1,000,000 to 10,000,000
pub record StudFits (s : Stud) : Type 0 where
  pub least_area : 100 ≤ s.area
  pub greatest_area : s.area ≤ 1000
  pub least_fu : 50000 ≤ s.fu
  pub greatest_fu : s.fu ≤ 80000
  pub least_fc : 2000 ≤ s.fc
  pub greatest_fc : s.fc ≤ 10000
  pub least_ec : 1000000 ≤ s.ec
  pub greatest_ec : s.ec ≤ 10000000

-- Q, the resistance of one stud in pounds: the lesser of a × s / 2,000, s the whole square root of f'c × Ec, and a × Fu / 1,000, each rounded down
abbrev pub IsStudForce : Stud → ℕ → Type 0
IsStudForce s q = (root : ℕ) × IsRoot (s.fc * s.ec) root × (q ≡ min (s.area * root / 2000) (s.area * s.fu / 1000))

-- P, the force to be carried over: the lesser of the part's total push and the plates' total pull
abbrev pub interface_force : Ledger → (ℕ → ℕ) → ℕ
interface_force L pushes = min (sum_to pushes 4096) (sum_to (plate_strips L.plates) 4096)

-- the least number of studs that carry it
pub record IsCount (q p n : ℕ) : Type 0 where
  pub enough : 100 * p ≤ 85 * q * 256 * n
  pub least : (m : ℕ) → 100 * p ≤ 85 * q * 256 * m → n ≤ m

abbrev pub AnswersStuds : Ledger → (ℕ → ℕ) → Stud → Result StudAnswer QuestionFault → Type 0
AnswersStuds L pushes s (Ok a) = StudFits s × IsStudForce s a.force × IsCount a.force (interface_force L pushes) a.count
AnswersStuds L pushes s (Err f) = (f ≡ StudLimits) × (StudFits s → ⊥)
