-- What is asked of the standing plates: the first of a role.
use Rattle.std.proofs.Common.{◌≡◌, cond, List, [], ◌∷◌, Some, None, Option, refl, ap}
use Rattle.std.specs.List.{find}
use denote.Enum.Bare.{sameb}
use Rattle.sheet.specs.contracts.plate.Role.{the_type}
use Rattle.sheet.specs.declared.plate.Role.{Role}
use Rattle.sheet.specs.declared.plate.Role.TheVariants.{TopFlange, Web, BottomFlange, Other}
use Rattle.sheet.specs.declared.plate.Plate.{Plate}
use Rattle.sheet.specs.Plates.{same_role, standing}
use Rattle.sheet.proofs.Standing.{plates_in}

-- roles are equal where their numbers are
pub role_test : (a b : Role) → sameb the_type a b ≡ same_role a b
role_test TopFlange TopFlange = refl
role_test TopFlange Web = refl
role_test TopFlange BottomFlange = refl
role_test TopFlange Other = refl
role_test Web TopFlange = refl
role_test Web Web = refl
role_test Web BottomFlange = refl
role_test Web Other = refl
role_test BottomFlange TopFlange = refl
role_test BottomFlange Web = refl
role_test BottomFlange BottomFlange = refl
role_test BottomFlange Other = refl
role_test Other TopFlange = refl
role_test Other Web = refl
role_test Other BottomFlange = refl
role_test Other Other = refl

-- the first of a role among the plates in the slots
pub standing_found : (r : Role) (xs : List (Option Plate)) → find (λ p. same_role p.role r) (plates_in xs) ≡ standing r xs
standing_found r [] = refl
standing_found r (None ∷ xs) = standing_found r xs
standing_found r (Some p ∷ xs) = ap (cond (same_role p.role r) (Some p)) (standing_found r xs)
