-- The parts of a conjunction of the program, as plain data.
use Rattle.std.proofs.Common.{◌≡◌, ap, refl, List, [], ◌∷◌, map}
use Rattle.st_form.specs.Plain.{plain, plain_list}
use Rattle.st_form.specs.declared.formulas.Form.{Form}
use Rattle.vc_generator.specs.Building.{listed}

pub listed_plain : (fs : List Form) → listed (plain_list fs) ≡ map plain fs
listed_plain [] = refl
listed_plain (f ∷ fs) = ap (λ gs. plain f ∷ gs) (listed_plain fs)
