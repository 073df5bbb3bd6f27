-- A case is true where all its parts are.
use Rattle.std.proofs.Common.{◌≡◌, Bool, true, false, List, [], ◌∷◌, refl, sym, ◌∙◌}
use Rattle.std.specs.Prelude.{◌&&◌}
use Rattle.st_form.specs.Formula.{Situation, Formula, truth, every_truth, formulas}
use Rattle.st_form.specs.Shared.{together}

and-true : (b : Bool) → b ≡ (b && true)
and-true true = refl
and-true false = refl

pub together-truth : (s : Situation) (fs : List Formula) → truth s (together fs) ≡ every_truth s (formulas fs)
together-truth s [] = refl
together-truth s (f ∷ []) = and-true (truth s f)
together-truth s (f ∷ g ∷ fs) = refl
