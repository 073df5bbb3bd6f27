-- What a yes means. A condition holds where what is given doesn't hold or what is shown does; it is valid where it holds
-- in every control state with every store of whole numbers and truth values.
use Rattle.std.specs.Prelude.{◌≡◌, ℕ, Bool, false, IsTrue, ◌⊎◌, List, [], ◌∷◌, slice_index_or, Option, Some, None}
use Rattle.st_form.specs.Formula.{Formula, Formulas, Situation, truth, every_truth}
use Rattle.control_states.specs.declared.alternative.Alternative.{Alternative}
use Rattle.control_states.specs.Control.{ControlFacts, InControl}
use Rattle.control_states.specs.Place.{Follows}
use Rattle.farkas_check.specs.Problem.{Problem}

abbrev pub hold : Situation → Option Formulas → Bool
hold s None = false
hold s (Some fs) = every_truth s fs

-- a situation, whose control is in the control state m, meets a problem
pub record Meets (k : ControlFacts) (m : ℕ → Alternative) (s : Situation) (p : Problem) : Type 0 where
  pub control : InControl k m s.located
  pub cases : Follows k.components m p.cases
  pub truths : (v : ℕ) (b : Bool) → slice_index_or p.truths v None ≡ Some b → s.truths v ≡ b
  pub conjuncts : IsTrue (hold s p.conjuncts)

abbrev pub MeetsOne : ControlFacts → (ℕ → Alternative) → Situation → List Problem → Type 0
MeetsOne k m s [] = ⊥
MeetsOne k m s (p ∷ ps) = Meets k m s p ⊎ MeetsOne k m s ps

-- what is shown holds wherever what is given holds: in every control state, with every store of whole numbers and truth values
abbrev pub IsValidCondition : ControlFacts → Formula → Formula → Type 0
IsValidCondition k given shown =
    (m : ℕ → Alternative) (s : Situation) → InControl k m s.located → IsTrue (truth s given) → IsTrue (truth s shown)
