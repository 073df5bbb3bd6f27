-- A program and a transition system that correspond: from the image of each state of a run of the program, the steps of the
-- system are the images of the program's steps (Manna and Pnueli, *Temporal Verification of Reactive Systems: Safety*, section
-- 0.3, where this is how programs are given a meaning; here both are defined, and compared).
use Rattle.std.specs.Prelude.{◌≡◌, ℕ, suc, map, IsTrue}
use Rattle.st_form.specs.Formula.{Formula, Situation}
use Rattle.st_form.specs.Formula as formulas
use Rattle.st_form.specs.declared.conditions.TransName.{TransName}
use Rattle.st_program.specs.Tree.{Processes}
use Rattle.transition_system.specs.Systems.{System}
use Rattle.transition_system.specs.Meaning.{Goes}
use Rattle.spl_semantics.specs.Names.{all_names}
use Rattle.spl_semantics.specs.Runs.{State, LeadsBy, IsFirst, Reached, image}

-- a step of a transition with this name, by its mode with this number; idling has mode 1
pub record GoesBy (system : System) (s : Situation) (name : TransName) (mode : ℕ) (t : Situation) : Type 0 where
  pub number : ℕ
  pub step : Goes system s number t
  pub named : step.transition.name ≡ name
  pub moded : suc step.place ≡ mode

pub record Corresponds (p : Processes) (initial : Formula) (system : System) : Type 0 where
  -- the transitions are the program's, in order, each with its fairness
  pub names : map (λ t. (t.name, t.fairness)) system.transitions ≡ all_names p
  -- the image of a first state meets the initial form
  pub begins : (s : State) → IsFirst p initial s → IsTrue (formulas.truth (image p s) system.initial)
  -- each step of the program is one of the transition with that name, by the mode with that number, between the images
  pub follows : (s t : State) (name : TransName) (mode : ℕ) → Reached p initial s → LeadsBy p s name mode t
      → GoesBy system (image p s) name mode (image p t)
  -- each step of a mode of a transition from an image is the image of a step of the program with that name and mode
  pub follows_back : (s : State) (name : TransName) (mode : ℕ) (t : Situation) → Reached p initial s → GoesBy system (image p s) name mode t
      → (u : State) × LeadsBy p s name mode u × (image p u ≡ t)
