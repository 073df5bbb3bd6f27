-- Bisimulations between a program and a transition system, by names and modes of steps (Milner, *Communication and
-- Concurrency*, section 4.1), and the one by which programs get their meaning as systems.
use Rattle.std.specs.Prelude.{◌≡◌, ℕ, IsTrue}
use Rattle.st_form.specs.Formula.{Formula, Situation, truth}
use Rattle.st_form.specs.declared.conditions.TransName.{TransName}
use Rattle.st_program.specs.Tree.{Processes}
use Rattle.transition_system.specs.Systems.{System}
use Rattle.spl_semantics.specs.Runs.{State, LeadsBy, IsFirst, Reached, image}
use Rattle.spl_translation.specs.Correspondence.{GoesBy}

-- related states have the same steps, by name and mode, and these lead to related states
pub record IsBisimulation (p : Processes) (system : System) (Related : State → Situation → Type 0) : Type 0 where
  pub forth : (s t : State) (x : Situation) (name : TransName) (mode : ℕ) → Related s x → LeadsBy p s name mode t
      → (y : Situation) × GoesBy system x name mode y × Related t y
  pub back : (s : State) (x y : Situation) (name : TransName) (mode : ℕ) → Related s x → GoesBy system x name mode y
      → (t : State) × LeadsBy p s name mode t × Related t y

-- a state of a run of the program, and its image
abbrev pub IsImage : Processes → Formula → State → Situation → Type 0
IsImage p initial s x = Reached p initial s × (x ≡ image p s)

-- the image is a bisimulation, and the images of first states are states in which the system may begin
pub record IsBisimilar (p : Processes) (initial : Formula) (system : System) : Type 0 where
  pub begins : (s : State) → IsFirst p initial s → IsImage p initial s (image p s) × IsTrue (truth (image p s) system.initial)
  pub steps : IsBisimulation p system (IsImage p initial)
