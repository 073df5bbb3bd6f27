-- What it is that a linear equation, and its formula, hold on the runs of a program.
use Rattle.std.specs.Prelude.{◌≡◌, ℕ, List, [], ◌∷◌, pos}
use Rattle.st_form.specs.Formula.{Formula, Situation}
use Rattle.observations.specs.Observation.{Observation, state_at}
use Rattle.st_program.specs.Tree.{Processes}
use Rattle.spl_semantics.specs.Runs.{IsRunOf}
use Rattle.control_facts.specs.Alternatives.{control_of}
use Rattle.temporal_goals.specs.Texts.{invariant}
use Rattle.obligation_laws.specs.Obligations.{HoldsOnRuns}
use Rattle.equation_laws.specs.Equations.{PlainEquation, worth}
use Rattle.equation_forms.specs.Formulas.{formula_of}

-- the equation is worth 0 in each state that is seen of each run
abbrev pub HoldsAlways : Processes → Formula → PlainEquation → Type 0
HoldsAlways p initial e = (o : Observation Situation) → IsRunOf p initial o → (k : ℕ) → worth e (state_at o k) ≡ pos 0

abbrev pub AllHold : Processes → Formula → List PlainEquation → Type 0
AllHold p initial [] = Unit {0}
AllHold p initial (e ∷ es) = HoldsAlways p initial e × AllHold p initial es

-- each equation's formula is invariant
abbrev pub AllInvariant : Processes → Formula → List PlainEquation → Type 0
AllInvariant p initial [] = Unit {0}
AllInvariant p initial (e ∷ es) = HoldsOnRuns p initial (invariant (formula_of (control_of p) e)) × AllInvariant p initial es
