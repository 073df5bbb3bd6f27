-- What `invariants` says of a program that ends with status 0.
use Rattle.std.specs.Prelude.{◌≡◌, ℕ, List, [], ◌∷◌, Some}
use Rattle.st_form.specs.Formula.{Situation, truth, is_zero}
use Rattle.control_states.specs.declared.alternative.Alternative.{Alternative}
use Rattle.control_states.specs.Control.{InControl}
use Rattle.control_facts.specs.Alternatives.{control_of}
use Rattle.spl_typer.specs.Programs.{Typed}
use Rattle.equation_laws.specs.Equations as equations
use Rattle.equation_laws.specs.Equations.{PlainEquation, worth}
use Rattle.equation_forms.specs.Formulas.{formula_of}
use Rattle.equation_runs.specs.Holding.{AllHold}
use Rattle.step_words.specs.Request.{finds}
use Rattle.step_plan.specs.declared.status.Status.TheVariants.{Proved}
use Rattle.step_plan.specs.Outcome.{Outcome}
use Rattle.step_plan.specs.Plan.{Told, EndsIn}
use Rattle.step_run.specs.Conditions.{system_of}
use Rattle.step_run.specs.WellFormed.{IsProgram}
use Rattle.step_run.specs.Plans.{plan_of}
use Rattle.found_equations.specs.Lines.{AreLines}

-- in every control state, with every store, the formula of each equation is true exactly where the equation holds
abbrev pub AreExact : Typed → List PlainEquation → Type 0
AreExact p [] = Unit {0}
AreExact p (e ∷ es) =
    ((place : ℕ → Alternative) (s : Situation) → InControl (control_of p.processes) place s.located
    → truth s (formula_of (control_of p.processes) e) ≡ is_zero (worth e s))
    × AreExact p es

-- the text has a line for each of these equations: they are found for the program that the other text spells, they are of the
-- space of those that every mode keeps and the start gives, and span it up to ones without variables; each is 0 in every state of
-- every run, and its formula says so
pub record SaysEquations (program text : List ℕ) : Type 0 where
  pub typed : Typed
  pub is_program : IsProgram program typed
  pub found : List PlainEquation
  pub are_these : equations.found (system_of typed) ≡ Some found
  pub basis : equations.AreFound (system_of typed) found
  pub hold : AllHold typed.processes typed.initial found
  pub exact : AreExact typed found
  pub lines : AreLines typed [] [] 1 found text

abbrev pub InvariantsSayWhatWasFound : Type 0
InvariantsSayWhatWasFound = (told : Told) (name program : List ℕ) (o : Outcome) → told name ≡ Some program
    → EndsIn told (plan_of (Some (finds name))) o → o.status ≡ Proved → SaysEquations program o.text
