-- What reading a script and generating its conditions come to.
use Rattle.std.specs.Prelude.{◌≡◌, ℕ, List, Ok}
use Rattle.st_tokens.specs.declared.limit.LimitKind.TheVariants as limits
use Rattle.obligations.specs.declared.faults.ObligationFault.{ObligationFault}
use Rattle.obligations.specs.declared.faults.ObligationFault.TheVariants as faults
use Rattle.temporal_goals.specs.Texts.{PlainStep}
use Rattle.spl_typer.specs.Programs.{Typed}
use Rattle.step_plan.specs.Limits.{limited}
use Rattle.step_plan.specs.Outcome.{Outcome}
use Rattle.step_plan.specs.Plan.{Plan}
use Rattle.step_run.specs.Conditions.{Posed, steps_spelled}
use Rattle.step_run.specs.Traced.{Scripted}
use Rattle.step_run.specs.Plans.{obliged}

-- some text spells the script over the program
abbrev pub IsScript : Typed → List PlainStep → Type 0
IsScript p steps = (text : List ℕ) × (steps_spelled p text ≡ Ok steps)

-- the end of a run whose conditions pass this limit
abbrev pub IsPassed : ObligationFault → Outcome → Type 0
IsPassed (faults.TooMany step) o = o ≡ limited limits.Conditions
IsPassed (faults.TooWide step) o = o ≡ limited limits.Atoms
IsPassed (faults.TooHeavy step) o = o ≡ limited limits.Weight
IsPassed faults.Memory o = ⊥

-- the conditions of a program's script, unless one passes a limit
abbrev pub obliged_in : Scripted → Plan Posed
obliged_in x = obliged x.program x.steps
