-- The script that a proof's text spells over a program, and its conditions.
use Rattle.std.specs.Prelude.{ℕ, List, [], map, Option, Result}
use Rattle.st_tokens.specs.declared.limit.LimitKind.{LimitKind}
use Rattle.st_tokens.specs.declared.limit.LimitKind.TheVariants as limits
use Rattle.st_form.specs.Condition.{Implication}
use Rattle.farkas_check.specs.Problem.{Setting}
use Rattle.farkas_check.specs.PlainProblem.{setting}
use Rattle.control_facts.specs.Alternatives.{control_of}
use Rattle.transition_system.specs.Systems.{System}
use Rattle.temporal_goals.specs.Texts.{PlainStep}
use Rattle.vc_generator.specs.Building.{Draft}
use Rattle.vc_generator.specs.declared.faults.VcFault.{VcFault}
use Rattle.vc_generator.specs.declared.faults.VcFault.TheVariants as faults
use Rattle.script_laws.specs.Script.{script_list}
use Rattle.script_laws.specs.Refused.{refused_at}
use Rattle.spl_translation.specs.Translation.{translation}
use Rattle.spl_typer.specs.Programs.{Typed}
use Rattle.proof_script.specs.Listing as scripts
use Rattle.proof_script.specs.Script.{script_spelled}
use Rattle.st_reading.specs.Reading.{Stop}
use Rattle.st_reading.specs.Breaches.{Breach}

-- the program as a system
unfoldable pub system_of : Typed → System
system_of p = translation p.variables p.initial p.processes p.locations

-- what conditions of a program are about
unfoldable pub setting_of : Typed → Setting
setting_of p = setting (control_of p.processes) p.variables

-- what a script's names stand for
abbrev pub words_over : Typed → scripts.Setting
words_over p = record { names = p.names; system = system_of p }

-- the steps that a text spells over the program, or its first fault
abbrev pub steps_spelled : Typed → List ℕ → Result (List PlainStep) (Stop Breach)
steps_spelled p text = script_spelled p.names (system_of p) text

-- the conditions of the steps, each with how many atoms it has
unfoldable pub drafts : Typed → List PlainStep → List Draft
drafts p steps = script_list (system_of p) steps

abbrev pub conditions_of : Typed → List PlainStep → List Implication
conditions_of p steps = map (λ d. d.condition) (drafts p steps)

-- the first condition that passes a limit, with the number of its step
abbrev pub passes_limit : Typed → List PlainStep → Option (VcFault × ℕ)
passes_limit p steps = refused_at [] (drafts p steps)

-- the limit that is passed; want of memory passes none, and no list of conditions gives it
abbrev pub limit_of : VcFault → LimitKind
limit_of faults.TooMany = limits.Conditions
limit_of faults.TooWide = limits.Atoms
limit_of faults.TooHeavy = limits.Weight
limit_of faults.Memory = limits.Weight

-- a program, its script, and the script's conditions
pub record Posed : Type 0 where
  pub program : Typed
  pub steps : List PlainStep
  pub conditions : List Implication
