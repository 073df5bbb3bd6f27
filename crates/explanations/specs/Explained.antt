-- What a report tells of a proof over a program: the numbers of all conditions that are left open, and the first of them explained.
use Rattle.std.specs.Prelude.{◌≡◌, ◌<◌, ℕ, ◌+◌, ◌-◌, ◌^◌, List, [], length, map, min, take, slice_get, Some, Ok, string_bytes}
use Rattle.st_form.specs.Shared.{given_of, shown_of}
use Rattle.st_form.specs.declared.conditions.Condition.{Condition}
use Rattle.transition_system.specs.Plain.{plain_system}
use Rattle.temporal_goals.specs.declared.scripts.Script.{Script}
use Rattle.temporal_goals.specs.declared.scripts.Step.{Step}
use Rattle.temporal_goals.specs.Plain.{plain_script}
use Rattle.script_laws.specs.Script.{script_list}
use Rattle.condition_counts.specs.Counts.{counts_of}
use Rattle.proof_script.specs.Script.{script_spelled}
use Rattle.farkas_check.specs.Limits.{IsNarrow}
use Rattle.farkas_check.specs.Problem.{Setting}
use Rattle.farkas_check.specs.PlainProblem.{setting}
use Rattle.discharge.specs.declared.marks.Undecided.{Undecided}
use Rattle.discharge.specs.Marked.{place_of}
use Rattle.discharge.specs.Searched.{marks}
use Rattle.open_conditions.specs.Open.{places_of_false}
use Rattle.unclosed_conditions.specs.Unclosed.{LeavesOut}
use Rattle.posed_conditions.specs.declared.translated.TranslatedProgram.{TranslatedProgram}
use Rattle.posed_conditions.specs.declared.scripts.PosedScript.{PosedScript}
use Rattle.posed_conditions.specs.Translated.{IsOfText}
use Rattle.posed_conditions.specs.Posed.{IsPosedBy}
use Rattle.proof_reports.specs.declared.proofs.Failure.{Failure}
use Rattle.proof_reports.specs.declared.proofs.Report.{Report}
use Rattle.proof_reports.specs.declared.proofs.StepReport.{StepReport}

-- what conditions of a program are about
abbrev pub setting_of : TranslatedProgram → Setting
setting_of x = setting x.components x.program.variables

-- the places of the conditions that aren't decided valid, from 0
abbrev pub open_places : TranslatedProgram → PosedScript → List ℕ
open_places x p = places_of_false 0 (marks (setting_of x) p.conditions.items)

-- a place from 0 as a number from 1. There are at most 20,000 conditions; a place past 2^64 would stay there
abbrev pub number : ℕ → ℕ
number place = min (place + 1) (2 ^ 64 - 1)

abbrev pub number_of : Undecided → ℕ
number_of u = number (place_of u)

-- the number of the condition that a failure explains
abbrev pub number_in : Failure → ℕ
number_in f = f.number

-- what a step is called
abbrev pub name_of : Step → List ℕ
name_of s = string_bytes s.name

-- what the step is called that is told of
abbrev pub named_in : StepReport → List ℕ
named_in r = string_bytes r.name

-- how many conditions the step is said to have
abbrev pub count_in : StepReport → ℕ
count_in r = r.conditions

-- a condition of a step stands at the place, and its numbers are below 2^69 in size
abbrev pub Stands : PosedScript → Undecided → Type 0
Stands p u = (c : Condition) × (slice_get p.conditions.items u.place ≡ Some c) × (c.name.step < length p.script.steps.items) × IsNarrow (given_of c) × IsNarrow (shown_of c)

abbrev pub AllStand : PosedScript → List Undecided → Type 0
AllStand p us = (i : ℕ) (u : Undecided) → slice_get us i ≡ Some u → Stands p u

-- the report tells of the proof that one text spells over the program of another: its steps, how many conditions it has, all of them
-- that aren't decided valid without some that have a valid certificate, how many they are, and the first so many of them explained
pub record IsExplained (program proof : List ℕ) (limit : ℕ) (r : Report) : Type 0 where
  pub source : TranslatedProgram
  pub posed : PosedScript
  pub of : IsOfText program source
  pub by : IsPosedBy proof source posed
  pub steps : map named_in r.steps.items ≡ map name_of posed.script.steps.items
  pub conditions : r.conditions ≡ length posed.conditions.items
  pub places : List ℕ
  pub left : LeavesOut (setting_of source) posed.conditions.items (open_places source posed) places
  pub all : r.numbers.items ≡ map number places
  pub failing : r.failing ≡ length r.numbers.items
  pub first : map number_in r.failures.items ≡ take limit r.numbers.items

-- the report tells of the proof that one text spells over the program of another: its steps, how many conditions each of them and all of
-- them have, and of none that fails
pub record IsOutlined (program proof : List ℕ) (r : Report) : Type 0 where
  pub source : TranslatedProgram
  pub script : Script
  pub of : IsOfText program source
  pub by : script_spelled source.names (plain_system source.system) proof ≡ Ok (plain_script script)
  pub steps : map named_in r.steps.items ≡ map name_of script.steps.items
  pub counts : map count_in r.steps.items ≡ counts_of (plain_system source.system) (plain_script script)
  pub conditions : r.conditions ≡ length (script_list (plain_system source.system) (plain_script script))
  pub none : r.numbers.items ≡ []
  pub failing : r.failing ≡ 0
  pub unexplained : r.failures.items ≡ []
