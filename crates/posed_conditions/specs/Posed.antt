-- A script of a text over a program, and its conditions.
use Rattle.std.specs.Prelude.{◌≡◌, ◌≤◌, ℕ, List, [], length, All, None, Ok}
use Rattle.st_form.specs.Plain.{plain}
use Rattle.st_program.specs.Plain.{plain_children}
use Rattle.search_laws.specs.Searchable.{AreSearchable}
use Rattle.transition_system.specs.Plain.{plain_system}
use Rattle.transition_system.specs.Systems.{System}
use Rattle.temporal_goals.specs.Plain.{plain_script}
use Rattle.obligation_laws.specs.Obligations.{HoldsOnRuns}
use Rattle.script_laws.specs.Script.{script_list}
use Rattle.script_laws.specs.Refused.{refused_at}
use Rattle.script_obligations.specs.Laws.{AreThese}
use Rattle.obligations.specs.Made.{AllValid}
use Rattle.proof_script.specs.Script.{script_spelled}
use Rattle.posed_conditions.specs.declared.translated.TranslatedProgram.{TranslatedProgram}
use Rattle.posed_conditions.specs.declared.scripts.PosedScript.{PosedScript}

-- some text spells the script over the program, its conditions are these, and where all are valid each goal holds on every run
pub record IsPosed (x : TranslatedProgram) (p : PosedScript) : Type 0 where
  pub text : List ℕ
  pub spelled : script_spelled x.names (plain_system x.system) text ≡ Ok (plain_script p.script)
  pub fits : refused_at [] (script_list (plain_system x.system) (plain_script p.script)) ≡ None
  pub made : AreThese p.conditions.items (script_list (plain_system x.system) (plain_script p.script))
  pub sound : AllValid x.components p.conditions.items → All (λ s. HoldsOnRuns (plain_children x.program.processes) (plain x.program.initial) s.goal) (plain_script p.script)
  pub few : length p.conditions.items ≤ 20000
  pub searchable : AreSearchable (length x.program.variables) p.conditions.items

-- this text does
pub record IsPosedBy (text : List ℕ) (x : TranslatedProgram) (p : PosedScript) : Type 0 where
  pub made : IsPosed x p
  pub same : made.text ≡ text
