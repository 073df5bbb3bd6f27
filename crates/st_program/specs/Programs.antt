-- What a program keeps.
use Rattle.std.specs.Prelude.{◌≡◌, ℕ, suc, ◌≤◌, List, refl, length}
use Rattle.std.specs.Coded.{Coded, code_by, coded×, coded_list, coded_ℕ}
use Rattle.st_form.specs.Formula.{Formula}
use Rattle.st_form.specs.declared.formulas.Form.{Form}
use Rattle.st_form.specs.contracts.formulas.Form as form_code
use Rattle.st_form.specs.declared.variables.Variable.{Variable}
use Rattle.st_program.specs.declared.trees.Child.{Child}
use Rattle.st_form.specs.contracts.variables.Variable as variable_code
use Rattle.st_program.specs.contracts.trees.Child as child_code
use Rattle.st_program.specs.Tree.{Processes, no_process, beside, action}
use Rattle.st_program.specs.Member.{Member}
use Rattle.st_program.specs.Spots.{Spot, all_spots, IsNumbered}
use Rattle.st_program.specs.Locations.{SomeProcess, InsidePlaced, inside_end, HeadsFit, BodiesFit, ShapeFits}
use Rattle.st_program.specs.Types.{TestFits, ActionFits}

-- the shape of a program: occurrences and locations are numbered in text order, no block, process, child or group is
-- empty, a selection has two branches or more and a cooperation two children or more, and no branch of a selection begins
-- with a loop
pub record WellFormed (p : Processes) : Type 0 where
  pub numbered : IsNumbered p
  pub placed : InsidePlaced p 0
  pub heads : (x : Spot) → Member x (all_spots p) → HeadsFit (action x.stmt)
  pub shaped : (x : Spot) → Member x (all_spots p) → ShapeFits (action x.stmt)
  pub bodies : BodiesFit p

abbrev pub process_count : Processes → ℕ
process_count no_process = 0
process_count (beside x ps) = suc (process_count ps)

-- the processes with their variables and what holds of these at the beginning are a typed program of this many
-- locations and statements, with at most 16 processes, 64 variables and 400 statements
pub record IsProgram (variables : List Variable) (initial : Formula) (p : Processes) (locations statements : ℕ) : Type 0 where
  pub well : WellFormed p
  pub typed : (x : Spot) → Member x (all_spots p) → ActionFits variables (action x.stmt)
  pub start : TestFits variables initial
  pub some : SomeProcess p
  pub location_count : locations ≡ inside_end p 0
  pub statement_count : statements ≡ length (all_spots p)
  pub few_processes : process_count p ≤ 16
  pub few_variables : length variables ≤ 64
  pub few_statements : statements ≤ 400

-- what contracts see of a program
pub record View : Type 0 where
  pub variables : List Variable
  pub initial : Form
  pub processes : List Child
  pub locations : ℕ
  pub statements : ℕ

abbrev pub view_code : Coded View
view_code =
    code_by (List Variable × (Form × (List Child × (ℕ × ℕ))))
    (coded× (coded_list variable_code.the_row.coded) (coded× form_code.the_row.coded (coded× (coded_list child_code.the_row.coded) (coded× coded_ℕ coded_ℕ))))
    (λ v. (v.variables, (v.initial, (v.processes, (v.locations, v.statements)))))
    (λ p. record { variables = p.0; initial = p.1.0; processes = p.1.1.0; locations = p.1.1.1.0; statements = p.1.1.1.1 })
    (λ _. refl)
