-- What a search ended with: the path to the problem, and a state in which the condition is false, or the stage at which it
-- gave up. Components, alternatives, variables, disjunctions and disjuncts count from 1.
use Rattle.std.specs.Prelude.{ℕ, ◌+◌, true, false, List, [], ◌∷◌, ◌++◌, codes, Option, Some, None}
use Rattle.std.specs.Fmt.{decimal, signed_decimal}
use Rattle.control_states.specs.declared.alternative.Alternative.{Alternative}
use Rattle.control_states.specs.declared.alternative.Alternative.TheVariants.{Location, Inside}
use Rattle.elimination_laws.specs.declared.stage.WideStage.{WideStage}
use Rattle.elimination_laws.specs.declared.stage.WideStage.TheVariants.{Tree, Rows, Variable}
use Rattle.st_certificate.specs.Tree.{Step, by_case, by_truth, by_split, by_cut}
use Rattle.st_program.specs.Names.{Names}
use Rattle.st_program.specs.declared.residuals.Datum.{Datum}
use Rattle.st_program.specs.declared.residuals.Datum.TheVariants.{Number, Truth}
use Rattle.search_laws.specs.States.{State}
use Rattle.search_laws.specs.Walks.{PathStep}
use Rattle.step_report.specs.Names.{line, variable_text, location_text, statement_text}

-- the search makes no cuts
abbrev pub division_text : Step → List ℕ
division_text (by_case c) = codes "case " ++ decimal (c + 1)
division_text (by_truth v) = codes "bool " ++ decimal (v + 1)
division_text (by_split k) = codes "split " ++ decimal (k + 1)
division_text (by_cut f) = codes "cut"

abbrev pub step_text : PathStep → List ℕ
step_text s = division_text s.step ++ codes " " ++ decimal (s.branch + 1)

abbrev pub more_steps : List PathStep → List ℕ
more_steps [] = []
more_steps (s ∷ ss) = codes ", " ++ step_text s ++ more_steps ss

abbrev pub steps_text : List PathStep → List ℕ
steps_text [] = codes "root"
steps_text (s ∷ ss) = step_text s ++ more_steps ss

abbrev pub path_text : List PathStep → List ℕ
path_text path = line (codes "path: " ++ steps_text path)

-- what a component is at
abbrev pub place_text : Names → Alternative → List ℕ
place_text names (Location l) = location_text names l
place_text names (Inside n) = codes "inside " ++ statement_text names n

abbrev pub control_lines : Names → List (ℕ × Alternative) → List ℕ
control_lines names [] = []
control_lines names (x ∷ xs) = line (codes "control " ++ decimal (x.0 + 1) ++ codes ": " ++ place_text names x.1) ++ control_lines names xs

abbrev pub value_text : Datum → List ℕ
value_text (Number n) = signed_decimal n
value_text (Truth true) = codes "true"
value_text (Truth false) = codes "false"

-- the values of the variables from v on
abbrev pub value_lines : Names → ℕ → List Datum → List ℕ
value_lines names v [] = []
value_lines names v (x ∷ xs) = line (codes "value " ++ variable_text names v ++ codes ": " ++ value_text x) ++ value_lines names (v + 1) xs

abbrev pub state_text : Names → Option State → List ℕ
state_text names None = line (codes "state: none")
state_text names (Some s) = control_lines names s.control ++ value_lines names 0 s.store

abbrev pub stage_text : Names → WideStage → List ℕ
stage_text names Tree = codes "tree"
stage_text names Rows = codes "rows"
stage_text names (Variable v) = variable_text names v

-- behind the line of a condition that is left open
abbrev pub open_text : Names → List PathStep → Option State → List ℕ
open_text names path state = path_text path ++ state_text names state

-- behind the line of a condition at which the search gave up
abbrev pub wide_text : Names → List PathStep → WideStage → List ℕ
wide_text names path stage = path_text path ++ line (codes "stage: " ++ stage_text names stage)
