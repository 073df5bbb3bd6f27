-- How the code divides a problem, as plain data.
use Rattle.std.specs.Prelude.{ℕ, ◌+◌, ◌<◌, true, false, List, [], ◌∷◌, length, take, drop}
use Rattle.st_form.specs.Plain.{plain_list}
use Rattle.linear_prover.specs.declared.problems.Conjunct.{Conjunct}
use Rattle.control_states.specs.Control.{ControlFacts}
use Rattle.st_certificate.specs.Tree.{Step, by_case, by_truth, by_split, linear}
use Rattle.farkas_check.specs.Problem.{Problem, case_problems, truth_problem, split_problems, in_place}
use Rattle.search_laws.specs.Walks as plain
use Rattle.linear_prover.specs.declared.divisions.Division.{Division}
use Rattle.linear_prover.specs.declared.divisions.Division.TheVariants.{Cases, Truths, Disjuncts}
use Rattle.linear_prover.specs.declared.moves.Move.{Move}
use Rattle.linear_prover.specs.declared.moves.Move.TheVariants.{Closes, Divides, Fails}
use Rattle.linear_prover.specs.Plain.{plain_each, plain_failure}

abbrev pub step_of : Division → Step
step_of (Cases c choices) = by_case c
step_of (Truths v) = by_truth v
step_of (Disjuncts place parts) = by_split 0

-- the number of problems
abbrev pub size : Division → ℕ
size (Cases c choices) = length choices.now
size (Truths v) = 2
size (Disjuncts place parts) = length parts.now

-- the problems of a division
abbrev pub children : ControlFacts → Problem → List Conjunct → Division → List Problem
children k p fs (Cases c choices) = case_problems k p (plain_each fs) c choices.now
children k p fs (Truths v) = truth_problem k p (plain_each fs) v true ∷ truth_problem k p (plain_each fs) v false ∷ []
children k p fs (Disjuncts place parts) = split_problems p (in_place (plain_each (take place fs)) (plain_list parts.now) (plain_each (drop (place + 1) fs)))

-- the tables have the component or variable, and the disjunction is a conjunct
abbrev pub Applies : Problem → List Conjunct → Division → Type 0
Applies p fs (Cases c choices) = c < length p.cases
Applies p fs (Truths v) = v < length p.truths
Applies p fs (Disjuncts place parts) = place < length fs

abbrev pub plain_move : ControlFacts → Problem → List Conjunct → Move → plain.Move Problem
plain_move k p fs (Closes picks) = plain.closes (linear picks.items)
plain_move k p fs (Divides d) = plain.divides (step_of d) (children k p fs d)
plain_move k p fs (Fails e) = plain.fails (plain_failure e)

abbrev pub MoveApplies : Problem → List Conjunct → Move → Type 0
MoveApplies p fs (Closes picks) = Unit {0}
MoveApplies p fs (Divides d) = Applies p fs d
MoveApplies p fs (Fails e) = Unit {0}
