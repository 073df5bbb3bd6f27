-- A name leads one way: in a state of a run, a step's name determines its mode and the state behind it.
use Rattle.std.specs.Prelude.{◌≡◌, ℕ}
use Rattle.st_form.specs.Formula.{Formula}
use Rattle.st_form.specs.declared.conditions.TransName.{TransName}
use Rattle.st_program.specs.Tree.{Processes}
use Rattle.spl_semantics.specs.Runs.{State, Reached, Leads, LeadsBy}

pub record LeadsOneWay (p : Processes) (initial : Formula) : Type 0 where
  pub one : (s : State) → Reached p initial s → (name : TransName) (t u : State) → Leads p s name t → Leads p s name u → t ≡ u
  pub by_one : (s : State) → Reached p initial s → (name : TransName) (m n : ℕ) (t u : State) → LeadsBy p s name m t → LeadsBy p s name n u → m ≡ n
