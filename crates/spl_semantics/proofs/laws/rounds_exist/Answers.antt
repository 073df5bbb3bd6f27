use Rattle.std.proofs.Common.{ℕ, List, subst}
use Rattle.st_form.specs.Plain.{plain}
use Rattle.st_form.specs.declared.conditions.TransName.{TransName}
use Rattle.st_program.specs.Plain.{plain_children}
use Rattle.st_program.specs.Programs.{View}
use Rattle.spl_semantics.specs.Runs.{State, IsFirst, Follows}
use Rattle.spl_semantics.specs.Facts.{GoesOn}
use Rattle.spl_semantics.proofs.RunsGoOn.{runs_go_on}
use Rattle.spl_semantics.proofs.laws.rounds_exist.Goals as goal

abbrev Law : View → Type 0
Law v =
    (s : State) (later : List (TransName × State)) (n : ℕ) → IsFirst (plain_children v.processes) (plain v.initial) s
    → Follows (plain_children v.processes) s later → GoesOn (plain_children v.processes) s later n

pub returns-clause-of_all : goal.returns-clause-of_all
returns-clause-of_all c p initial well s later n f g = runs_go_on p initial well s later n f g

pub returns-clause-of_program : goal.returns-clause-of_program
returns-clause-of_program c =
    subst Law c.program.view_is (λ s later n f g. runs_go_on (plain_children c.program.inside.processes.items) (plain c.program.inside.initial) c.program.invariant.well s later n f g)
