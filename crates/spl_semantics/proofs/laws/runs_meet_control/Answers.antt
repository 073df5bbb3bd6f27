use Rattle.std.proofs.Common.{subst}
use Rattle.st_form.specs.Plain.{plain}
use Rattle.st_program.specs.Plain.{plain_children}
use Rattle.st_program.specs.Programs.{View}
use Rattle.spl_semantics.specs.Runs.{State, Reached}
use Rattle.spl_semantics.specs.Facts.{MeetsControl}
use Rattle.spl_semantics.proofs.ControlMet.{reached_meets}
use Rattle.spl_semantics.proofs.laws.runs_meet_control.Goals as goal

abbrev Law : View → Type 0
Law v = (s : State) → Reached (plain_children v.processes) (plain v.initial) s → MeetsControl (plain_children v.processes) s

pub returns-clause-of_all : goal.returns-clause-of_all
returns-clause-of_all c p initial well s r = reached_meets p initial well s r

pub returns-clause-of_program : goal.returns-clause-of_program
returns-clause-of_program c =
    subst Law c.program.view_is (λ s r. reached_meets (plain_children c.program.inside.processes.items) (plain c.program.inside.initial) c.program.invariant.well s r)
