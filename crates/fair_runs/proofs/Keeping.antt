-- A goal that holds on every run of a program is kept.
use Rattle.st_form.specs.Formula.{Formula}
use Rattle.st_program.specs.Tree.{Processes}
use Rattle.st_program.specs.Programs.{WellFormed}
use Rattle.temporal_goals.specs.Texts.{PlainGoal}
use Rattle.obligation_laws.specs.Obligations.{HoldsOnRuns}
use Rattle.fair_runs.specs.Kept.{IsKept}
use Rattle.fair_runs.proofs.Meeting.{met}
use Rattle.fair_runs.proofs.Sequences.{along, eventually}

pub kept : (p : Processes) (initial : Formula) → WellFormed p → (goal : PlainGoal) → HoldsOnRuns p initial goal → IsKept p initial goal
kept p initial well goal holds = record {
  on_runs = holds;
  along = λ state sequence fair. along p initial well state sequence goal holds fair;
  eventually = λ state sequence fair. eventually p initial well state sequence goal holds fair;
  met = met p initial well goal holds;
}
