use Rattle.std.proofs.Common.{◌≡◌, drop, map}
use Rattle.st_form.specs.Shared.{plain_condition}
use Rattle.farkas_check.specs.PlainProblem.{setting}
use Rattle.shared_search.specs.Books.{Knows}
use Rattle.step_run.specs.Invariants.{are_decided}
use Rattle.step_run.proofs.acceptance.are_all_valid.Given as goal

abbrev pub invariant-loop-condition : goal.invariant-loop-condition
invariant-loop-condition l = record {
  knows : Knows (setting l.components l.variables) l.book;
  so_far : are_decided (setting l.components l.variables) (map plain_condition (drop l.condition-index l.conditions)) ≡ are_decided (setting l.components l.variables) (map plain_condition l.conditions);
}
