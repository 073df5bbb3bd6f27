use Rattle.std.proofs.Common.{◌≡◌, ◌+◌}
use Rattle.step_run.specs.Views.{posed_view}
use Rattle.step_run.proofs.Slices.{Looked}
use Rattle.step_run.proofs.deciding.all_valid.Given as goal

abbrev pub invariant-loop-verdict : goal.invariant-loop-verdict
invariant-loop-verdict l = record {
  place : l.place ≡ l.from + l.verdict-index;
  looked : Looked (posed_view l.posed) l.from l.verdicts l.verdict-index;
}
