use Rattle.std.proofs.Common.{◌≡◌, ◌++◌, drop}
use Rattle.search_verdicts.specs.Plain.{plain_path}
use Rattle.step_report.specs.Searches.{more_steps}
use Rattle.step_report.proofs.searches.push_more_steps.Given as goal

abbrev pub invariant-loop-step : goal.invariant-loop-step
invariant-loop-step l = l.out.items ++ more_steps (plain_path (drop l.step-index l.path)) ≡ l.fn.out.items ++ more_steps (plain_path l.path)
