use Rattle.std.proofs.Common.{◌≡◌, ◌++◌, drop}
use Rattle.step_report.specs.Searches.{value_lines}
use Rattle.step_report.proofs.searches.push_store.Given as goal

abbrev pub invariant-loop-variable : goal.invariant-loop-variable
invariant-loop-variable l = l.out.items ++ value_lines l.names l.variable (drop l.variable l.store) ≡ l.fn.out.items ++ value_lines l.names 0 l.store
