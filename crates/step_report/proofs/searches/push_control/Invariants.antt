use Rattle.std.proofs.Common.{◌≡◌, ◌++◌, drop}
use Rattle.step_report.specs.Searches.{control_lines}
use Rattle.step_report.proofs.searches.push_control.Given as goal

abbrev pub invariant-loop-component : goal.invariant-loop-component
invariant-loop-component l = l.out.items ++ control_lines l.names (drop l.component-index l.control) ≡ l.fn.out.items ++ control_lines l.names l.control
