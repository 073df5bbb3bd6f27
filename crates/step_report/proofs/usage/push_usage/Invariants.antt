use Rattle.std.proofs.Common.{◌≡◌, ◌++◌, drop}
use Rattle.step_report.specs.Refused.{usage_lines}
use Rattle.step_report.proofs.usage.push_usage.Given as goal

abbrev pub invariant-loop-command : goal.invariant-loop-command
invariant-loop-command l = l.out.items ++ usage_lines (drop l.command-index l.commands) ≡ l.fn.out.items ++ usage_lines l.commands
