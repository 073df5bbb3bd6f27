use Rattle.std.proofs.Common.{◌≡◌, ◌++◌, drop}
use Rattle.step_report.specs.Sums.{more_terms}
use Rattle.step_report.proofs.sums.push_more_terms.Given as goal

abbrev pub invariant-loop-entry : goal.invariant-loop-entry
invariant-loop-entry l = l.out.items ++ more_terms l.names (drop l.entry-index l.entries) ≡ l.fn.out.items ++ more_terms l.names l.entries
