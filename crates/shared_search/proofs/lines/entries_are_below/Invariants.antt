use Rattle.std.proofs.Common.{drop}
use Rattle.st_linear.specs.Linear.{AllBelow}
use Rattle.shared_search.proofs.lines.entries_are_below.Given as goal

abbrev pub invariant-loop-entry : goal.invariant-loop-entry
invariant-loop-entry l = AllBelow l.count (drop l.entry-index l.entries) → AllBelow l.count l.entries
