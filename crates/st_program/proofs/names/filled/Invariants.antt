use Rattle.std.proofs.Common.{◌≡◌, ◌++◌, length}
use Rattle.st_program.proofs.names.filled.Given as goal

abbrev pub invariant-loop-name : goal.invariant-loop-name
invariant-loop-name g l = l.all.entries ++ l.rest.items ≡ l.fn.pairs.items

abbrev pub decreases-loop-name : goal.decreases-loop-name
decreases-loop-name g l = length l.rest.items
