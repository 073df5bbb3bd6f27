use Rattle.std.proofs.Common.{◌≡◌, ◌++◌, map, length}
use Rattle.st_program.proofs.names.placed.Given as goal

abbrev pub invariant-loop-name : goal.invariant-loop-name
invariant-loop-name l = l.pairs.items ++ map (λ x. (x.0, (x.1, x.2))) l.rest.items ≡ map (λ x. (x.0, (x.1, x.2))) l.fn.labels.items

abbrev pub decreases-loop-name : goal.decreases-loop-name
decreases-loop-name l = length l.rest.items
