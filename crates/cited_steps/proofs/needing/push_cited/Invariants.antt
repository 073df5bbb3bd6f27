use Rattle.std.proofs.Common.{◌≡◌, ◌++◌, take}
use Rattle.cited_steps.proofs.needing.push_cited.Given as goal

abbrev pub invariant-loop-number : goal.invariant-loop-number
invariant-loop-number l = l.needed.items ≡ l.fn.needed.items ++ take l.number-index l.cited
