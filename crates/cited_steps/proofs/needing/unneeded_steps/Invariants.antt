use Rattle.cited_steps.specs.Looking.{AreLeft}
use Rattle.cited_steps.proofs.needing.unneeded_steps.Given as goal

abbrev pub invariant-loop-number : goal.invariant-loop-number
invariant-loop-number l = AreLeft l.needed.items l.number l.left.items
