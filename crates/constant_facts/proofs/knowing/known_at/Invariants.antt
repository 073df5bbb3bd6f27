use Rattle.std.proofs.Common.{◌≡◌, ◌++◌, drop}
use Rattle.constant_facts.specs.Rules.{known_at}
use Rattle.constant_facts.proofs.knowing.known_at.Given as goal

abbrev pub invariant-loop-fact : goal.invariant-loop-fact
invariant-loop-fact l = l.out.items ++ known_at l.places (drop l.fact-index l.facts) ≡ known_at l.places l.facts
