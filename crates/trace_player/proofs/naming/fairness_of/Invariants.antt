use Rattle.std.proofs.Common.{◌≡◌, ◌++◌, map, drop}
use Rattle.trace_player.proofs.naming.fairness_of.Given as goal

abbrev pub invariant-loop-known : goal.invariant-loop-known
invariant-loop-known l = l.fairness.items ++ map (λ n. n.1) (drop l.known-index l.names) ≡ map (λ n. n.1) l.names
