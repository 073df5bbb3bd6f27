use Rattle.std.proofs.Common.{◌≡◌, ◌++◌, map, drop}
use Rattle.trace_player.specs.Playing.{is_among}
use Rattle.trace_player.proofs.naming.flags_of.Given as goal

abbrev pub invariant-loop-known : goal.invariant-loop-known
invariant-loop-known l = l.flags.items ++ map (λ n. is_among n.0 l.row) (drop l.known-index l.names) ≡ map (λ n. is_among n.0 l.row) l.names
