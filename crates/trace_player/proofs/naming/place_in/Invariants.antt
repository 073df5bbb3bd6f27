use Rattle.std.proofs.Common.{◌≡◌, ◌+◌, drop}
use Rattle.spl_semantics.specs.Runs.{place_in}
use Rattle.trace_player.proofs.naming.place_in.Given as goal

abbrev pub invariant-loop-place : goal.invariant-loop-place
invariant-loop-place l = l.place + place_in (drop l.place l.names) l.name ≡ place_in l.names l.name
