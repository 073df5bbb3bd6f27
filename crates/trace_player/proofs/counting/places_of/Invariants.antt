use Rattle.std.proofs.Common.{◌≡◌, ◌++◌, map, drop}
use Rattle.spl_semantics.specs.Runs.{place_in}
use Rattle.trace_player.proofs.counting.places_of.Given as goal

abbrev pub invariant-loop-name : goal.invariant-loop-name
invariant-loop-name l = l.places.items ++ map (λ name. place_in l.names name) (drop l.name-index l.taken) ≡ map (λ name. place_in l.names name) l.taken
