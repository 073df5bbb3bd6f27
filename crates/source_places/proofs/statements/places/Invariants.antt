use Rattle.std.proofs.Common.{◌≡◌, ◌++◌, map, drop}
use Rattle.source_places.specs.Starts.{start_view, first_of}
use Rattle.source_places.specs.Places.{first_place}
use Rattle.source_places.proofs.statements.places.Given as goal

abbrev pub invariant-loop-start : goal.invariant-loop-start
invariant-loop-start l = map first_place l.out.items ++ map first_of (map start_view (drop l.start-index l.starts)) ≡ map first_of (map start_view l.starts)
