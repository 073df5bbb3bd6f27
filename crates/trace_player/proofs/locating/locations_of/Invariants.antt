use Rattle.std.proofs.Common.{◌≡◌, length}
use Rattle.st_program.specs.Plain.{plain_children}
use Rattle.trace_player.specs.Fronts.{AreLocations}
use Rattle.trace_player.proofs.locating.locations_of.Given as goal

abbrev pub invariant-loop-occ : goal.invariant-loop-occ
invariant-loop-occ l = AreLocations (plain_children l.program.processes) l.locations.items × (length l.locations.items ≡ l.occ)
