use Rattle.st_program.specs.Plain.{plain_children}
use Rattle.st_program.specs.Spots.{spot}
use Rattle.spl_semantics.specs.Control.{location_at}
use Rattle.trace_player.proofs.Locations.{one_known}
use Rattle.trace_player.proofs.locating.locations_of.Goals as goal

pub loop-occ-preserved : goal.loop-occ-preserved
loop-occ-preserved c =
    one_known (λ n. location_at (spot (plain_children c.args.program.now.processes) n)) c.loop-occ.locations.items c.push.new.self.items c.location.result c.loop-occ.occ
    c.in_ok-push.ensures.items c.location.ensures c.loop-occ.invariant
