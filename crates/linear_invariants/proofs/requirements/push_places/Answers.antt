use Rattle.std.proofs.Common.{arith, rules}
use mir.Syntax.{w128}
use mir.Val.{SFits}
use Rattle.std.proofs.lemmas.Int.{to_z-of_z}
use Rattle.linear_invariants.specs.Plain.{passage_by}
use Rattle.linear_invariants.proofs.Loops.{places-next}
use Rattle.linear_invariants.proofs.requirements.push_places.Goals as goal

pub loop-location-preserved : goal.loop-location-preserved
loop-location-preserved c =
    let f : SFits w128 c.passage.result = search rules in
    rw (c.in_ok-push_term.ensures, to_z-of_z w128 c.passage.result f, c.passage.ensures)
    (places-next c.args.variables (passage_by c.args.enters.now c.args.leaves.now) c.args.locations c.loop-location.location c.loop-location.out.items _ (omega arith) c.loop-location.invariant)
