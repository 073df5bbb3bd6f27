use Rattle.std.proofs.Common.{◌≡◌, ◌++◌, map}
use Rattle.std.specs.Vec.Iter.{into_iter_items}
use Rattle.st_program.specs.Residuals.{Inside}
use Rattle.spl_semantics.specs.Going as going
use Rattle.spl_semantics.specs.Plain.{plain_acts, plain_moves, act_stores, move_stores}
use Rattle.spl_semantics.proofs.children.inside_all.Given as goal

abbrev pub invariant-loop-step : goal.invariant-loop-step
invariant-loop-step l = record {
  steps : plain_acts l.acts.items ++ map (going.around (Inside l.coop)) (plain_moves (into_iter_items l.step-iterator)) ≡ map (going.around (Inside l.coop)) (plain_moves l.fn.moves.items);
  stores : act_stores l.acts.items ++ move_stores (into_iter_items l.step-iterator) ≡ move_stores l.fn.moves.items;
}
