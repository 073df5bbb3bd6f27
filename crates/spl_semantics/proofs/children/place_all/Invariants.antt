use Rattle.std.proofs.Common.{◌≡◌, ◌++◌, ◌+◌, map, take, drop}
use Rattle.std.specs.Vec.Iter.{into_iter_items}
use Rattle.st_program.specs.Residuals.{rests, plain_residuals}
use Rattle.spl_semantics.specs.Going as going
use Rattle.spl_semantics.specs.Plain.{plain_acts, plain_moves, act_stores, move_stores, in_front}
use Rattle.spl_semantics.proofs.children.place_all.Given as goal

abbrev pub invariant-loop-act : goal.invariant-loop-act
invariant-loop-act l = record {
  steps : plain_moves l.moves.items ++ map (going.around (λ r. in_front (take l.place l.residuals) (rests r (plain_residuals (drop (l.place + 1) l.residuals))))) (plain_acts (into_iter_items l.act-iterator))
      ≡ plain_moves l.initial.moves.items ++ map (going.around (λ r. in_front (take l.place l.residuals) (rests r (plain_residuals (drop (l.place + 1) l.residuals))))) (plain_acts l.fn.acts.items);
  stores : move_stores l.moves.items ++ act_stores (into_iter_items l.act-iterator) ≡ move_stores l.initial.moves.items ++ act_stores l.fn.acts.items;
}
