use Rattle.std.proofs.Common.{◌≡◌, ◌++◌, map, take, drop}
use Rattle.st_program.specs.Plain.{plain_children}
use Rattle.st_program.specs.Residuals.{plain_residuals}
use Rattle.spl_semantics.specs.Data.{store_of, types, StoreFits}
use Rattle.spl_semantics.specs.Limits.{wide_rests}
use Rattle.spl_semantics.specs.Plain.{plain_moves, move_stores, AllOfTypes, in_front}
use Rattle.spl_semantics.specs.Steps.{steps_of}
use Rattle.spl_semantics.specs.Going.{around}
use Rattle.spl_semantics.proofs.stepping.+steps.Given as goal

abbrev pub invariant-moves_of-loop-place : goal.invariant-moves_of-loop-place
invariant-moves_of-loop-place l = StoreFits l.program.variables l.store → record {
  stores : AllOfTypes (types l.store) (move_stores l.moves.items);
  steps :
      (wide_rests (plain_residuals (drop l.place l.residuals)) (plain_children l.program.processes) (store_of l.store) ≡ wide_rests (plain_residuals l.residuals) (plain_children l.program.processes) (store_of l.store))
      × (plain_moves l.moves.items ++ map (around (in_front (take l.place l.residuals))) (steps_of (plain_residuals (drop l.place l.residuals)) (plain_children l.program.processes) (store_of l.store)) ≡ steps_of (plain_residuals l.residuals) (plain_children l.program.processes) (store_of l.store));
}
