use Rattle.std.specs.Prelude.{◌≤◌, length}
use Rattle.possible_moves.proofs.choosing.named.Given as goal

abbrev pub invariant-loop-listed : goal.invariant-loop-listed
invariant-loop-listed l = l.listed-index ≤ length l.moves
