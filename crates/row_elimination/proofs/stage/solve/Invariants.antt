use Rattle.std.proofs.Common.{◌≡◌, ◌≤◌, [], map, length, vec_len}
use Rattle.elimination_laws.specs.Stages.{freed}
use Rattle.row_elimination.specs.Plain.{tracked_row, rows}
use Rattle.row_elimination.specs.Places.{sift_from}
use Rattle.row_elimination.proofs.stage.solve.Given as goal

abbrev pub invariant-loop-line : goal.invariant-loop-line
invariant-loop-line l = record {
  room : vec_len l.next ≤ 4096;
  same : sift_from (rows l.next.items) (map (freed l.var (tracked_row l.equation)) (rows l.rest.items)) ≡ sift_from [] (map (freed l.var (tracked_row l.equation)) (rows l.fn.lines.items));
}

abbrev pub decreases-loop-line : goal.decreases-loop-line
decreases-loop-line l = length l.rest.items
