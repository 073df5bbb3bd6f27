use Rattle.std.proofs.Common.{◌≡◌, ◌≤◌, [], map, Some, drop, vec_len}
use Rattle.elimination_laws.specs.Stages.{tracked}
use Rattle.row_elimination.specs.Plain.{rows}
use Rattle.row_elimination.specs.Places.{sift_from}
use Rattle.row_elimination.specs.Runs.{AllWithin}
use Rattle.row_elimination.proofs.top.first_rows.Given as goal

abbrev pub invariant-loop-i : goal.invariant-loop-i
invariant-loop-i l = record {
  room : vec_len l.next ≤ 4096;
  within : AllWithin (drop l.i l.lines);
  same : sift_from (rows l.next.items) (map Some (tracked l.i (drop l.i l.lines))) ≡ sift_from [] (map Some (tracked 0 l.lines));
}
