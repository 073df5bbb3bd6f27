use Rattle.std.proofs.Common.{◌≡◌, ◌≤◌, ◌++◌, [], map, Some, length, vec_len}
use Rattle.elimination_laws.specs.Stages.{kept_by, is_free, bounds_below, bounds_above}
use Rattle.row_elimination.specs.Plain.{rows}
use Rattle.row_elimination.specs.Places.{sift_from, HaveAll}
use Rattle.row_elimination.proofs.stage.sort.Given as goal

abbrev pub invariant-loop-line : goal.invariant-loop-line
invariant-loop-line l = record {
  room : vec_len l.next ≤ 4096;
  same : sift_from (rows l.next.items) (map Some (kept_by (is_free l.var) (rows l.rest.items))) ≡ sift_from [] (map Some (kept_by (is_free l.var) (rows l.fn.lines.items)));
  lower : rows l.lowers.items ++ kept_by (bounds_below l.var) (rows l.rest.items) ≡ kept_by (bounds_below l.var) (rows l.fn.lines.items);
  upper : rows l.uppers.items ++ kept_by (bounds_above l.var) (rows l.rest.items) ≡ kept_by (bounds_above l.var) (rows l.fn.lines.items);
  lower_have : HaveAll l.var l.lowers.items;
  upper_have : HaveAll l.var l.uppers.items;
}

abbrev pub decreases-loop-line : goal.decreases-loop-line
decreases-loop-line l = length l.rest.items
