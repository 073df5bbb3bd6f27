use Rattle.std.proofs.Common.{◌≡◌, ◌≤◌, map, drop, vec_len}
use Rattle.elimination_laws.specs.Stages.{paired}
use Rattle.row_elimination.specs.Plain.{tracked_row, rows}
use Rattle.row_elimination.specs.Places.{sift_from, HaveAll}
use Rattle.row_elimination.proofs.stage.pair_with.Given as goal

abbrev pub invariant-loop-upper : goal.invariant-loop-upper
invariant-loop-upper l = record {
  room : vec_len l.next ≤ 4096;
  have : HaveAll l.var (drop l.upper-index l.uppers);
  same : sift_from (rows l.next.items) (map (paired l.var (tracked_row l.lower)) (rows (drop l.upper-index l.uppers))) ≡ sift_from (rows l.initial.next.items) (map (paired l.var (tracked_row l.lower)) (rows l.uppers));
}
