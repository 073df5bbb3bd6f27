use Rattle.std.proofs.Common.{◌≡◌, ◌≤◌, drop, vec_len}
use Rattle.elimination_laws.specs.Stages.{pairs}
use Rattle.row_elimination.specs.Plain.{rows}
use Rattle.row_elimination.specs.Places.{sift_from, HaveAll}
use Rattle.row_elimination.proofs.stage.pair_all.Given as goal

abbrev pub invariant-loop-lower : goal.invariant-loop-lower
invariant-loop-lower l = record {
  room : vec_len l.next ≤ 4096;
  have : HaveAll l.var (drop l.lower-index l.lowers);
  same : sift_from (rows l.next.items) (pairs l.var (rows (drop l.lower-index l.lowers)) (rows l.uppers)) ≡ sift_from (rows l.initial.next.items) (pairs l.var (rows l.lowers) (rows l.uppers));
}
