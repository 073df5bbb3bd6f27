use Rattle.std.proofs.Common.{◌≡◌, [], map, Some, length, drop}
use Rattle.elimination_laws.specs.Stages.{kept_by, is_free}
use Rattle.row_elimination.specs.Places.{sift_from}
use Rattle.lean_elimination.specs.Arenas.{tracks, listed, AllUnder}
use Rattle.lean_elimination.proofs.stage.free.Given as goal

abbrev pub invariant-loop-k : goal.invariant-loop-k
invariant-loop-k l = record {
  under : AllUnder (length l.arena.rows.items) l.next.items;
  same : sift_from (listed (tracks l.arena.rows.items) l.next.items) (map Some (kept_by (is_free l.var) (listed (tracks l.arena.rows.items) (drop l.k-index l.list)))) ≡ sift_from [] (map Some (kept_by (is_free l.var) (listed (tracks l.arena.rows.items) l.list)));
}
