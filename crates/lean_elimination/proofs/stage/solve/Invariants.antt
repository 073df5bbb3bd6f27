use Rattle.std.proofs.Common.{◌≡◌, [], map, length, drop}
use Rattle.elimination_laws.specs.Stages.{freed}
use Rattle.row_elimination.specs.Places.{sift_from}
use Rattle.lean_elimination.specs.Arenas.{tracks, row_at, listed, AllUnder, IsGrown}
use Rattle.lean_elimination.proofs.stage.solve.Given as goal

abbrev pub invariant-loop-k : goal.invariant-loop-k
invariant-loop-k l = record {
  grown : IsGrown l.fn.arena.rows.items l.arena.rows.items;
  under : AllUnder (length l.arena.rows.items) l.next.items;
  same : sift_from (listed (tracks l.arena.rows.items) l.next.items) (map (freed l.var (row_at (tracks l.fn.arena.rows.items) l.equation)) (listed (tracks l.fn.arena.rows.items) (drop l.k-index l.list))) ≡ sift_from [] (map (freed l.var (row_at (tracks l.fn.arena.rows.items) l.equation)) (listed (tracks l.fn.arena.rows.items) l.list));
}
