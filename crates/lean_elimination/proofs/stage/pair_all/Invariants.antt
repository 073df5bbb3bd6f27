use Rattle.std.proofs.Common.{◌≡◌, length, drop}
use Rattle.elimination_laws.specs.Stages.{pairs, kept_by, bounds_above, bounds_below}
use Rattle.row_elimination.specs.Places.{sift_from}
use Rattle.lean_elimination.specs.Arenas.{tracks, listed, AllUnder, IsGrown}
use Rattle.lean_elimination.proofs.stage.pair_all.Given as goal

abbrev pub invariant-loop-lower : goal.invariant-loop-lower
invariant-loop-lower l = record {
  grown : IsGrown l.fn.arena.rows.items l.arena.rows.items;
  under : AllUnder (length l.arena.rows.items) l.next.items;
  same : sift_from (listed (tracks l.arena.rows.items) l.next.items) (pairs l.var (kept_by (bounds_below l.var) (listed (tracks l.fn.arena.rows.items) (drop l.lower-index l.list))) (kept_by (bounds_above l.var) (listed (tracks l.fn.arena.rows.items) l.list))) ≡ sift_from (listed (tracks l.fn.arena.rows.items) l.fn.next.items) (pairs l.var (kept_by (bounds_below l.var) (listed (tracks l.fn.arena.rows.items) l.list)) (kept_by (bounds_above l.var) (listed (tracks l.fn.arena.rows.items) l.list)));
}
