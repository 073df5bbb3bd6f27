use Rattle.std.proofs.Common.{◌≡◌, map, length, drop}
use Rattle.elimination_laws.specs.Stages.{paired, kept_by, bounds_above}
use Rattle.row_elimination.specs.Places.{sift_from}
use Rattle.lean_elimination.specs.Arenas.{tracks, row_at, listed, AllUnder, IsGrown}
use Rattle.lean_elimination.proofs.stage.pair_with.Given as goal

abbrev pub invariant-loop-upper : goal.invariant-loop-upper
invariant-loop-upper l = record {
  grown : IsGrown l.fn.arena.rows.items l.arena.rows.items;
  under : AllUnder (length l.arena.rows.items) l.next.items;
  same : sift_from (listed (tracks l.arena.rows.items) l.next.items) (map (paired l.var (row_at (tracks l.fn.arena.rows.items) l.lower)) (kept_by (bounds_above l.var) (listed (tracks l.fn.arena.rows.items) (drop l.upper-index l.list)))) ≡ sift_from (listed (tracks l.fn.arena.rows.items) l.fn.next.items) (map (paired l.var (row_at (tracks l.fn.arena.rows.items) l.lower)) (kept_by (bounds_above l.var) (listed (tracks l.fn.arena.rows.items) l.list)));
}
