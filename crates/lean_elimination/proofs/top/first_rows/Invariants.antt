use Rattle.std.proofs.Common.{◌≡◌, [], map, Some, length, drop}
use Rattle.farkas_leaf.specs.Lent.{lent_line}
use Rattle.elimination_laws.specs.Stages.{tracked}
use Rattle.row_elimination.specs.Places.{sift_from}
use Rattle.lean_elimination.specs.Arenas.{tracks, listed, AllUnder, IsGrown}
use Rattle.lean_elimination.proofs.top.first_rows.Given as goal

abbrev pub invariant-loop-i : goal.invariant-loop-i
invariant-loop-i l = record {
  grown : IsGrown l.fn.arena.rows.items l.arena.rows.items;
  under : AllUnder (length l.arena.rows.items) l.next.items;
  same : sift_from (listed (tracks l.arena.rows.items) l.next.items) (map Some (tracked l.i (map lent_line (drop l.i l.lines)))) ≡ sift_from [] (map Some (tracked 0 (map lent_line l.lines)));
}
