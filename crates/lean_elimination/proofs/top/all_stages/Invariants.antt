use Rattle.std.proofs.Common.{◌≡◌, ◌≤◌, ◌-◌, ℕ, length, List, ℤ}
use Rattle.elimination_laws.specs.Stages.{stages, contradiction}
use Rattle.lean_elimination.specs.Arenas.{tracks, listed, AllUnder}
use Rattle.lean_elimination.specs.Placings.{AllStay}
use Rattle.lean_elimination.proofs.top.all_stages.Given as goal

abbrev pub invariant-loop-v : goal.invariant-loop-v
invariant-loop-v l = record {
  under : AllUnder (length l.arena.rows.items) l.current.items;
  stay : AllStay (listed (tracks l.arena.rows.items) l.current.items);
  few : length l.current.items ≤ 4096;
  same : (ps : List (ℕ × ℤ)) → stages (l.variables - l.v) l.v (listed (tracks l.arena.rows.items) l.current.items) ≡ contradiction ps → stages l.variables 0 (listed (tracks l.fn.arena.rows.items) l.fn.list.items) ≡ contradiction ps;
}
