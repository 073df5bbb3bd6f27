use Rattle.std.proofs.Common.{◌≡◌, ◌++◌, drop, take}
use Rattle.elimination_laws.specs.Stages.{solver, others}
use Rattle.lean_elimination.specs.Arenas.{tracks, listed}
use Rattle.lean_elimination.proofs.stage.solver_at.Given as goal

abbrev pub invariant-loop-i : goal.invariant-loop-i
invariant-loop-i l = record {
  left : solver l.var (listed (tracks l.arena.rows.items) (drop l.i l.list)) ≡ solver l.var (listed (tracks l.arena.rows.items) l.list);
  rest : listed (tracks l.arena.rows.items) (take l.i l.list) ++ others l.var (listed (tracks l.arena.rows.items) (drop l.i l.list)) ≡ others l.var (listed (tracks l.arena.rows.items) l.list);
}
