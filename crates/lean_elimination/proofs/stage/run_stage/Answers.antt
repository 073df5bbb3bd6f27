use Rattle.std.proofs.Common.{subst}
use Rattle.lean_elimination.specs.Arenas.{tracks, listed}
use Rattle.lean_elimination.specs.Placings.{GivesList}
use Rattle.lean_elimination.proofs.Solvers.{stage-none}
use Rattle.lean_elimination.proofs.stage.run_stage.Goals as goal

pub returns-in-None : goal.returns-in-None
returns-in-None c = subst (λ x. GivesList c.bound.result c.args.arena.now.rows.items c.bound.new.arena.rows.items x) (stage-none c.args.var (listed (tracks c.args.arena.now.rows.items) c.args.list.items) (rw c.deref.ensures.value at c.in-None.ensures)) (rw c.deref-in-None.ensures.value at c.bound.ensures)
