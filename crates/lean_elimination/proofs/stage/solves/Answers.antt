use Rattle.std.proofs.Common.{ap, sym, ◌∙◌}
use mir.Syntax.{w64}
use mir.Val.{of_z}
use Rattle.st_linear.specs.Linear.{is_zero}
use Rattle.row_elimination.proofs.Factors.{not-zero}
use Rattle.lean_elimination.specs.Arenas.{tracks, row_at}
use Rattle.lean_elimination.proofs.Growing.{row-is}
use Rattle.lean_elimination.proofs.Solvers.{solves-not, solves-yes}
use Rattle.lean_elimination.proofs.stage.solves.Goals as goal

pub returns-then-not-index : goal.returns-then-not-index
returns-then-not-index c = solves-not c.args.var (row_at (tracks c.args.arena.now.rows.items) c.args.k) (ap (λ t. t.equal) (row-is c.args.arena.now.rows.items c.args.k c.index.result.now c.requires c.index.ensures) ∙ c.if-not-index.true)

pub returns : goal.returns
returns c = solves-yes c.args.var (row_at (tracks c.args.arena.now.rows.items) c.args.k) (ap (λ t. t.equal) (row-is c.args.arena.now.rows.items c.args.k c.index.result.now c.requires c.index.ensures) ∙ c.if-not-index.false) (ap is_zero (sym c.part_at.ensures.value) ∙ not-zero c.part_at.result (λ e. c.if-part_at-eq0.false (ap (of_z w64) e)))
