use Rattle.std.proofs.Common.{ap, sym, subst, ◌∙◌, ◌<◌, length, Some}
use Rattle.row_elimination.proofs.Sifting.{solver-has, made-solved}
use Rattle.lean_elimination.specs.Arenas.{tracks, row_at, listed}
use Rattle.lean_elimination.specs.Placings.{GivesList}
use Rattle.lean_elimination.proofs.Growing.{under-at, under-without}
use Rattle.lean_elimination.proofs.stage.eliminate_by.Goals as goal

pub solve-requires-clause-equation : goal.solve-requires-clause-equation
solve-requires-clause-equation c = subst (λ k. k < length c.args.arena.now.rows.items) (sym c.remove-equation.ensures.value) (under-at (length c.args.arena.now.rows.items) c.args.list.items c.args.i c.remove-equation.result c.requires.list c.requires.solver.within)

pub solve-requires-clause-list : goal.solve-requires-clause-list
solve-requires-clause-list c = rw (c.deref.ensures.value, c.remove-equation.ensures.by_index.2) (under-without (length c.args.arena.now.rows.items) c.args.list.items c.args.i c.requires.list)

pub solve-requires-clause-solves : goal.solve-requires-clause-solves
solve-requires-clause-solves c = solver-has c.args.var (listed (tracks c.args.arena.now.rows.items) c.args.list.items) (row_at (tracks c.args.arena.now.rows.items) c.remove-equation.result) (c.requires.solver.here c.remove-equation.result ∙ ap (λ k. Some (row_at (tracks c.args.arena.now.rows.items) k)) (sym c.remove-equation.ensures.value))

pub returns : goal.returns
returns c =
    let r = c.requires.solver.rest ∙ ap (listed (tracks c.args.arena.now.rows.items)) (sym c.remove-equation.ensures.by_index.2) in
    subst (λ x. GivesList c.solve.result c.args.arena.now.rows.items c.solve.new.arena.rows.items x) (made-solved c.args.var (listed (tracks c.args.arena.now.rows.items) c.args.list.items) (row_at (tracks c.args.arena.now.rows.items) c.remove-equation.result) _ (c.requires.solver.here c.remove-equation.result ∙ ap (λ k. Some (row_at (tracks c.args.arena.now.rows.items) k)) (sym c.remove-equation.ensures.value)) r) (rw c.deref.ensures.value at c.solve.ensures)
