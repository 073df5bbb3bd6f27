use Rattle.std.proofs.Common.{arith, map, subst}
use Rattle.std.proofs.lemmas.List.{length-map}
use Rattle.farkas_leaf.specs.Lent.{lent_line}
use Rattle.std.proofs.lemmas.Result.{err_from_is_err_and}
use Rattle.lean_elimination.specs.Arenas.{tracks}
use Rattle.lean_elimination.specs.Placings.{Ends}
use Rattle.lean_elimination.proofs.Skipping.{ending-stop, ending-is, first-few, length-listed}
use Rattle.lean_elimination.proofs.top.run.Goals as goal

pub returns-in_err-first : goal.returns-in_err-first
returns-in_err-first c =
    let p = err_from_is_err_and c.from_residual.result c.from_residual.ensures.1 in
    rw (p.1, p.2) (ending-stop (map lent_line c.args.lines.now) c.args.variables _ c.in_err-first.field-0.0 (omega (arith, length-map c.args.lines.now lent_line)) c.in_err-first.ensures)

pub all_stages-requires-clause-stay : goal.all_stages-requires-clause-stay
all_stages-requires-clause-stay c = (first-few (map lent_line c.args.lines.now) _ c.in_ok-first.ensures.same).stay

pub all_stages-requires-clause-few : goal.all_stages-requires-clause-few
all_stages-requires-clause-few c = omega (arith, (first-few (map lent_line c.args.lines.now) _ c.in_ok-first.ensures.same).few, length-listed (tracks c.first_rows.new.arena.rows.items) c.in_ok-first.first.items)

pub returns : goal.returns
returns c = subst (λ e. Ends c.all_stages.result (tracks c.all_stages.new.arena.rows.items) e) (ending-is (map lent_line c.args.lines.now) c.args.variables _ (omega (arith, length-map c.args.lines.now lent_line)) c.in_ok-first.ensures.same) c.all_stages.ensures
