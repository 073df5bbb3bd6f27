use Rattle.std.proofs.Common.{◌∙◌, ap, refl}
use Rattle.std.proofs.lemmas.Result.{err_from_is_err_and}
use Rattle.st_program.specs.Plain.{plain_children}
use Rattle.schedule_reader.specs.Moves.{opening_in, next_move_of}
use Rattle.schedule_reader.proofs.Going.{goes_on, ends_so, fails_so}
use Rattle.schedule_reader.proofs.reading.moves.Goals as goal

pub returns-in_err-next_move-clause-reads : goal.returns-in_err-next_move-clause-reads
returns-in_err-next_move-clause-reads c =
    let p = err_from_is_err_and c.from_residual.result c.from_residual.ensures.1 in
    rw (p.1, p.2) (fails_so opening_in (next_move_of c.args.names.now (plain_children c.args.program.now.processes)) refl _ _ _ _ c.items.invariant _ _ _ _ (c.in-Some.ensures ∙ ap opening_in c.ahead.ensures) c.name_ahead-first.ensures c.advance.ensures c.in_err-next_move.ensures.reads)

pub items-preserved : goal.items-preserved
items-preserved c =
    goes_on opening_in (next_move_of c.args.names.now (plain_children c.args.program.now.processes)) refl _ _ _ _ c.items.invariant _ _ _ _ _ (c.in-Some.ensures ∙ ap opening_in c.ahead.ensures) c.name_ahead-first.ensures c.advance.ensures c.in_ok-next_move.ensures.reads c.in_ok-next_move.ensures.shrinks

pub returns-clause-reads : goal.returns-clause-reads
returns-clause-reads c = ends_so opening_in (next_move_of c.args.names.now (plain_children c.args.program.now.processes)) refl _ _ _ _ c.items.invariant (c.in_default.ensures ∙ ap opening_in c.ahead.ensures)
