use Rattle.std.proofs.Common.{◌∙◌, sym}
use Rattle.std.proofs.lemmas.Result.{err_from_is_err_and}
use Rattle.diagram_reader.proofs.Stopping.{terminal_stops, terminal_some, refused_stop}
use Rattle.diagram_reader.proofs.item.terminal.Goals as goal

pub returns-in_err-expect-2-clause-reads : goal.returns-in_err-expect-2-clause-reads
returns-in_err-expect-2-clause-reads c =
    let p = err_from_is_err_and c.from_residual-in_err-expect-2.result c.from_residual-in_err-expect-2.ensures.1 in
    rw p.1 (terminal_stops _ _ _ _ _ _ _ _ c.in_ok-expect.ensures.refuses c.in_ok-form.ensures.reads _ (terminal_some _ ∙ sym c.is_some.ensures ∙ c.if-is_some.false)
    (refused_stop _ _ _ p.2 c.in_err-expect-2.ensures.refuses))
