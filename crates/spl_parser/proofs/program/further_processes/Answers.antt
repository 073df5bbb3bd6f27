use Rattle.std.proofs.Common.{◌≡◌, ◌+◌, ◌∷◌, [], length, Ok, ◌∙◌, ap, arith, length-append}
use Rattle.std.proofs.lemmas.Result.{err_from_is_err_and}
use Rattle.std.proofs.lemmas.List.{map_push}
use Rattle.st_tokens.specs.Stream.{stream}
use Rattle.st_reading.specs.declared.mark.Mark.TheVariants as marks
use Rattle.st_reading.specs.Sign.{is}
use Rattle.st_reading.proofs.Loops.{linked_next, linked_ends, linked_fails}
use Rattle.spl_parser.specs.ProgramTree.{process_view, process_views}
use Rattle.spl_parser.specs.Programs.{totals}
use Rattle.spl_parser.proofs.program.further_processes.Goals as goal

pub returns-in_err-next-clause-reads : goal.returns-in_err-next-clause-reads
returns-in_err-next-clause-reads c =
    let p = err_from_is_err_and c.from_residual.result c.from_residual.ensures.1 in
    let reads = rw (c.len.ensures ∙ c.chain.processes.ok.0) at c.in_err-next.ensures.reads in
    rw (p.1, p.2) (linked_fails marks.Bars _ _ _ _ _ _ _ _ _ c.chain.invariant (c.chain-test.ensures ∙ ap (λ g. is g marks.Bars) c.ahead.ensures) c.advance.ensures reads)

pub chain-preserved : goal.chain-preserved
chain-preserved c =
    let reads = rw (c.len.ensures ∙ c.chain.processes.ok.0) at c.in_ok-next.ensures.reads in
    let grown : length c.chain.processes.items + 1 ≡ length c.push.new.self.items = omega (arith, ap length c.in_ok-push.ensures.items, length-append c.chain.processes.items (c.in_ok-next.next ∷ [])) in
    let read = reads ∙ ap (λ k. Ok ((process_view c.in_ok-next.next, totals k c.process.new.variables c.process.new.statements), stream c.process.new.tokens)) grown in
    linked_next marks.Bars _ _ _ _ _ _ _ _ _ _ _ _ c.chain.invariant (c.chain-test.ensures ∙ ap (λ g. is g marks.Bars) c.ahead.ensures) c.advance.ensures read c.in_ok-next.ensures.shrinks
    (ap process_views c.in_ok-push.ensures.items ∙ map_push process_view c.chain.processes.items c.in_ok-next.next)

pub returns-clause-reads : goal.returns-clause-reads
returns-clause-reads c = linked_ends marks.Bars _ _ _ _ _ _ _ c.chain.invariant (c.chain-test.ensures ∙ ap (λ g. is g marks.Bars) c.ahead.ensures)
