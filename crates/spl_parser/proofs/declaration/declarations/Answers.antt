use Rattle.std.proofs.Common.{◌∙◌, ap, refl}
use Rattle.std.proofs.lemmas.Result.{err_from_is_err_and}
use Rattle.std.proofs.lemmas.List.{map_push}
use Rattle.st_reading.proofs.Loops.{counting_next, counting_ends, counting_fails}
use Rattle.spl_parser.specs.Signs.{mode}
use Rattle.spl_parser.specs.ProgramTree.{declaration_view, declaration_views}
use Rattle.spl_parser.specs.Programs.{declaration_of, usual}
use Rattle.spl_parser.proofs.declaration.declarations.Goals as goal

pub returns-in_err-next-clause-reads : goal.returns-in_err-next-clause-reads
returns-in_err-next-clause-reads c =
    let p = err_from_is_err_and c.from_residual.result c.from_residual.ensures.1 in
    rw (p.1, p.2) (counting_fails mode (declaration_of usual) _ refl _ _ _ _ _ _ _ _ c.chain.invariant (c.in-Some.ensures ∙ ap mode c.ahead.ensures) c.advance.ensures c.in_err-next.ensures.reads)

pub chain-preserved : goal.chain-preserved
chain-preserved c =
    counting_next mode (declaration_of usual) _ refl _ _ _ _ _ _ _ _ _ _ _ c.chain.invariant (c.in-Some.ensures ∙ ap mode c.ahead.ensures) c.advance.ensures c.in_ok-next.ensures.reads c.in_ok-next.ensures.shrinks
    (ap declaration_views c.in_ok-push.ensures.items ∙ map_push declaration_view c.chain.declarations.items c.in_ok-next.next)

pub returns-clause-reads : goal.returns-clause-reads
returns-clause-reads c = counting_ends mode (declaration_of usual) _ refl _ _ _ _ _ c.chain.invariant (c.in_default.ensures ∙ ap mode c.ahead.ensures)
