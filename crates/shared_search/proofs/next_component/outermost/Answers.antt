use Rattle.std.proofs.Common.{◌-◌, arith, sym, ◌∙◌, ap}
use Rattle.search_laws.specs.Moves.{or_else}
use Rattle.shared_search.proofs.Choosing.{outer}
use Rattle.shared_search.proofs.next_component.outermost.Goals as goal

pub loop-left-preserved : goal.loop-left-preserved
loop-left-preserved c =
    outer c.args.parts.now c.args.cases.now (c.loop-left.left - 1) c.loop-left.left c.loop-left.inner c.in-Some.way c.loop-left.best c.or_else-best.result _ (omega arith)
    (sym c.around_at.ensures ∙ c.in-Some.is) (c.or_else-best.ensures ∙ ap (λ o. or_else o c.loop-left.best) c.if_undecided.ensures) c.loop-left.invariant
