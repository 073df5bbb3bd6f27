use Rattle.std.proofs.lemmas.Result.{err_from_is_err_and}
use Rattle.transition_system.specs.Plain.{plain_transition}
use Rattle.vc_generator.specs.Walks.{numbered_from}
use Rattle.vc_generator.proofs.Growing.{left-next, left-refused, left-on}
use Rattle.vc_generator.proofs.Counted.{few-at}
use Rattle.vc_generator.proofs.walk.each_transition.Goals as goal

pub returns-in_err-each_of : goal.returns-in_err-each_of
returns-in_err-each_of g c =
    let p = err_from_is_err_and c.from_residual.result c.from_residual.ensures.1 in
    let next = left-next plain_transition (λ n t. numbered_from (λ k m. g.P.PerMode.asks c.args.rule.now n t k m) 1 t.modes) c.loop-index.index c.loop-index.index c.args.transitions.now c.index-transitions-index.result _ _ _ c.loop-index-test.true c.index-transitions-index.is c.loop-index.invariant in
    rw (p.1, p.2) (left-refused _ _ _ _ _ _ c.in_err-each_of.field-0.0 next c.in_err-each_of.ensures.0 c.in_err-each_of.ensures.1)

pub loop-index-preserved : goal.loop-index-preserved
loop-index-preserved g c =
    let next = left-next plain_transition (λ n t. numbered_from (λ k m. g.P.PerMode.asks c.args.rule.now n t k m) 1 t.modes) c.loop-index.index c.loop-index.index c.args.transitions.now c.index-transitions-index.result _ _ _ c.loop-index-test.true c.index-transitions-index.is c.loop-index.invariant in
    left-on _ _ _ _ _ _ next c.in_ok-each_of.ensures.0 c.in_ok-each_of.ensures.1

pub each_of-requires : goal.each_of-requires
each_of-requires g c = few-at c.args.transitions.now c.loop-index.index c.index-transitions-index.result _ c.loop-index-test.true c.index-transitions-index.is c.requires.few
