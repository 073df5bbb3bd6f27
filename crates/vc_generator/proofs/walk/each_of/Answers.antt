use Rattle.std.proofs.Common.{arith, ◌+◌, ◌<◌, length}
use Rattle.std.proofs.lemmas.Result.{err_from_is_err_and}
use Rattle.transition_system.specs.Plain.{plain_mode, plain_transition}
use Rattle.vc_generator.proofs.Growing.{left-next, left-refused, left-on}
use Rattle.vc_generator.proofs.walk.each_of.Goals as goal

pub returns-in_err-append : goal.returns-in_err-append
returns-in_err-append g c =
    let p = err_from_is_err_and c.from_residual.result c.from_residual.ensures.1 in
    let below : c.loop-index.index < length c.args.transition.now.modes.items = omega (arith, c.loop-index-test.true, c.len-index-end.ensures) in
    let next = left-next plain_mode (λ k m. g.P.PerMode.asks c.args.rule.now c.args.number (plain_transition c.args.transition.now) k m) (c.loop-index.index + 1) c.loop-index.index c.args.transition.now.modes.items c.index-mode.result.now _ _ _ below c.index-mode.ensures c.loop-index.invariant in
    rw (p.1, p.2) (left-refused _ _ _ _ _ _ c.in_err-append.field-0.0 next c.in_err-append.ensures.0 c.in_err-append.ensures.1)

pub loop-index-preserved : goal.loop-index-preserved
loop-index-preserved g c =
    let below : c.loop-index.index < length c.args.transition.now.modes.items = omega (arith, c.loop-index-test.true, c.len-index-end.ensures) in
    let next = left-next plain_mode (λ k m. g.P.PerMode.asks c.args.rule.now c.args.number (plain_transition c.args.transition.now) k m) (c.loop-index.index + 1) c.loop-index.index c.args.transition.now.modes.items c.index-mode.result.now _ _ _ below c.index-mode.ensures c.loop-index.invariant in
    left-on _ _ _ _ _ _ next c.in_ok-append.ensures.0 c.in_ok-append.ensures.1
