use Rattle.std.proofs.Common.{◌<◌, ◌≤◌, ◌^◌, unsigned_abs, length, All, take_all, subst, arith}
use Rattle.std.proofs.lemmas.List.Elements.{All-more}
use Rattle.eager_search.proofs.guards.are_multipliers.Goals as goal

pub loop-pick-preserved : goal.loop-pick-preserved
loop-pick-preserved c =
    All-more (λ p. unsigned_abs p.1 < 2 ^ 40) c.args.picks.now c.loop-pick.pick-index _ c.loop-pick-test.true c.loop-pick.invariant
    (c.is_multiplier.ensures c.if-not-is_multiplier.false)

pub returns : goal.returns
returns c =
    let finished : length c.args.picks.now ≤ c.loop-pick.pick-index = omega (arith, c.loop-pick-test.false) in
    λ _. subst (All (λ p. unsigned_abs p.1 < 2 ^ 40)) (take_all c.loop-pick.pick-index c.args.picks.now finished) c.loop-pick.invariant
