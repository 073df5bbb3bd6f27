use Rattle.std.proofs.Common.{◌<◌, ◌≤◌, ◌^◌, unsigned_abs, length, All, take_all, subst, arith}
use Rattle.std.proofs.lemmas.List.Elements.{All-more}
use Rattle.eager_search.proofs.guards.are_small.Goals as goal

pub loop-entry-preserved : goal.loop-entry-preserved
loop-entry-preserved c =
    All-more (λ e. unsigned_abs e.1 < 2 ^ 69) c.args.entries.now c.loop-entry.entry-index _ c.loop-entry-test.true c.loop-entry.invariant
    (c.is_small.ensures c.if-not-is_small.false)

pub returns : goal.returns
returns c =
    let finished : length c.args.entries.now ≤ c.loop-entry.entry-index = omega (arith, c.loop-entry-test.false) in
    λ _. subst (All (λ e. unsigned_abs e.1 < 2 ^ 69)) (take_all c.loop-entry.entry-index c.args.entries.now finished) c.loop-entry.invariant
