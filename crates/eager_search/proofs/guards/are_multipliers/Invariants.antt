use Rattle.std.specs.Prelude.{◌<◌, ◌^◌, unsigned_abs}
use Rattle.std.proofs.Common.{All, take}
use Rattle.eager_search.proofs.guards.are_multipliers.Given as goal

abbrev pub invariant-loop-pick : goal.invariant-loop-pick
invariant-loop-pick l = All (λ p. unsigned_abs p.1 < 2 ^ 40) (take l.pick-index l.picks)
