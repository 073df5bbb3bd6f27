use Rattle.std.specs.Prelude.{◌<◌, ◌^◌, unsigned_abs}
use Rattle.std.proofs.Common.{All, take}
use Rattle.eager_search.proofs.guards.are_small.Given as goal

abbrev pub invariant-loop-entry : goal.invariant-loop-entry
invariant-loop-entry l = All (λ e. unsigned_abs e.1 < 2 ^ 69) (take l.entry-index l.entries)
