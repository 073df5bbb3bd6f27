use Rattle.std.proofs.Common.{◌≡◌, ◌++◌, drop}
use Rattle.st_linear.specs.Linear.{value}
use Rattle.spl_semantics.specs.Limits.{wide_form}
use Rattle.trace_player.specs.Columns.{stores, column}
use Rattle.trace_player.proofs.columns.numbers.Given as goal

abbrev pub invariant-loop-state : goal.invariant-loop-state
invariant-loop-state l =
    l.numbers.items ++ column (λ s. wide_form l.bound s) (λ s. value s.numbers l.bound) (stores (drop l.state-index l.states))
    ≡ column (λ s. wide_form l.bound s) (λ s. value s.numbers l.bound) (stores l.states)
