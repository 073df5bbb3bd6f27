use Rattle.std.proofs.Common.{◌≡◌, drop}
use Rattle.st_linear.specs.Linear.{form_for}
use Rattle.shown_states.proofs.stores.sum_for.Given as goal

abbrev pub invariant-loop-pair : goal.invariant-loop-pair
invariant-loop-pair l = form_for l.variable (drop l.pair-index l.numbers) ≡ form_for l.variable l.numbers
