use Rattle.std.proofs.Common.{◌≡◌, ℕ, drop}
use Rattle.std.specs.Prelude.{◌&&◌, ◌||◌, not}
use Rattle.st_form.specs.Exchange.{is_listed}
use Rattle.shown_states.proofs.successors.fronts_behind.Given as goal

abbrev pub invariant-loop-front : goal.invariant-loop-front
invariant-loop-front l = (k : ℕ) → (is_listed k l.out.items || (not (is_listed k l.change.leaves.items) && is_listed k (drop l.front-index l.fronts)))
    ≡ (is_listed k l.change.enters.items || (not (is_listed k l.change.leaves.items) && is_listed k l.fronts))
