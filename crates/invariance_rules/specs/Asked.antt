-- What an invariance asks of a system.
use Rattle.std.specs.Prelude.{ℕ, List, [], Option}
use Rattle.st_form.specs.Formula.{Formula}
use Rattle.transition_system.specs.Systems.{System}
use Rattle.temporal_goals.specs.Texts.{PlainGoal, invariant, waiting, response}
use Rattle.vc_generator.specs.Building.{Draft}
use Rattle.rule_laws.specs.Invariance.{invariance_list}

-- the goal is an invariance
abbrev pub IsInvariance : PlainGoal → Type 0
IsInvariance (invariant p) = Unit {0}
IsInvariance (waiting p forms) = ⊥
IsInvariance (response p q e) = ⊥

-- the conditions of an invariance; of another goal none
abbrev pub invariance_asks : PlainGoal → Option Formula → List Formula → System → ℕ → List Draft
invariance_asks (invariant p) stronger lemmas system step = invariance_list step system lemmas p stronger
invariance_asks (waiting p forms) stronger lemmas system step = []
invariance_asks (response p q e) stronger lemmas system step = []
