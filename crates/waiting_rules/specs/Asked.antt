-- What nested waiting-for asks of a system.
use Rattle.std.specs.Prelude.{◌≡◌, ℕ, ◌≤◌, List, [], length}
use Rattle.st_form.specs.Formula.{Formula}
use Rattle.transition_system.specs.Systems.{System}
use Rattle.temporal_goals.specs.Texts.{PlainGoal, invariant, waiting, response}
use Rattle.vc_generator.specs.Building.{Draft}
use Rattle.rule_laws.specs.WaitingFor.{waiting_list}

-- the goal is nested waiting-for, with as many formulas as there are levels, which are at most 64
abbrev pub HasLevels : PlainGoal → List Formula → Type 0
HasLevels (invariant p) levels = ⊥
HasLevels (waiting p goals) levels = (length levels ≡ length goals) × (length levels ≤ 64)
HasLevels (response p q e) levels = ⊥

-- the conditions of nested waiting-for; of another goal none
abbrev pub waiting_asks : PlainGoal → List Formula → List Formula → System → ℕ → List Draft
waiting_asks (invariant p) levels lemmas system step = []
waiting_asks (waiting p goals) levels lemmas system step = waiting_list step system lemmas p goals levels
waiting_asks (response p q e) levels lemmas system step = []
