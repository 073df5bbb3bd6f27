-- How many conditions a rule has, as a sum: what it asks once, and what it asks of each mode of the system.
use Rattle.std.specs.Prelude.{ℕ, ◌+◌, ◌-◌, ◌*◌, min, List, [], ◌∷◌, length}
use Rattle.transition_system.specs.Systems.{PlainTransition}
use Rattle.temporal_goals.specs.declared.diagrams.DiagramKind.{DiagramKind}
use Rattle.temporal_goals.specs.declared.diagrams.DiagramKind.TheVariants.{Wait, Chain, Rank}
use Rattle.temporal_goals.specs.Texts.{PlainGoal, invariant, waiting, response, PlainRule, basic, stronger, levels, net, diagram, nested, PlainStep}

-- how many modes there are
abbrev pub modes_among : List PlainTransition → ℕ
modes_among [] = 0
modes_among (t ∷ ts) = length t.modes + modes_among ts

-- so much once, and of each mode that it keeps the formula
abbrev pub invariance_sum : ℕ → ℕ → PlainGoal → ℕ
invariance_sum once modes (invariant p) = once + 1 * modes
invariance_sum once modes (waiting p qs) = 1
invariance_sum once modes (response p q e) = 1

-- a cover, each level, and the moves of each level above 0
abbrev pub levels_sum : ℕ → ℕ → PlainGoal → ℕ
levels_sum count modes (invariant p) = 1
levels_sum count modes (waiting p qs) = (1 + min count (length qs)) + (count - 1) * modes
levels_sum count modes (response p q e) = 1

-- a cover, and of each node a rank, a help and its moves
abbrev pub nodes_sum : ℕ → ℕ → PlainGoal → ℕ
nodes_sum count modes (invariant p) = 1
nodes_sum count modes (waiting p qs) = 1
nodes_sum count modes (response p q e) = (1 + (count + count)) + count * modes

-- of a wait diagram a cover, each level and 0, and each node's moves
abbrev pub waiting_sum : DiagramKind → ℕ → ℕ → ℕ
waiting_sum Wait count modes = (2 + count) + count * modes
waiting_sum Chain count modes = 1
waiting_sum Rank count modes = 1

-- of a chain diagram target and cover, and of each node a help and its moves; of a rank diagram a rank too
abbrev pub response_sum : DiagramKind → ℕ → ℕ → ℕ
response_sum Wait count modes = 1
response_sum Chain count modes = (2 + count) + count * modes
response_sum Rank count modes = (2 + (count + count)) + count * modes

abbrev pub diagram_sum : DiagramKind → ℕ → ℕ → PlainGoal → ℕ
diagram_sum kind count modes (invariant p) = 1
diagram_sum kind count modes (waiting p qs) = waiting_sum kind count modes
diagram_sum kind count modes (response p q e) = response_sum kind count modes

abbrev pub rule_sum : ℕ → PlainGoal → PlainRule → ℕ
rule_sum modes goal basic = invariance_sum 1 modes goal
rule_sum modes goal (stronger f) = invariance_sum 2 modes goal
rule_sum modes goal (levels fs) = levels_sum (length fs) modes goal
rule_sum modes goal (net ns) = nodes_sum (length ns) modes goal
rule_sum modes goal (nested ns) = nodes_sum (length ns) modes goal
rule_sum modes goal (diagram d) = diagram_sum d.kind (length d.nodes) modes goal

abbrev pub step_sum : ℕ → PlainStep → ℕ
step_sum modes s = rule_sum modes s.goal s.rule
