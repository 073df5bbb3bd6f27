-- What a nested net asks of a system.
use Rattle.std.specs.Prelude.{ℕ, ◌^◌, ◌<◌, List, [], ◌∷◌, length, ⊤}
use Rattle.st_form.specs.Formula.{Formula}
use Rattle.transition_system.specs.Systems.{System}
use Rattle.temporal_goals.specs.Texts.{PlainGoal, invariant, waiting, response, PlainLevel, PlainNestedNode}
use Rattle.vc_generator.specs.Building.{Draft}
use Rattle.rule_laws.specs.NestedNet.{nested_list}
use Rattle.rule_fits.specs.Fitting.{CanFall, NestedFit}

abbrev pub LevelsCanFall : List PlainLevel → Type 0
LevelsCanFall [] = ⊤
LevelsCanFall (l ∷ ls) = CanFall l.base × LevelsCanFall ls

-- the numbers of a node that a step may have to lower
abbrev pub NodeCanFall : PlainNestedNode → Type 0
NodeCanFall n = CanFall n.delay × LevelsCanFall n.levels

abbrev pub NodesCanFall : List PlainNestedNode → Type 0
NodesCanFall [] = ⊤
NodesCanFall (n ∷ ns) = NodeCanFall n × NodesCanFall ns

-- the goal is a response within a number of rounds that can be lowered by 1; the nodes are fewer than 2^32, so can their
-- numbers be lowered, their helpers are just and their groups compassionate
abbrev pub NestedFits : PlainGoal → List PlainNestedNode → System → Type 0
NestedFits (invariant p) nodes system = ⊥
NestedFits (waiting p forms) nodes system = ⊥
NestedFits (response p q e) nodes system = CanFall e × (length nodes < 2 ^ 32) × NodesCanFall nodes × NestedFit system nodes

-- the conditions of a response by a nested net; of another goal none
abbrev pub nested_asks : PlainGoal → List PlainNestedNode → List Formula → System → ℕ → List Draft
nested_asks (invariant p) nodes lemmas system step = []
nested_asks (waiting p forms) nodes lemmas system step = []
nested_asks (response p q e) nodes lemmas system step = nested_list step system lemmas p q e nodes
