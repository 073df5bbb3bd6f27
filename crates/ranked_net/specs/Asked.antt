-- What a ranked net asks of a system.
use Rattle.std.specs.Prelude.{ℕ, ◌^◌, ◌<◌, List, [], ◌∷◌, length, ⊤}
use Rattle.st_form.specs.Formula.{Formula}
use Rattle.transition_system.specs.Systems.{System}
use Rattle.temporal_goals.specs.Texts.{PlainGoal, invariant, waiting, response, PlainNode}
use Rattle.vc_generator.specs.Building.{Draft}
use Rattle.rule_laws.specs.RankedNet.{ranked_list}
use Rattle.rule_fits.specs.Fitting.{CanFall, NodesFit}

-- the numbers of each node that a step may have to lower
abbrev pub NodesCanFall : List PlainNode → Type 0
NodesCanFall [] = ⊤
NodesCanFall (n ∷ ns) = CanFall n.base × CanFall n.delay × NodesCanFall ns

-- the goal is a response within a number of rounds that can be lowered by 1; the nodes are fewer than 2^32, so can their
-- numbers be lowered, their helpers are just and their groups compassionate
abbrev pub RankedFits : PlainGoal → List PlainNode → System → Type 0
RankedFits (invariant p) nodes system = ⊥
RankedFits (waiting p forms) nodes system = ⊥
RankedFits (response p q e) nodes system = CanFall e × (length nodes < 2 ^ 32) × NodesCanFall nodes × NodesFit system nodes

-- the conditions of a response by a ranked net; of another goal none
abbrev pub ranked_asks : PlainGoal → List PlainNode → List Formula → System → ℕ → List Draft
ranked_asks (invariant p) nodes lemmas system step = []
ranked_asks (waiting p forms) nodes lemmas system step = []
ranked_asks (response p q e) nodes lemmas system step = ranked_list step system lemmas p q e nodes
