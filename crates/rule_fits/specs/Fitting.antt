-- Which nets and diagrams a law speaks of: helpers are just, and groups are compassionate. And which numbers a rule can make
-- less by 1.
use Rattle.std.specs.Prelude.{ℕ, List, [], ◌∷◌, map, Option, Some, ⊤, ◌≡◌, ◌<◌, ◌^◌, unsigned_abs}
use Rattle.st_linear.specs.Linear.{Linear}
use Rattle.observations.specs.declared.Fairness.{Fairness}
use Rattle.observations.specs.Observation.{IsJust, IsCompassionate}
use Rattle.observations.specs.RankedNet.{IfName}
use Rattle.transition_system.specs.Systems.{System}
use Rattle.temporal_goals.specs.Texts.{PlainNode, PlainLevel, PlainNestedNode, PlainDrawnNode}

abbrev pub fairness_of : System → List Fairness
fairness_of system = map (λ t. t.fairness) system.transitions

-- the helper is just and the group is compassionate, where there are any
pub record NodeFits (system : System) (helper group : Option ℕ) : Type 0 where
  pub just : IfName (IsJust (fairness_of system)) helper
  pub compassionate : IfName (IsCompassionate (fairness_of system)) group

abbrev pub NodesFit : System → List PlainNode → Type 0
NodesFit system [] = ⊤
NodesFit system (n ∷ ns) = NodeFits system n.helper n.group × NodesFit system ns

abbrev pub LevelsFit : System → List PlainLevel → Type 0
LevelsFit system [] = ⊤
LevelsFit system (l ∷ ls) = IsCompassionate (fairness_of system) l.group × LevelsFit system ls

abbrev pub NestedFit : System → List PlainNestedNode → Type 0
NestedFit system [] = ⊤
NestedFit system (n ∷ ns) = (IfName (IsJust (fairness_of system)) n.helper × LevelsFit system n.levels) × NestedFit system ns

-- the node has a just helper, and its number is above 0
pub record DrawnFits (system : System) (n : PlainDrawnNode) : Type 0 where
  pub helper : ℕ
  pub is : n.helper ≡ Some helper
  pub just : IsJust (fairness_of system) helper
  pub numbered : 0 < n.number

abbrev pub DrawnNodesFit : System → List PlainDrawnNode → Type 0
DrawnNodesFit system [] = ⊤
DrawnNodesFit system (n ∷ ns) = DrawnFits system n × DrawnNodesFit system ns

-- each node's number is a level above 0 of a goal with so many formulas
abbrev pub LevelsExist : ℕ → List PlainDrawnNode → Type 0
LevelsExist count [] = 0 < count
LevelsExist count (n ∷ ns) = (0 < n.number) × (n.number < count) × LevelsExist count ns

-- the number less 1 is a number: its constant is far from the limit of forms
abbrev pub CanFall : Linear → Type 0
CanFall f = unsigned_abs f.constant < 2 ^ 99
