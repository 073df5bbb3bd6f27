-- Which nodes make a nested net: a helper is just, each group is compassionate, and each node has a helper or a group.
use Rattle.std.specs.Prelude.{◌≡◌, ℕ, ◌+◌, Bool, false, ◌||◌, if◌then◌else◌, List, [], ◌∷◌, Option, Some, None, Result, Ok, Err}
use Rattle.transition_system.specs.Systems.{System}
use Rattle.temporal_goals.specs.Texts.{PlainLevel, PlainNestedNode}
use Rattle.temporal_goals.specs.Plain.{plain_nested}
use Rattle.temporal_goals.specs.declared.nested.NestedNet.{NestedNet}
use Rattle.ranked_net.specs.Making.{is_unfair, is_uncompassionate}
use Rattle.nested_net.specs.declared.faults.NestedFault.{NestedFault}
use Rattle.nested_net.specs.declared.faults.NestedFault.TheVariants as faults

-- some group isn't compassionate
abbrev pub some_uncompassionate : System → List PlainLevel → Bool
some_uncompassionate system [] = false
some_uncompassionate system (l ∷ ls) = is_uncompassionate system (Some l.group) || some_uncompassionate system ls

-- a fault of a node without groups, unless it has a helper
abbrev pub unless_helped : ℕ → Option ℕ → List PlainLevel → Option NestedFault
unless_helped i (Some h) ls = None
unless_helped i None (l ∷ ls) = None
unless_helped i None [] = Some (faults.NoHelper i)

-- the first rule that the node of this number breaks
abbrev pub node_fault : System → ℕ → PlainNestedNode → Option NestedFault
node_fault system i n =
    if is_unfair system n.helper then Some (faults.UnfairHelper i)
    else (if some_uncompassionate system n.levels then Some (faults.NotCompassionate i)
    else unless_helped i n.helper n.levels)

abbrev pub or_fault : Option NestedFault → Option NestedFault → Option NestedFault
or_fault None rest = rest
or_fault (Some fault) rest = Some fault

-- the first rule that a node breaks, of nodes that are numbered from a number on
abbrev pub first_fault : System → ℕ → List PlainNestedNode → Option NestedFault
first_fault system i [] = None
first_fault system i (n ∷ ns) = or_fault (node_fault system i n) (first_fault system (i + 1) ns)

-- what making a net of the nodes answers: the net with these nodes exactly where none breaks a rule, else the first fault
abbrev pub MakesNested : Result NestedNet NestedFault → System → List PlainNestedNode → Type 0
MakesNested (Ok net) system nodes = (first_fault system 0 nodes ≡ None) × (plain_nested net ≡ nodes)
MakesNested (Err fault) system nodes = first_fault system 0 nodes ≡ Some fault
