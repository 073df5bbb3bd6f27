-- Which nodes make a net: a helper is just, a group is compassionate, and each node has one of them.
use Rattle.std.specs.Prelude.{◌≡◌, ℕ, ◌+◌, Bool, true, false, not, if◌then◌else◌, is_some, List, [], ◌∷◌, slice_get, Option, Some, None, Result, Ok, Err}
use Rattle.observations.specs.declared.Fairness.{Fairness}
use Rattle.observations.specs.declared.Fairness.TheVariants.{Unfair, Just, Compassionate}
use Rattle.transition_system.specs.Systems.{System}
use Rattle.temporal_goals.specs.Texts.{PlainNode}
use Rattle.temporal_goals.specs.Plain.{plain_net}
use Rattle.temporal_goals.specs.declared.nets.Net.{Net}
use Rattle.rule_fits.specs.Fitting.{fairness_of}
use Rattle.ranked_net.specs.declared.faults.NetFault.{NetFault}
use Rattle.ranked_net.specs.declared.faults.NetFault.TheVariants as faults

-- justice is owed; a compassionate transition is just as well
abbrev pub owes_justice : Option Fairness → Bool
owes_justice None = false
owes_justice (Some Unfair) = false
owes_justice (Some Just) = true
owes_justice (Some Compassionate) = true

abbrev pub owes_compassion : Option Fairness → Bool
owes_compassion None = false
owes_compassion (Some Unfair) = false
owes_compassion (Some Just) = false
owes_compassion (Some Compassionate) = true

-- there is a helper that isn't just
abbrev pub is_unfair : System → Option ℕ → Bool
is_unfair system None = false
is_unfair system (Some h) = not (owes_justice (slice_get (fairness_of system) h))

-- there is a group that isn't compassionate
abbrev pub is_uncompassionate : System → Option ℕ → Bool
is_uncompassionate system None = false
is_uncompassionate system (Some g) = not (owes_compassion (slice_get (fairness_of system) g))

-- the first rule that the node of this number breaks
abbrev pub node_fault : System → ℕ → Option ℕ → Option ℕ → Option NetFault
node_fault system i helper group =
    if is_unfair system helper then Some (faults.UnfairHelper i)
    else (if is_uncompassionate system group then Some (faults.NotCompassionate i)
    else (if is_some helper then None else (if is_some group then None else Some (faults.NoHelper i))))

abbrev pub or_fault : Option NetFault → Option NetFault → Option NetFault
or_fault None rest = rest
or_fault (Some fault) rest = Some fault

-- the first rule that a node breaks, of nodes that are numbered from a number on
abbrev pub first_fault : System → ℕ → List PlainNode → Option NetFault
first_fault system i [] = None
first_fault system i (n ∷ ns) = or_fault (node_fault system i n.helper n.group) (first_fault system (i + 1) ns)

-- what making a net of the nodes answers: the net with these nodes exactly where none breaks a rule, else the first fault
abbrev pub MakesNet : Result Net NetFault → System → List PlainNode → Type 0
MakesNet (Ok net) system nodes = (first_fault system 0 nodes ≡ None) × (plain_net net ≡ nodes)
MakesNet (Err fault) system nodes = first_fault system 0 nodes ≡ Some fault
