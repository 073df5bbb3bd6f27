-- Nodes that break no rule fit, and the next node of the walk that looks for the first fault.
use Rattle.std.proofs.Common.{◌≡◌, ◌∙◌, ap, sym, refl, ℕ, ◌+◌, ◌<◌, Bool, true, false, not, if◌then◌else◌, List, [], ◌∷◌, length, map, drop, get_or, slice_get, Option, Some, None, ◌⊎◌, inl, inr}
use Rattle.std.proofs.lemmas.Bool.{false≢true}
use Rattle.std.proofs.lemmas.Option.{none-some}
use Rattle.std.proofs.lemmas.List.{drop_more}
use Rattle.observations.specs.declared.Fairness.{Fairness}
use Rattle.observations.specs.declared.Fairness.TheVariants.{Unfair, Just, Compassionate}
use Rattle.observations.specs.Observation.{IsJust, IsCompassionate}
use Rattle.observations.specs.RankedNet.{IfName}
use Rattle.transition_system.specs.Systems.{System}
use Rattle.temporal_goals.specs.Texts.{PlainNode}
use Rattle.temporal_goals.specs.Plain.{plain_node}
use Rattle.temporal_goals.specs.declared.nets.Node.{Node}
use Rattle.rule_fits.specs.Fitting.{fairness_of, NodeFits, NodesFit}
use Rattle.ranked_net.specs.Making.{owes_justice, owes_compassion, is_unfair, is_uncompassionate, node_fault, or_fault, first_fault}
use Rattle.ranked_net.specs.declared.faults.NetFault.{NetFault}
use Rattle.ranked_net.specs.declared.faults.NetFault.TheVariants as faults

not-false : (b : Bool) → not b ≡ false → b ≡ true
not-false true e = refl
not-false false e = absurd (false≢true (sym e))

just-is : (o : Option Fairness) → owes_justice o ≡ true → (o ≡ Some Just) ⊎ (o ≡ Some Compassionate)
just-is None e = absurd (false≢true e)
just-is (Some Unfair) e = absurd (false≢true e)
just-is (Some Just) e = inl refl
just-is (Some Compassionate) e = inr refl

compassionate-is : (o : Option Fairness) → owes_compassion o ≡ true → o ≡ Some Compassionate
compassionate-is None e = absurd (false≢true e)
compassionate-is (Some Unfair) e = absurd (false≢true e)
compassionate-is (Some Just) e = absurd (false≢true e)
compassionate-is (Some Compassionate) e = refl

pub helper-fits : (system : System) (h : Option ℕ) → is_unfair system h ≡ false → IfName (IsJust (fairness_of system)) h
helper-fits system None e = tt
helper-fits system (Some h) e = just-is (slice_get (fairness_of system) h) (not-false (owes_justice (slice_get (fairness_of system) h)) e)

pub group-fits : (system : System) (g : Option ℕ) → is_uncompassionate system g ≡ false → IfName (IsCompassionate (fairness_of system)) g
group-fits system None e = tt
group-fits system (Some g) e = compassionate-is (slice_get (fairness_of system) g) (not-false (owes_compassion (slice_get (fairness_of system) g)) e)

fits-by : (system : System) (i : ℕ) (h g : Option ℕ) (unfair apart : Bool) (rest : Option NetFault) → is_unfair system h ≡ unfair → is_uncompassionate system g ≡ apart
    → (if unfair then Some (faults.UnfairHelper i) else (if apart then Some (faults.NotCompassionate i) else rest)) ≡ None → NodeFits system h g
fits-by system i h g true apart rest u a e = absurd (none-some (faults.UnfairHelper i) (sym e))
fits-by system i h g false true rest u a e = absurd (none-some (faults.NotCompassionate i) (sym e))
fits-by system i h g false false rest u a e = record { just = helper-fits system h u; compassionate = group-fits system g a }

none-of-both : (o rest : Option NetFault) → or_fault o rest ≡ None → (o ≡ None) × (rest ≡ None)
none-of-both None rest e = (refl, e)
none-of-both (Some fault) rest e = absurd (none-some fault (sym e))

pub nodes-fit : (system : System) (i : ℕ) (ns : List PlainNode) → first_fault system i ns ≡ None → NodesFit system ns
nodes-fit system i [] e = tt
nodes-fit system i (n ∷ ns) e =
    let both = none-of-both (node_fault system i n.helper n.group) (first_fault system (i + 1) ns) e in
    (fits-by system i n.helper n.group (is_unfair system n.helper) (is_uncompassionate system n.group) _ refl refl both.0, nodes-fit system (i + 1) ns both.1)

-- the next node of the walk
pub fault-next : (system : System) (xs : List Node) (i : ℕ) (x : Node) → i < length xs → x ≡ get_or xs i x
    → first_fault system i (map plain_node (drop i xs)) ≡ or_fault (node_fault system i x.helper x.group) (first_fault system (i + 1) (map plain_node (drop (i + 1) xs)))
fault-next system xs i x below is =
    ap (λ ys. first_fault system i (map plain_node ys)) (drop_more xs i x below)
    ∙ ap (λ y. or_fault (node_fault system i y.helper y.group) (first_fault system (i + 1) (map plain_node (drop (i + 1) xs)))) (sym is)
