-- Nodes that break no rule fit, and the next node of the walk that looks for the first fault.
use Rattle.std.proofs.Common.{◌≡◌, ◌∙◌, ap, sym, refl, ℕ, ◌+◌, ◌<◌, Bool, true, false, ◌||◌, if◌then◌else◌, List, [], ◌∷◌, length, map, drop, get_or, Option, Some, None}
use Rattle.std.proofs.lemmas.Bool.{false≢true}
use Rattle.std.proofs.lemmas.Option.{none-some}
use Rattle.std.proofs.lemmas.List.{drop_more}
use Rattle.transition_system.specs.Systems.{System}
use Rattle.temporal_goals.specs.Texts.{PlainLevel, PlainNestedNode}
use Rattle.temporal_goals.specs.Plain.{plain_nested_node}
use Rattle.temporal_goals.specs.declared.nested.NestedNode.{NestedNode}
use Rattle.observations.specs.Observation.{IsJust}
use Rattle.observations.specs.RankedNet.{IfName}
use Rattle.rule_fits.specs.Fitting.{fairness_of, LevelsFit, NestedFit}
use Rattle.ranked_net.specs.Making.{is_unfair, is_uncompassionate}
use Rattle.ranked_net.proofs.Faultless.{helper-fits, group-fits}
use Rattle.nested_net.specs.Making.{some_uncompassionate, node_fault, or_fault, first_fault}
use Rattle.nested_net.specs.declared.faults.NestedFault.{NestedFault}
use Rattle.nested_net.specs.declared.faults.NestedFault.TheVariants as faults

neither : (a b : Bool) → a || b ≡ false → (a ≡ false) × (b ≡ false)
neither true b e = absurd (false≢true (sym e))
neither false b e = (refl, e)

pub levels-fit : (system : System) (ls : List PlainLevel) → some_uncompassionate system ls ≡ false → LevelsFit system ls
levels-fit system [] e = tt
levels-fit system (l ∷ ls) e =
    let both = neither (is_uncompassionate system (Some l.group)) (some_uncompassionate system ls) e in
    (group-fits system (Some l.group) both.0, levels-fit system ls both.1)

fits-by : (system : System) (i : ℕ) (h : Option ℕ) (ls : List PlainLevel) (unfair apart : Bool) (rest : Option NestedFault) → is_unfair system h ≡ unfair → some_uncompassionate system ls ≡ apart
    → (if unfair then Some (faults.UnfairHelper i) else (if apart then Some (faults.NotCompassionate i) else rest)) ≡ None → IfName (IsJust (fairness_of system)) h × LevelsFit system ls
fits-by system i h ls true apart rest u a e = absurd (none-some (faults.UnfairHelper i) (sym e))
fits-by system i h ls false true rest u a e = absurd (none-some (faults.NotCompassionate i) (sym e))
fits-by system i h ls false false rest u a e = (helper-fits system h u, levels-fit system ls a)

none-of-both : (o rest : Option NestedFault) → or_fault o rest ≡ None → (o ≡ None) × (rest ≡ None)
none-of-both None rest e = (refl, e)
none-of-both (Some fault) rest e = absurd (none-some fault (sym e))

pub nodes-fit : (system : System) (i : ℕ) (ns : List PlainNestedNode) → first_fault system i ns ≡ None → NestedFit system ns
nodes-fit system i [] e = tt
nodes-fit system i (n ∷ ns) e =
    let both = none-of-both (node_fault system i n) (first_fault system (i + 1) ns) e in
    (fits-by system i n.helper n.levels (is_unfair system n.helper) (some_uncompassionate system n.levels) _ refl refl both.0, nodes-fit system (i + 1) ns both.1)

-- the next node of the walk
pub fault-next : (system : System) (xs : List NestedNode) (i : ℕ) (x : NestedNode) → i < length xs → x ≡ get_or xs i x
    → first_fault system i (map plain_nested_node (drop i xs)) ≡ or_fault (node_fault system i (plain_nested_node x)) (first_fault system (i + 1) (map plain_nested_node (drop (i + 1) xs)))
fault-next system xs i x below is =
    ap (λ ys. first_fault system i (map plain_nested_node ys)) (drop_more xs i x below)
    ∙ ap (λ y. or_fault (node_fault system i (plain_nested_node y)) (first_fault system (i + 1) (map plain_nested_node (drop (i + 1) xs)))) (sym is)
