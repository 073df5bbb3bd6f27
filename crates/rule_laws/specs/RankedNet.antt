-- The conditions of a ranked net for p leads to q within e rounds. It generalizes the rules RESP-J, CHAIN-J, WELL-J and
-- RESP-C (Manna and Pnueli, *Temporal Verification of Reactive Systems: Progress*); its bound on rounds is this project's.
use Rattle.std.specs.Prelude.{ℕ, Bool, true, not, ◌&&◌, if◌then◌else◌, List, [], ◌∷◌, ◌++◌, map, Option, None, Some, is_some}
use Rattle.st_linear.specs.Linear.{Linear}
use Rattle.st_linear.specs.Simple.{lowered}
use Rattle.st_form.specs.Formula.{Formula, truth_value, row, every, some, formulas}
use Rattle.vc_generator.specs.Building.{Draft, at_least, at_least_both, entails_of, moved_of}
use Rattle.st_form.specs.declared.conditions.Premise.TheVariants.{Cover, Rank, Help, Move}
use Rattle.transition_system.specs.Systems.{System}
use Rattle.temporal_goals.specs.Texts.{PlainNode}
use Rattle.vc_generator.specs.Atoms.{PlainCase}
use Rattle.vc_generator.specs.Walks.{numbered_from, each_mode, plainly, by_mode}
use Rattle.rule_laws.specs.Names.{is_name, same_group, enabled_of}

-- the state is on the node, and its top is below the bound
abbrev pub starts_on : Linear → PlainNode → Formula
starts_on e n = every (formulas (n.form ∷ at_least (lowered e) n.top ∷ []))

-- base and delay are at least 0, and fit together under the top
abbrev pub ranked_form : PlainNode → Formula
ranked_form n = every (formulas (row n.base ∷ row n.delay ∷ at_least_both n.top n.base n.delay ∷ []))

-- the helper or the group is enabled
abbrev pub helped_form : System → PlainNode → Formula
helped_form system n = some (formulas (enabled_of system n.helper ∷ enabled_of system n.group ∷ []))

-- neither base nor top is raised from one node to another
abbrev pub kept_pairs : PlainNode → PlainNode → List (Linear × Linear)
kept_pairs n j = (j.base, n.base) ∷ (j.top, n.top) ∷ []

-- where a step from node n may lead: to q; by a drop to any node below the base; by a free move within the group while it
-- is enabled; by an inner drop of the delay within the group; or it stays
abbrev pub case_end : Formula → PlainCase
case_end q = record { now = truth_value true; behind = q; falls = [] }

abbrev pub case_drop : PlainNode → PlainNode → PlainCase
case_drop n j = record { now = truth_value true; behind = j.form; falls = (j.top, lowered n.base) ∷ [] }

abbrev pub case_free : System → PlainNode → PlainNode → PlainCase
case_free system n j = record { now = enabled_of system n.group; behind = j.form; falls = kept_pairs n j }

abbrev pub case_inner : PlainNode → PlainNode → PlainCase
case_inner n j = record { now = truth_value true; behind = j.form; falls = (j.delay, lowered n.delay) ∷ kept_pairs n j }

abbrev pub case_stay : PlainNode → PlainCase
case_stay n = record { now = truth_value true; behind = n.form; falls = (n.delay, n.delay) ∷ kept_pairs n n }

-- the nodes of a node's group
abbrev pub grouped : Option ℕ → List PlainNode → List PlainNode
grouped g [] = []
grouped g (j ∷ js) = if same_group g j.group then j ∷ grouped g js else grouped g js

abbrev pub cases_if : Bool → List PlainCase → List PlainCase
cases_if b cs = if b then cs else []

-- the cases of a step of the transition with this number from node n
abbrev pub net_cases : System → List PlainNode → Formula → PlainNode → ℕ → List PlainCase
net_cases system nodes q n number =
    case_end q ∷ (map (case_drop n) nodes
    ++ (cases_if (is_some n.group && not (is_name n.group number)) (map (case_free system n) (grouped n.group nodes))
    ++ (cases_if (not (is_name n.group number)) (map (case_inner n) (grouped n.group nodes))
    ++ cases_if (not (is_name n.group number) && not (is_name n.helper number)) (case_stay n ∷ []))))

-- the conditions, in their order
abbrev pub cover_of : ℕ → List Formula → Formula → Formula → Linear → List PlainNode → Draft
cover_of step lemmas p q e nodes = entails_of lemmas p (some (formulas (q ∷ map (starts_on e) nodes))) (plainly step Cover None)

abbrev pub rank_of : ℕ → List Formula → ℕ → PlainNode → List Draft
rank_of step lemmas i n = entails_of lemmas n.form (ranked_form n) (plainly step Rank (Some i)) ∷ []

abbrev pub help_of : ℕ → System → List Formula → ℕ → PlainNode → List Draft
help_of step system lemmas i n = entails_of lemmas n.form (helped_form system n) (plainly step Help (Some i)) ∷ []

abbrev pub move_of : ℕ → System → List Formula → List PlainNode → Formula → ℕ → PlainNode → List Draft
move_of step system lemmas nodes q i n =
    each_mode (λ number t k m. moved_of m lemmas n.form (net_cases system nodes q n number) (by_mode step Move (Some i) t.name k) ∷ []) system

abbrev pub ranked_list : ℕ → System → List Formula → Formula → Formula → Linear → List PlainNode → List Draft
ranked_list step system lemmas p q e nodes =
    cover_of step lemmas p q e nodes
    ∷ (numbered_from (rank_of step lemmas) 0 nodes
    ++ (numbered_from (help_of step system lemmas) 0 nodes
    ++ numbered_from (move_of step system lemmas nodes q) 0 nodes))
