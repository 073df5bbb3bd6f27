-- The conditions of verification diagrams (Manna and Pnueli, *Temporal Verification Diagrams*, 1994): wait diagrams for
-- nested waiting-for, chain and rank diagrams for response. A node is named by its own number; the terminal node is 0.
use Rattle.std.specs.Prelude.{ℕ, Bool, true, false, ◌&&◌, ◌==◌, nat_lt, if◌then◌else◌, pos, List, [], ◌∷◌, ◌++◌, length, map, Option, None, Some, unwrap_or}
use Rattle.std.specs.List.{list_any}
use Rattle.st_linear.specs.Linear.{Linear, number}
use Rattle.st_linear.specs.Simple.{lowered}
use Rattle.st_form.specs.Formula.{Formula, truth_value, row, every, some, formulas}
use Rattle.vc_generator.specs.Building.{Draft, at_least, entails_of, moved_of}
use Rattle.st_form.specs.declared.conditions.Premise.TheVariants.{Cover, Level, Target, Rank, Help, Move}
use Rattle.transition_system.specs.Systems.{System}
use Rattle.temporal_goals.specs.Texts.{PlainDrawnNode, PlainEdge, PlainDiagram}
use Rattle.vc_generator.specs.Atoms.{PlainCase}
use Rattle.vc_generator.specs.Walks.{each_mode, plainly, by_mode}
use Rattle.rule_laws.specs.Names.{is_name, enabled_of}

-- the node with this number
abbrev pub node_numbered : ℕ → List PlainDrawnNode → Option PlainDrawnNode
node_numbered i [] = None
node_numbered i (n ∷ ns) = if n.number == i then Some n else node_numbered i ns

-- the edge is one from this node on this transition
abbrev pub leaves_on : ℕ → ℕ → PlainEdge → Bool
leaves_on i number e = (e.from == i) && list_any (λ t. t == number) e.on

-- f of each such edge's end, in order
abbrev pub ends_of : (ℕ → List PlainCase) → ℕ → ℕ → List PlainEdge → List PlainCase
ends_of f i number [] = []
ends_of f i number (e ∷ es) = if leaves_on i number e then f e.to ++ ends_of f i number es else ends_of f i number es

-- the state behind the step is on a node
abbrev pub case_on : Formula → PlainCase
case_on f = record { now = truth_value true; behind = f; falls = [] }

abbrev pub case_at : Option PlainDrawnNode → List PlainCase
case_at None = []
case_at (Some n) = case_on n.form ∷ []

-- to the terminal node, or to a node with a lower number
abbrev pub lower_end : PlainDiagram → ℕ → ℕ → List PlainCase
lower_end d i j = if j == 0 then case_on d.terminal ∷ [] else (if nat_lt j i then case_at (node_numbered j d.nodes) else [])

-- f of each node, in order
abbrev pub each_node : (PlainDrawnNode → List Draft) → List PlainDrawnNode → List Draft
each_node f [] = []
each_node f (n ∷ ns) = f n ++ each_node f ns

-- Wait diagrams: a node's number is its level.

-- the goal's formula of a level, of formulas from the highest level down to level 0
abbrev pub level_goal : ℕ → List Formula → Formula
level_goal i [] = truth_value false
level_goal i (q ∷ qs) = if i == length qs then q else level_goal i qs

abbrev pub wait_forms : PlainDiagram → List Formula
wait_forms d = map (λ n. n.form) d.nodes ++ d.terminal ∷ []

abbrev pub wait_level : ℕ → List Formula → List Formula → PlainDrawnNode → List Draft
wait_level step lemmas goals n = entails_of lemmas n.form (level_goal n.number goals) (plainly step Level (Some n.number)) ∷ []

abbrev pub wait_cases : PlainDiagram → PlainDrawnNode → ℕ → List PlainCase
wait_cases d n number = case_on n.form ∷ ends_of (lower_end d n.number) n.number number d.edges

abbrev pub wait_move : ℕ → System → List Formula → PlainDiagram → PlainDrawnNode → List Draft
wait_move step system lemmas d n =
    each_mode (λ number t k m. moved_of m lemmas n.form (wait_cases d n number) (by_mode step Move (Some n.number) t.name k) ∷ []) system

abbrev pub wait_list : ℕ → System → List Formula → Formula → List Formula → PlainDiagram → List Draft
wait_list step system lemmas p goals d =
    entails_of lemmas p (some (formulas (wait_forms d))) (plainly step Cover None)
    ∷ (each_node (wait_level step lemmas goals) d.nodes
    ++ (entails_of lemmas d.terminal (level_goal 0 goals) (plainly step Level (Some 0))
    ∷ each_node (wait_move step system lemmas d) d.nodes))

-- Chain and rank diagrams.

abbrev pub drawn_rank : PlainDrawnNode → Linear
drawn_rank n = unwrap_or n.rank (number (pos 0))

abbrev pub target_of : ℕ → List Formula → Formula → PlainDiagram → Draft
target_of step lemmas q d = entails_of lemmas d.terminal q (plainly step Target None)

abbrev pub drawn_help : ℕ → System → List Formula → PlainDrawnNode → List Draft
drawn_help step system lemmas n = entails_of lemmas n.form (enabled_of system n.helper) (plainly step Help (Some n.number)) ∷ []

-- a case that is there unless the step is the helper's
abbrev pub unless_helper : PlainDrawnNode → ℕ → PlainCase → List PlainCase
unless_helper n number c = if is_name n.helper number then [] else c ∷ []

abbrev pub chain_starts : Linear → PlainDrawnNode → Formula
chain_starts e n = every (formulas (n.form ∷ at_least e (number (pos n.number)) ∷ []))

abbrev pub chain_cases : PlainDiagram → PlainDrawnNode → ℕ → List PlainCase
chain_cases d n number = unless_helper n number (case_on n.form) ++ ends_of (lower_end d n.number) n.number number d.edges

abbrev pub chain_move : ℕ → System → List Formula → PlainDiagram → PlainDrawnNode → List Draft
chain_move step system lemmas d n =
    each_mode (λ number t k m. moved_of m lemmas n.form (chain_cases d n number) (by_mode step Move (Some n.number) t.name k) ∷ []) system

abbrev pub chain_list : ℕ → System → List Formula → Formula → Formula → Linear → PlainDiagram → List Draft
chain_list step system lemmas p q e d =
    target_of step lemmas q d
    ∷ entails_of lemmas p (some (formulas (d.terminal ∷ map (chain_starts e) d.nodes))) (plainly step Cover None)
    ∷ (each_node (drawn_help step system lemmas) d.nodes ++ each_node (chain_move step system lemmas d) d.nodes)

abbrev pub rank_starts : Linear → PlainDrawnNode → Formula
rank_starts e n = every (formulas (n.form ∷ at_least (lowered e) (drawn_rank n) ∷ []))

abbrev pub rank_stays : PlainDrawnNode → PlainCase
rank_stays n = record { now = truth_value true; behind = n.form; falls = (drawn_rank n, drawn_rank n) ∷ [] }

-- to a node with a lower rank
abbrev pub falls_onto : PlainDrawnNode → PlainDrawnNode → PlainCase
falls_onto n j = record { now = truth_value true; behind = j.form; falls = (drawn_rank j, lowered (drawn_rank n)) ∷ [] }

abbrev pub rank_falls : PlainDrawnNode → Option PlainDrawnNode → List PlainCase
rank_falls n None = []
rank_falls n (Some j) = falls_onto n j ∷ []

abbrev pub rank_end : PlainDiagram → PlainDrawnNode → ℕ → List PlainCase
rank_end d n j = if j == 0 then case_on d.terminal ∷ [] else rank_falls n (node_numbered j d.nodes)

abbrev pub rank_cases : PlainDiagram → PlainDrawnNode → ℕ → List PlainCase
rank_cases d n number = unless_helper n number (rank_stays n) ++ ends_of (rank_end d n) n.number number d.edges

abbrev pub drawn_ranked : ℕ → List Formula → PlainDrawnNode → List Draft
drawn_ranked step lemmas n = entails_of lemmas n.form (row (drawn_rank n)) (plainly step Rank (Some n.number)) ∷ []

abbrev pub rank_move : ℕ → System → List Formula → PlainDiagram → PlainDrawnNode → List Draft
rank_move step system lemmas d n =
    each_mode (λ number t k m. moved_of m lemmas n.form (rank_cases d n number) (by_mode step Move (Some n.number) t.name k) ∷ []) system

abbrev pub rank_list : ℕ → System → List Formula → Formula → Formula → Linear → PlainDiagram → List Draft
rank_list step system lemmas p q e d =
    target_of step lemmas q d
    ∷ entails_of lemmas p (some (formulas (d.terminal ∷ map (rank_starts e) d.nodes))) (plainly step Cover None)
    ∷ (each_node (drawn_ranked step lemmas) d.nodes
    ++ (each_node (drawn_help step system lemmas) d.nodes ++ each_node (rank_move step system lemmas d) d.nodes))
