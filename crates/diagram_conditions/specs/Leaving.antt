-- The edges that leave a node, each with the node that it leads to, and the cases that they give.
use Rattle.std.specs.Prelude.{ℕ, ◌==◌, nat_lt, if◌then◌else◌, List, [], ◌∷◌, ◌++◌, Option}
use Rattle.std.specs.List.{list_any}
use Rattle.st_form.specs.Formula.{Formula}
use Rattle.temporal_goals.specs.Texts.{PlainDrawnNode, PlainEdge}
use Rattle.temporal_goals.specs.declared.diagrams.DiagramKind.{DiagramKind}
use Rattle.temporal_goals.specs.declared.diagrams.DiagramKind.TheVariants.{Wait, Chain, Rank}
use Rattle.vc_generator.specs.Atoms.{PlainCase}
use Rattle.rule_laws.specs.Diagrams.{node_numbered, case_on, case_at, unless_helper, rank_stays, rank_falls}

-- the edges from the node with this number, with the nodes that they lead to
abbrev pub leaving_from : ℕ → List PlainDrawnNode → List PlainEdge → List (PlainEdge × Option PlainDrawnNode)
leaving_from i nodes [] = []
leaving_from i nodes (e ∷ es) =
    if e.from == i then (e, node_numbered e.to nodes) ∷ leaving_from i nodes es else leaving_from i nodes es

-- f of the end of the edge, if it is one on this transition
abbrev pub case_along : (ℕ → Option PlainDrawnNode → List PlainCase) → ℕ → PlainEdge × Option PlainDrawnNode → List PlainCase
case_along f number l = if list_any (λ t. t == number) l.0.on then f l.0.to l.1 else []

-- the same of each edge, in order
abbrev pub along : (ℕ → Option PlainDrawnNode → List PlainCase) → ℕ → List (PlainEdge × Option PlainDrawnNode) → List PlainCase
along f number [] = []
along f number (l ∷ ls) = case_along f number l ++ along f number ls

-- to the terminal node, or to a node with a lower number
abbrev pub lower_case : Formula → ℕ → ℕ → Option PlainDrawnNode → List PlainCase
lower_case terminal i j end = if j == 0 then case_on terminal ∷ [] else (if nat_lt j i then case_at end else [])

-- to the terminal node, or to a node with a lower rank
abbrev pub falling_case : Formula → PlainDrawnNode → ℕ → Option PlainDrawnNode → List PlainCase
falling_case terminal n j end = if j == 0 then case_on terminal ∷ [] else rank_falls n end

abbrev pub end_case : DiagramKind → Formula → PlainDrawnNode → ℕ → Option PlainDrawnNode → List PlainCase
end_case Wait terminal n j end = lower_case terminal n.number j end
end_case Chain terminal n j end = lower_case terminal n.number j end
end_case Rank terminal n j end = falling_case terminal n j end

-- the step stays on the node
abbrev pub stay_case : DiagramKind → PlainDrawnNode → ℕ → List PlainCase
stay_case Wait n number = case_on n.form ∷ []
stay_case Chain n number = unless_helper n number (case_on n.form)
stay_case Rank n number = unless_helper n number (rank_stays n)

-- where a step of the transition with this number may lead from the node
abbrev pub step_cases : DiagramKind → Formula → PlainDrawnNode → List (PlainEdge × Option PlainDrawnNode) → ℕ → List PlainCase
step_cases kind terminal n ls number = stay_case kind n number ++ along (end_case kind terminal n) number ls
