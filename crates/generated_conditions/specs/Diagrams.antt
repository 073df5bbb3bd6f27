-- The nodes of verification diagrams (Manna and Pnueli, *Temporal Verification Diagrams*, 1994): wait diagrams for nested
-- waiting-for, chain and rank diagrams for response. A node is named by its own number; the terminal node is 0.
use Rattle.std.specs.Prelude.{ℕ, ◌&&◌, ◌==◌, nat_lt, if◌then◌else◌, pos, List, [], ◌∷◌, ◌++◌, filter, flat_map, find, option_to_list, unwrap_or}
use Rattle.std.specs.List.{list_any}
use Rattle.st_linear.specs.Linear.{Linear, number}
use Rattle.st_linear.specs.Simple.{lowered}
use Rattle.st_form.specs.Formula.{row}
use Rattle.transition_system.specs.Systems.{System}
use Rattle.temporal_goals.specs.Texts.{PlainDrawnNode, PlainDiagram}
use Rattle.generated_conditions.specs.Cases.{Case, onto, Node, at_least, enabled, unless}

-- where the edges from node n on a transition lead: onto the terminal node, or as the cases for another node say
abbrev pub ends : PlainDiagram → PlainDrawnNode → (PlainDrawnNode → List Case) → ℕ → List Case
ends d n cases t =
    flat_map (λ e. if e.to == 0 then onto d.terminal [] [] ∷ [] else flat_map cases (option_to_list (find (λ j. j.number == e.to) d.nodes)))
    (filter (λ e. (e.from == n.number) && list_any (λ u. u == t) e.on) d.edges)

-- the same, but of other nodes only onto those with a lower number: in wait and chain diagrams
abbrev pub lower_ends : PlainDiagram → PlainDrawnNode → ℕ → List Case
lower_ends d n t = ends d n (λ j. if nat_lt j.number n.number then onto j.form [] [] ∷ [] else []) t

-- In a chain diagram the rounds begin where the bound is at least the node's number, and a step stays, unless it is the
-- helper's, or leads to a lower number.
abbrev pub chain_node : System → Linear → PlainDiagram → PlainDrawnNode → Node
chain_node system e d n = record {
  number = n.number;
  form = n.form;
  starts = at_least e (number (pos n.number) ∷ []);
  ranked = [];
  helped = enabled system n.helper;
  cases = λ t. unless n.helper t (onto n.form [] [] ∷ []) ++ lower_ends d n t;
}

-- a node's rank; 0 where none is written
abbrev pub rank : PlainDrawnNode → Linear
rank n = unwrap_or n.rank (number (pos 0))

-- In a rank diagram they begin where the rank is below the bound, and a step stays and doesn't raise it, unless it is the
-- helper's, or leads to a node with a lower rank.
abbrev pub rank_node : System → Linear → PlainDiagram → PlainDrawnNode → Node
rank_node system e d n = record {
  number = n.number;
  form = n.form;
  starts = at_least (lowered e) (rank n ∷ []);
  ranked = row (rank n) ∷ [];
  helped = enabled system n.helper;
  cases = λ t. unless n.helper t (onto n.form [] ((rank n, rank n) ∷ []) ∷ []) ++ ends d n (λ j. onto j.form [] ((rank j, lowered (rank n)) ∷ []) ∷ []) t;
}
