-- The nodes of ranked and of nested nets for p leads to q within e rounds.
use Rattle.std.specs.Prelude.{ℕ, suc, nat_eq, ◌==◌, if◌then◌else◌, List, [], ◌∷◌, ◌++◌, map, filter, flat_map, zip, take, Some, is_some, slice_index_or}
use Rattle.std.specs.Option.{option_eq}
use Rattle.std.specs.List.{list_any, starts_with, enumerate_from}
use Rattle.st_linear.specs.Linear.{Linear}
use Rattle.st_linear.specs.Simple.{lowered}
use Rattle.st_form.specs.Formula.{Formula, row, every, some, formulas}
use Rattle.transition_system.specs.Systems.{System}
use Rattle.temporal_goals.specs.Texts.{PlainNode, PlainLevel, PlainNestedNode}
use Rattle.generated_conditions.specs.Cases.{Case, onto, Node, at_least, enabled, unless}

-- Ranked nets. They generalize the rules RESP-J, CHAIN-J, WELL-J and RESP-C (Manna and Pnueli, *Temporal Verification of
-- Reactive Systems: Progress*); the bound on rounds is this project's.

-- neither base nor top is raised from one node to another
abbrev pub kept : PlainNode → PlainNode → List (Linear × Linear)
kept n j = (j.base, n.base) ∷ (j.top, n.top) ∷ []

-- A step leads to q, or drops to any node below the base. A step that isn't the group's may also move freely in the group
-- while that is enabled, or drop the delay in the group; and one that isn't the helper's either may stay.
abbrev pub ranked_node : System → Formula → Linear → List PlainNode → ℕ → PlainNode → Node
ranked_node system q e nodes i n =
    let peers = filter (λ j. option_eq nat_eq n.group j.group) nodes in
    record {
      number = i;
      form = n.form;
      starts = at_least (lowered e) (n.top ∷ []);
      ranked = every (formulas (row n.base ∷ row n.delay ∷ at_least n.top (n.base ∷ n.delay ∷ []) ∷ [])) ∷ [];
      helped = some (formulas (enabled system n.helper ∷ enabled system n.group ∷ []));
      cases = λ number. onto q [] [] ∷ (map (λ j. onto j.form [] ((j.top, lowered n.base) ∷ [])) nodes ++ unless n.group number (
          (if is_some n.group then map (λ j. onto j.form (enabled system n.group ∷ []) (kept n j)) peers else [])
          ++ (map (λ j. onto j.form [] ((j.delay, lowered n.delay) ∷ kept n j)) peers
          ++ unless n.helper number (onto n.form [] ((n.delay, n.delay) ∷ kept n n) ∷ []))));
    }

-- Nested nets: their nodes stand in groups, one inside the other. They generalize rule RESP-C (Manna and Pnueli, *Temporal
-- Verification of Reactive Systems: Progress*, chapter 3), whose inner premises are proved by the same rule again.

-- the top at a depth; behind the last level the delay
abbrev pub top_at : ℕ → List PlainLevel → Linear → Linear
top_at k ls delay = slice_index_or (map (λ l. l.top) ls) k delay

-- each base is at least 0 and fits under its top with what stands inside; so does the delay
abbrev pub fits : List PlainLevel → Linear → List Formula
fits [] delay = row delay ∷ []
fits (l ∷ ls) delay = row l.base ∷ at_least l.top (l.base ∷ top_at 0 ls delay ∷ []) ∷ fits ls delay

-- a step that is of none of these outermost groups leads onto a node in the same ones, and raises none of their bases and
-- tops; what else holds before it, and what else falls onto each node, is given
abbrev pub within : List PlainLevel → List PlainNestedNode → ℕ → List Formula → (PlainNestedNode → List (Linear × Linear)) → List Case
within outer nodes number now falls =
    if list_any (λ l. l.group == number) outer then [] else
    map (λ j. onto j.form now (falls j ++ flat_map (λ (l, m). (m.base, l.base) ∷ (m.top, l.top) ∷ []) (zip outer j.levels)))
    (filter (λ j. starts_with (λ l m. m.group == l.group) j.levels outer) nodes)

-- A step leads to q; or falls at a depth, below the base there, or at last below the delay; or moves freely in a group while
-- that is enabled; or, unless it is the helper's, stays.
abbrev pub nested_node : System → Formula → Linear → List PlainNestedNode → ℕ → PlainNestedNode → Node
nested_node system q e nodes i n = record {
  number = i;
  form = n.form;
  starts = at_least (lowered e) (top_at 0 n.levels n.delay ∷ []);
  ranked = every (formulas (fits n.levels n.delay)) ∷ [];
  helped = some (formulas (enabled system n.helper ∷ map (λ l. enabled system (Some l.group)) n.levels));
  cases = λ number. onto q [] []
      ∷ (flat_map (λ (k, base). within (take k n.levels) nodes number [] (λ j. (top_at k j.levels j.delay, lowered base) ∷ [])) (enumerate_from 0 (map (λ l. l.base) n.levels ++ n.delay ∷ []))
      ++ (flat_map (λ (k, l). within (take (suc k) n.levels) nodes number (enabled system (Some l.group) ∷ []) (λ j. [])) (enumerate_from 0 n.levels)
      ++ unless n.helper number (within n.levels (n ∷ []) number [] (λ j. (n.delay, n.delay) ∷ []))));
}
