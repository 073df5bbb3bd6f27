-- The conditions of a nested net for p leads to q within e rounds: its nodes stand in groups, one inside the other. It
-- generalizes rule RESP-C (Manna and Pnueli, *Temporal Verification of Reactive Systems: Progress*, chapter 3), whose inner
-- premises are proved by the same rule again.
use Rattle.std.specs.Prelude.{ℕ, zero, suc, ◌+◌, Bool, true, false, not, ◌&&◌, ◌==◌, if◌then◌else◌, List, [], ◌∷◌, ◌++◌, length, map, Option, None, Some}
use Rattle.st_linear.specs.Linear.{Linear}
use Rattle.st_linear.specs.Simple.{lowered}
use Rattle.st_form.specs.Formula.{Formula, truth_value, row, every, some, formulas}
use Rattle.vc_generator.specs.Building.{Draft, at_least, at_least_both, entails_of, moved_of}
use Rattle.st_form.specs.declared.conditions.Premise.TheVariants.{Cover, Rank, Help, Move}
use Rattle.transition_system.specs.Systems.{System}
use Rattle.temporal_goals.specs.Texts.{PlainLevel, PlainNestedNode}
use Rattle.vc_generator.specs.Atoms.{PlainCase}
use Rattle.vc_generator.specs.Walks.{numbered_from, each_mode, plainly, by_mode}
use Rattle.rule_laws.specs.Names.{is_name, enabled_of}
use Rattle.rule_laws.specs.RankedNet.{case_end, cases_if}

-- the top at a depth; behind the last level the delay
abbrev pub top_at : ℕ → List PlainLevel → Linear → Linear
top_at k [] delay = delay
top_at zero (l ∷ ls) delay = l.top
top_at (suc k) (l ∷ ls) delay = top_at k ls delay

-- the base at a depth; behind the last level the delay
abbrev pub base_at : ℕ → List PlainLevel → Linear → Linear
base_at k [] delay = delay
base_at zero (l ∷ ls) delay = l.base
base_at (suc k) (l ∷ ls) delay = base_at k ls delay

-- both have at least so many groups, and the first so many are the same
abbrev pub agree : ℕ → List PlainLevel → List PlainLevel → Bool
agree zero ls ms = true
agree (suc k) [] ms = false
agree (suc k) (l ∷ ls) [] = false
agree (suc k) (l ∷ ls) (m ∷ ms) = (m.group == l.group) && agree k ls ms

-- the name is none of the first so many groups
abbrev pub none_of : ℕ → ℕ → List PlainLevel → Bool
none_of number zero ls = true
none_of number (suc k) [] = true
none_of number (suc k) (l ∷ ls) = not (l.group == number) && none_of number k ls

-- no base and no top of the first so many levels is raised
abbrev pub pairs_below : ℕ → List PlainLevel → List PlainLevel → List (Linear × Linear)
pairs_below zero ls ms = []
pairs_below (suc k) [] ms = []
pairs_below (suc k) (l ∷ ls) [] = []
pairs_below (suc k) (l ∷ ls) (m ∷ ms) = (m.base, l.base) ∷ (m.top, l.top) ∷ pairs_below k ls ms

-- the group at a depth
abbrev pub group_at : ℕ → List PlainLevel → Option ℕ
group_at k [] = None
group_at zero (l ∷ ls) = Some l.group
group_at (suc k) (l ∷ ls) = group_at k ls

-- the nodes that agree with levels to a depth
abbrev pub agreeing : ℕ → List PlainLevel → List PlainNestedNode → List PlainNestedNode
agreeing k ls [] = []
agreeing k ls (j ∷ js) = if agree k ls j.levels then j ∷ agreeing k ls js else agreeing k ls js

-- f of so many depths, from a depth on
abbrev pub each_depth : (ℕ → List PlainCase) → ℕ → ℕ → List PlainCase
each_depth f k zero = []
each_depth f k (suc n) = f k ++ each_depth f (k + 1) n

abbrev pub nested_starts : Linear → PlainNestedNode → Formula
nested_starts e n = every (formulas (n.form ∷ at_least (lowered e) (top_at 0 n.levels n.delay) ∷ []))

-- each base is at least 0 and fits under its top with what stands inside; so does the delay
abbrev pub ranked_forms : List PlainLevel → Linear → List Formula
ranked_forms [] delay = row delay ∷ []
ranked_forms (l ∷ ls) delay = row l.base ∷ at_least_both l.top l.base (top_at 0 ls delay) ∷ ranked_forms ls delay

abbrev pub enabled_groups : System → List PlainLevel → List Formula
enabled_groups system ls = map (λ l. enabled_of system (Some l.group)) ls

abbrev pub nested_helped : System → PlainNestedNode → Formula
nested_helped system n = some (formulas (enabled_of system n.helper ∷ enabled_groups system n.levels))

-- a fall at a depth, a free step at a depth (from 0; its group is the innermost of those that agree), and a stay
abbrev pub nested_fall : ℕ → PlainNestedNode → PlainNestedNode → PlainCase
nested_fall k n j = record {
  now = truth_value true;
  behind = j.form;
  falls = (top_at k j.levels j.delay, lowered (base_at k n.levels n.delay)) ∷ pairs_below k n.levels j.levels;
}

abbrev pub nested_free : System → ℕ → PlainNestedNode → PlainNestedNode → PlainCase
nested_free system k n j = record { now = enabled_of system (group_at k n.levels); behind = j.form; falls = pairs_below (suc k) n.levels j.levels }

abbrev pub nested_stay : PlainNestedNode → PlainCase
nested_stay n = record { now = truth_value true; behind = n.form; falls = (n.delay, n.delay) ∷ pairs_below (length n.levels) n.levels n.levels }

abbrev pub falls_at : List PlainNestedNode → PlainNestedNode → ℕ → ℕ → List PlainCase
falls_at nodes n number k = cases_if (none_of number k n.levels) (map (nested_fall k n) (agreeing k n.levels nodes))

abbrev pub frees_at : System → List PlainNestedNode → PlainNestedNode → ℕ → ℕ → List PlainCase
frees_at system nodes n number k = cases_if (none_of number (suc k) n.levels) (map (nested_free system k n) (agreeing (suc k) n.levels nodes))

-- the cases of a step of the transition with this number from node n
abbrev pub nested_cases : System → List PlainNestedNode → Formula → PlainNestedNode → ℕ → List PlainCase
nested_cases system nodes q n number =
    case_end q ∷ (each_depth (falls_at nodes n number) 0 (suc (length n.levels))
    ++ (each_depth (frees_at system nodes n number) 0 (length n.levels)
    ++ cases_if (none_of number (length n.levels) n.levels && not (is_name n.helper number)) (nested_stay n ∷ [])))

abbrev pub nested_cover : ℕ → List Formula → Formula → Formula → Linear → List PlainNestedNode → Draft
nested_cover step lemmas p q e nodes = entails_of lemmas p (some (formulas (q ∷ map (nested_starts e) nodes))) (plainly step Cover None)

abbrev pub nested_rank : ℕ → List Formula → ℕ → PlainNestedNode → List Draft
nested_rank step lemmas i n = entails_of lemmas n.form (every (formulas (ranked_forms n.levels n.delay))) (plainly step Rank (Some i)) ∷ []

abbrev pub nested_help : ℕ → System → List Formula → ℕ → PlainNestedNode → List Draft
nested_help step system lemmas i n = entails_of lemmas n.form (nested_helped system n) (plainly step Help (Some i)) ∷ []

abbrev pub nested_move : ℕ → System → List Formula → List PlainNestedNode → Formula → ℕ → PlainNestedNode → List Draft
nested_move step system lemmas nodes q i n =
    each_mode (λ number t k m. moved_of m lemmas n.form (nested_cases system nodes q n number) (by_mode step Move (Some i) t.name k) ∷ []) system

abbrev pub nested_list : ℕ → System → List Formula → Formula → Formula → Linear → List PlainNestedNode → List Draft
nested_list step system lemmas p q e nodes =
    nested_cover step lemmas p q e nodes
    ∷ (numbered_from (nested_rank step lemmas) 0 nodes
    ++ (numbered_from (nested_help step system lemmas) 0 nodes
    ++ numbered_from (nested_move step system lemmas nodes q) 0 nodes))
