-- How the conditions of a nested net are made: the cases of a step by which of the node's groups its transition is, so that
-- they are built once for all modes. Nothing here has to be believed.
use Rattle.std.specs.Prelude.{ℕ, zero, suc, ◌+◌, nat_lt, ◌==◌, if◌then◌else◌, List, [], ◌∷◌, ◌++◌, length, map, Option, slice_index_or}
use Rattle.std.specs.declared.vec.Vec.{Vec}
use Rattle.std.specs.declared.alloc.Global.{Global}
use Rattle.st_form.specs.Formula.{Formula}
use Rattle.transition_system.specs.Systems.{System}
use Rattle.temporal_goals.specs.Texts.{PlainLevel, PlainNestedNode}
use Rattle.vc_generator.specs.Atoms.{PlainCase}
use Rattle.vc_generator.specs.Plain.{plain_case}
use Rattle.vc_generator.specs.declared.building.Case.{Case}
use Rattle.rule_laws.specs.Names.{is_name}
use Rattle.rule_laws.specs.RankedNet.{case_end}
use Rattle.rule_laws.specs.NestedNet.{agreeing, each_depth, nested_fall, nested_free, nested_stay, pairs_below}

-- how many groups stand outside the one that is this transition; all, where none is
abbrev pub outside : ℕ → List PlainLevel → ℕ
outside number [] = 0
outside number (l ∷ ls) = if l.group == number then 0 else suc (outside number ls)

-- a free step within the first so many groups, while a formula holds
abbrev pub free_within : Formula → ℕ → PlainNestedNode → PlainNestedNode → PlainCase
free_within enabled count n j = record { now = enabled; behind = j.form; falls = pairs_below count n.levels j.levels }

abbrev pub fall_cases : List PlainNestedNode → PlainNestedNode → ℕ → List PlainCase
fall_cases nodes n k = map (nested_fall k n) (agreeing k n.levels nodes)

abbrev pub free_cases : System → List PlainNestedNode → PlainNestedNode → ℕ → List PlainCase
free_cases system nodes n k = map (nested_free system k n) (agreeing (suc k) n.levels nodes)

-- where a step may lead, but for staying, that is a step of the group at this depth; of a transition that is no group where
-- the depth is how many groups there are
abbrev pub depth_cases : System → List PlainNestedNode → Formula → PlainNestedNode → ℕ → List PlainCase
depth_cases system nodes q n depth = case_end q ∷ (each_depth (fall_cases nodes n) 0 (suc depth) ++ each_depth (free_cases system nodes n) 0 depth)

abbrev pub stay_cases : PlainNestedNode → List PlainCase
stay_cases n = nested_stay n ∷ []

abbrev pub plain_lists : List (Vec Case Global) → List (List PlainCase)
plain_lists vs = map (λ v. map plain_case v.items) vs

-- f of so many depths as lists, from a depth on
abbrev pub listed_depths : (ℕ → List PlainCase) → ℕ → ℕ → List (List PlainCase)
listed_depths f k zero = []
listed_depths f k (suc n) = f k ∷ listed_depths f (k + 1) n

-- the list for the transition with this number: of those of the groups, that of the helper, and that of others
abbrev pub chosen : List PlainLevel → Option ℕ → List (List PlainCase) → List PlainCase → List PlainCase → ℕ → List PlainCase
chosen levels helper groups helped other number =
    if nat_lt (outside number levels) (length levels) then slice_index_or groups (outside number levels) []
    else (if is_name helper number then helped else other)
