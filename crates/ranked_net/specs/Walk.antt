-- How the conditions of a ranked net are made: the cases of a step by what its transition is to the node, so that they are
-- built once for all modes. Nothing here has to be believed.
use Rattle.std.specs.Prelude.{ℕ, if◌then◌else◌, is_some, List, [], ◌∷◌, ◌++◌, map, Option, Some}
use Rattle.st_form.specs.Formula.{Formula}
use Rattle.st_form.specs.declared.conditions.Premise.TheVariants.{Move}
use Rattle.transition_system.specs.Systems.{PlainMode, PlainTransition, System}
use Rattle.temporal_goals.specs.Texts.{PlainNode}
use Rattle.vc_generator.specs.Atoms.{PlainCase}
use Rattle.vc_generator.specs.Building.{Draft, moved_of}
use Rattle.vc_generator.specs.Walks.{by_mode}
use Rattle.rule_laws.specs.Names.{is_name}
use Rattle.rule_laws.specs.RankedNet.{kept_pairs, case_end, case_drop, case_free, case_inner, case_stay, grouped, cases_if}

-- where a step of the group may lead from node n; where one of the helper may lead beside; and where another one may
abbrev pub own_cases : List PlainNode → Formula → PlainNode → List PlainCase
own_cases nodes q n = case_end q ∷ map (case_drop n) nodes

-- a free move while a formula holds
abbrev pub free_under : Formula → PlainNode → PlainNode → PlainCase
free_under enabled n j = record { now = enabled; behind = j.form; falls = kept_pairs n j }

abbrev pub group_cases : System → List PlainNode → PlainNode → List PlainCase
group_cases system nodes n = cases_if (is_some n.group) (map (case_free system n) (grouped n.group nodes)) ++ map (case_inner n) (grouped n.group nodes)

abbrev pub stay_cases : PlainNode → List PlainCase
stay_cases n = case_stay n ∷ []

-- which of three lists is for the transition with this number
abbrev pub chosen : {A : Type 0} → Option ℕ → Option ℕ → List A → List A → List A → ℕ → List A
chosen group helper own helped other number = if is_name group number then own else (if is_name helper number then helped else other)

-- a mode leads from the node as one of the cases says
abbrev pub moves : ℕ → List Formula → ℕ → Formula → List PlainCase → PlainTransition → ℕ → PlainMode → List Draft
moves step lemmas node f cases t k m = moved_of m lemmas f cases (by_mode step Move (Some node) t.name k) ∷ []
