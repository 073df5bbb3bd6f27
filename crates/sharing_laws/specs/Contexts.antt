-- The search over lists of conjuncts where components stand inside others. Which component is decided next for a location
-- hangs on the decisions of those around it too, so each list stands in a context: what is decided of the components that
-- have others inside. All else is as without contexts. So equal lists in equal contexts have equal trees. Where no
-- component stands inside another, no context but the first comes.
use Rattle.std.specs.Prelude.{◌≡◌, ℕ, ◌==◌, if◌then◌else◌, Bool, false, List, [], ◌∷◌, length, map, replicate, slice_set, Option, Some, None}
use Rattle.std.specs.List.{list_any}
use Rattle.st_form.specs.Formula.{Formula, Formulas}
use Rattle.control_states.specs.declared.alternative.Alternative.{Alternative}
use Rattle.control_states.specs.Control.{ControlFacts, component_at}
use Rattle.st_certificate.specs.Tree.{Tree, by_case, impossible}
use Rattle.farkas_check.specs.Problem.{Setting, may_case, first_problem}
use Rattle.farkas_check.specs.Valid.{IsCertificate}
use Rattle.search_laws.specs.Forms.{AllForms, IsProper}
use Rattle.search_laws.specs.Moves.{first_place_of, first_truth_of, component_for, valid, decided}
use Rattle.search_laws.specs.Sizes.{IsModestTree}
use Rattle.search_laws.specs.Walks.{left_open, Move, closes, divides, fails}
use Rattle.sharing_laws.specs.Lists.{by_case_alone, under, by_variable}
use Rattle.sharing_laws.specs.Finds.{Finds}

abbrev pub is_around : ℕ → Option (ℕ × ℕ) → Bool
is_around c None = false
is_around c (Some w) = w.0 == c

-- a component has others inside
abbrev pub has_inside : ControlFacts → ℕ → Bool
has_inside k c = list_any (λ x. is_around c x.around) k.components

-- the decisions of the components that have others inside, and a list of conjuncts, or None for a false problem
pub record InContext : Type 0 where
  pub context : List (Option Alternative)
  pub conjuncts : Option Formulas

abbrev pub in_context : List (Option Alternative) → Option Formulas → InContext
in_context context o = record { context = context; conjuncts = o }

-- the context once a component is decided
abbrev pub context_with : ControlFacts → List (Option Alternative) → ℕ → Alternative → List (Option Alternative)
context_with k context c a = if has_inside k c then slice_set context c (Some a) else context

-- the lists for each alternative of a component, in their contexts
abbrev pub case_lists_in : ControlFacts → List (Option Alternative) → Formulas → ℕ → List Alternative → List InContext
case_lists_in k context fs c [] = []
case_lists_in k context fs c (a ∷ rest) = in_context (context_with k context c a) (under (by_case_alone k c a) fs) ∷ case_lists_in k context fs c rest

abbrev pub by_component_in : Setting → List (Option Alternative) → Formulas → Option ℕ → Move InContext
by_component_in k context fs None = fails (left_open None)
by_component_in k context fs (Some c) =
    if may_case k.control context c then divides (by_case c) (case_lists_in k.control context fs c (component_at k.control.components c).alternatives)
    else fails (left_open None)

-- the same move, with each list in the context
abbrev pub moved_in : List (Option Alternative) → Move (Option Formulas) → Move InContext
moved_in context (closes t) = closes t
moved_in context (divides s lists) = divides s (map (in_context context) lists)
moved_in context (fails e) = fails e

abbrev pub by_place_in : Setting → List (Option Alternative) → Formulas → Option ℕ → Move InContext
by_place_in k context fs (Some l) = by_component_in k context fs (component_for k.control context l)
by_place_in k context fs None = moved_in context (by_variable k fs (first_truth_of fs))

abbrev pub by_conjuncts_in : Setting → List (Option Alternative) → Option Formulas → Move InContext
by_conjuncts_in k context None = closes impossible
by_conjuncts_in k context (Some fs) = by_place_in k context fs (first_place_of fs)

-- what is done at a list in a context
abbrev pub context_move : Setting → InContext → Move InContext
context_move k x = by_conjuncts_in k x.context x.conjuncts

-- nothing is decided of any component
abbrev pub first_context : ControlFacts → List (Option Alternative)
first_context k = replicate (length k.components) None

-- a tree within the limits that the search over lists in contexts finds is what the search finds
abbrev pub ContextsFindTheSame : Type 0
ContextsFindTheSame = (k : Setting) (given shown : Formula) (t : Tree) → IsModestTree t
    → Finds (context_move k) t (in_context (first_context k.control) (first_problem k given shown).conjuncts) → decided k given shown ≡ valid t

-- a tree of any size that it finds is a valid certificate
abbrev pub FoundTreesAreValid : Type 0
FoundTreesAreValid = (k : Setting) (given shown : Formula) (t : Tree)
    → AllForms (IsProper (length k.variables)) given → AllForms (IsProper (length k.variables)) shown
    → Finds (context_move k) t (in_context (first_context k.control) (first_problem k given shown).conjuncts) → IsCertificate k given shown t
