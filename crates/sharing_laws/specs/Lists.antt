-- What is made of a list of conjuncts by a decision, and what is done at one where no location is left. No literal of a list
-- is decided, so a decision more changes it as that decision alone does. What is done about a location hangs on the list's
-- context too (Contexts).
use Rattle.std.specs.Prelude.{ℕ, if◌then◌else◌, Bool, true, false, List, [], ◌∷◌, length, map, replicate, slice_get, slice_set, Option, Some, None}
use Rattle.st_form.specs.Formula.{Formulas, none}
use Rattle.st_form.specs.Simple.{Decided, gathered, simples}
use Rattle.control_states.specs.declared.alternative.Alternative.{Alternative}
use Rattle.control_states.specs.Control.{ControlFacts}
use Rattle.st_certificate.specs.Tree.{by_truth, by_split, linear}
use Rattle.farkas_check.specs.Problem.{Setting, decided_by, has_truth, lines_of, split_from}
use Rattle.elimination_laws.specs.Stages.{Ending, through, contradiction, too_wide, ending}
use Rattle.search_laws.specs.Walks.{left_open, Move, closes, divides, fails}

-- n places, of which the i-th alone has something
abbrev pub only : {A : Type 0} → ℕ → ℕ → A → List (Option A)
only n i x = slice_set (replicate n None) i (Some x)

-- what the decision of a component says, alone
abbrev pub by_case_alone : ControlFacts → ℕ → Alternative → Decided
by_case_alone k c a = decided_by k (only (length k.components) c a) []

-- what the decision of a boolean variable says, alone
abbrev pub by_truth_alone : Setting → ℕ → Bool → Decided
by_truth_alone k v b = decided_by k.control [] (only (length k.variables) v b)

-- the conjuncts under decisions, or None where one of them is false
abbrev pub under : Decided → Formulas → Option Formulas
under d fs = gathered true (simples d fs true)

-- the lists for each alternative of a component
abbrev pub case_lists : ControlFacts → Formulas → ℕ → List Alternative → List (Option Formulas)
case_lists k fs c [] = []
case_lists k fs c (a ∷ rest) = under (by_case_alone k c a) fs ∷ case_lists k fs c rest

-- the lists for both values of a boolean variable
abbrev pub truth_lists : Setting → Formulas → ℕ → List (Option Formulas)
truth_lists k fs v = under (by_truth_alone k v true) fs ∷ under (by_truth_alone k v false) fs ∷ []

-- a contradiction closes; what else elimination comes to isn't told apart
abbrev pub by_ending : Ending → Move (Option Formulas)
by_ending (contradiction picks) = closes (linear picks)
by_ending (through us) = fails (left_open None)
by_ending (too_wide s) = fails (left_open None)

abbrev pub by_disjunction : Setting → Formulas → Option (List Formulas) → Move (Option Formulas)
by_disjunction k fs (Some lists) = divides (by_split 0) (map Some lists)
by_disjunction k fs None = by_ending (ending (lines_of fs) (length k.variables))

abbrev pub by_variable : Setting → Formulas → Option ℕ → Move (Option Formulas)
by_variable k fs (Some v) = if has_truth (slice_get k.variables v) then divides (by_truth v) (truth_lists k fs v) else fails (left_open None)
by_variable k fs None = by_disjunction k fs (split_from none 0 fs)
