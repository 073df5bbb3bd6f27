-- A program as a fair transition system.
--
-- Each statement gives its own transitions, so the translation is one list over the statements in text order (Manna and
-- Pnueli, *Temporal Verification of Reactive Systems: Safety*, section 0.3 and 0.5). The locations that a mode enters are
-- read on the text.
use Rattle.std.specs.Prelude.{ℕ, true, List, [], ◌∷◌, map, flat_map, Option, Some, None}
use Rattle.st_linear.specs.Linear.{Linear}
use Rattle.st_form.specs.Formula.{Formula, truth_value, row, at, negation, every, formulas}
use Rattle.st_form.specs.Simple.{opened, append}
use Rattle.st_form.specs.declared.conditions.Part.TheVariants.{Whole, Entry, Exit}
use Rattle.st_form.specs.declared.conditions.TransName.{TransName}
use Rattle.st_form.specs.declared.conditions.TransName.TheVariants.{Idle, Step}
use Rattle.observations.specs.declared.Fairness.{Fairness}
use Rattle.observations.specs.declared.Fairness.TheVariants.{Unfair, Just, Compassionate}
use Rattle.transition_system.specs.Systems.{PlainMode, PlainTransition, System}
use Rattle.st_form.specs.declared.variables.Variable.{Variable}
use Rattle.st_program.specs.Tree.{Term, number, truth, Action, skip, critical, noncritical, assign, await, request, release, if_then, if_else, while_do, block, select, cooperate, group, Processes, occurrence, location, action}
use Rattle.st_program.specs.Spots.{Spot, all_spots}
use Rattle.st_program.specs.Groups.{Link, paths_along, inserted, Composed, nothing_composed, composed}
use Rattle.spl_semantics.specs.Control.{starts, ends}
use Rattle.spl_semantics.specs.Stores.{one_less, one_more}

-- right sides by rising variable
abbrev pub number_put : ℕ → Term → List (ℕ × Linear) → List (ℕ × Linear)
number_put v (number f) ps = inserted v f ps
number_put v (truth f) ps = ps

abbrev pub truth_put : ℕ → Term → List (ℕ × Formula) → List (ℕ × Formula)
truth_put v (number f) ps = ps
truth_put v (truth f) ps = inserted v f ps

abbrev pub numbers_of : List (ℕ × Term) → List (ℕ × Linear)
numbers_of [] = []
numbers_of (x ∷ xs) = number_put x.0 x.1 (numbers_of xs)

abbrev pub truths_of : List (ℕ × Term) → List (ℕ × Formula)
truths_of [] = []
truths_of (x ∷ xs) = truth_put x.0 x.1 (truths_of xs)

-- a mode from locations to others, with a guard and the values that it gives
abbrev pub moving : List ℕ → Formula → List (ℕ × Linear) → List (ℕ × Formula) → List ℕ → PlainMode
moving from guard numbers truths to = record {
  at = from;
  guard = guard;
  change = record { numbers = numbers; truths = truths; leaves = from; enters = to };
}

-- a mode that changes no variable
abbrev pub passing : List ℕ → Formula → List ℕ → PlainMode
passing from guard to = moving from guard [] [] to

-- a mode that gives values without a condition
abbrev pub giving : ℕ → Formula → List (ℕ × Term) → ℕ → PlainMode
giving l guard xs next = moving (l ∷ []) guard (numbers_of xs) (truths_of xs) (next ∷ [])

abbrev pub always : Formula
always = truth_value true

-- a path of a group: all its composed tests hold, and its composed values are given
abbrev pub path_mode : ℕ → Option Composed → ℕ → List PlainMode
path_mode l None next = []
path_mode l (Some c) next = moving (l ∷ []) (every (formulas c.tests)) c.numbers c.truths (next ∷ []) ∷ []

abbrev pub path_modes : ℕ → List (List Link) → ℕ → List PlainMode
path_modes l paths next = flat_map (λ path. path_mode l (composed path nothing_composed) next) paths

abbrev pub transition : TransName → Fairness → List PlainMode → PlainTransition
transition name fairness modes = record { name = name; fairness = fairness; modes = modes }

-- the transition of a statement that is taken as a whole
abbrev pub whole : ℕ → Fairness → List PlainMode → List PlainTransition
whole o fairness modes = transition (Step o Whole) fairness modes ∷ []

-- the transitions of the statement with occurrence o and location l, which is followed by the location next
abbrev pub own_transitions : Action → ℕ → ℕ → ℕ → List PlainTransition
own_transitions skip o l next = whole o Just (passing (l ∷ []) always (next ∷ []) ∷ [])
own_transitions critical o l next = whole o Just (passing (l ∷ []) always (next ∷ []) ∷ [])
own_transitions noncritical o l next = whole o Unfair (passing (l ∷ []) always (next ∷ []) ∷ [])
own_transitions (assign xs) o l next = whole o Just (giving l always xs next ∷ [])
own_transitions (await t) o l next = whole o Just (passing (l ∷ []) t (next ∷ []) ∷ [])
own_transitions (request v) o l next =
    whole o Compassionate (giving l (row (one_less v)) ((v, number (one_less v)) ∷ []) next ∷ [])
own_transitions (release v) o l next = whole o Just (giving l always ((v, number (one_more v)) ∷ []) next ∷ [])
own_transitions (if_then t y) o l next =
    whole o Just (passing (l ∷ []) t (location y ∷ []) ∷ passing (l ∷ []) (negation t) (next ∷ []) ∷ [])
own_transitions (if_else t y n) o l next =
    whole o Just (passing (l ∷ []) t (location y ∷ []) ∷ passing (l ∷ []) (negation t) (location n ∷ []) ∷ [])
own_transitions (while_do t b) o l next =
    whole o Just (passing (l ∷ []) t (location b ∷ []) ∷ passing (l ∷ []) (negation t) (next ∷ []) ∷ [])
own_transitions (block ss) o l next = []
own_transitions (select ss) o l next = []
own_transitions (cooperate ps) o l next =
    transition (Step o Entry) Just (passing (l ∷ []) always (starts ps) ∷ [])
    ∷ transition (Step o Exit) Just (passing (ends ps) always (next ∷ []) ∷ [])
    ∷ []
own_transitions (group xs) o l next = whole o Just (path_modes l (paths_along xs) next)

abbrev pub spot_transitions : Spot → List PlainTransition
spot_transitions x = own_transitions (action x.stmt) (occurrence x.stmt) (location x.stmt) x.next

-- idling is always enabled, and changes nothing
abbrev pub idling : PlainTransition
idling = transition Idle Unfair (passing [] always [] ∷ [])

abbrev pub all_transitions : Processes → List PlainTransition
all_transitions p = idling ∷ flat_map spot_transitions (all_spots p)

-- control is at the beginning of each process, and each `where` formula holds
abbrev pub initial_form : Processes → Formula → Formula
initial_form p initial = every (append (formulas (map (λ l. at l) (starts p))) (opened initial))

abbrev pub translation : List Variable → Formula → Processes → ℕ → System
translation variables initial p locations = record {
  locations = locations;
  truths = map (λ v. v.truth) variables;
  initial = initial_form p initial;
  transitions = all_transitions p;
}
