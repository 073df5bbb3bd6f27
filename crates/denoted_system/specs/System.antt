-- The fair transition system that a program denotes (Manna and Pnueli, *Temporal Verification of Reactive Systems: Safety*, sections 0.2 and
-- 0.3): idling, and in the order of the text the transitions of each statement, with their fairness. A mode of a transition leads from
-- the locations where control is to those where it is behind it, under a guard, and changes variables.
use Rattle.std.specs.Prelude.{ℕ, true, List, [], ◌∷◌, map, flat_map, Option, Some, None}
use Rattle.st_form.specs.Formula.{Formula, truth_value, row, at, negation, every, formulas}
use Rattle.st_form.specs.Simple.{append, opened}
use Rattle.st_form.specs.declared.variables.Variable.{Variable}
use Rattle.st_form.specs.declared.conditions.TransName.TheVariants.{Idle, Step}
use Rattle.st_form.specs.declared.conditions.Part.TheVariants.{Whole, Entry, Exit}
use Rattle.observations.specs.declared.Fairness.{Fairness}
use Rattle.observations.specs.declared.Fairness.TheVariants.{Unfair, Just, Compassionate}
use Rattle.transition_system.specs.Systems.{PlainMode, PlainTransition, System}
use Rattle.st_program.specs.Tree.{Term, number, Action, skip, critical, noncritical, assign, await, request, release, if_then, if_else, while_do, block, select, cooperate, group, Processes, occurrence, location, action}
use Rattle.st_program.specs.Spots.{all_spots}
use Rattle.st_program.specs.Groups.{Composed, nothing_composed, put, composed, paths_along}
use Rattle.spl_semantics.specs.Stores.{one_less, one_more}
use Rattle.spl_semantics.specs.Control.{starts, ends}

-- what is assigned to variables
abbrev pub changes : List (ℕ × Term) → Composed
changes [] = nothing_composed
changes (x ∷ xs) = put x.0 x.1 (changes xs)

-- control moves under a guard, and variables change
abbrev pub moving : List ℕ → Formula → Composed → List ℕ → PlainMode
moving from guard c to = record { at = from; guard = guard; change = record { numbers = c.numbers; truths = c.truths; leaves = from; enters = to } }

-- a transition that is a whole statement
abbrev pub whole : ℕ → Fairness → List PlainMode → List PlainTransition
whole o fairness modes = record { name = Step o Whole; fairness = fairness; modes = modes } ∷ []

-- control moves under a guard from one location to another
abbrev pub passing : ℕ → Formula → ℕ → PlainMode
passing l guard next = moving (l ∷ []) guard nothing_composed (next ∷ [])

-- the mode of a path through a group, if its assignments can be composed
abbrev pub path_mode : ℕ → Option Composed → ℕ → List PlainMode
path_mode l None next = []
path_mode l (Some c) next = moving (l ∷ []) (every (formulas c.tests)) c (next ∷ []) ∷ []

-- the transitions of a statement by its occurrence, its location, and the location behind it
abbrev pub own : Action → ℕ → ℕ → ℕ → List PlainTransition
own skip o l next = whole o Just (passing l (truth_value true) next ∷ [])
own critical o l next = whole o Just (passing l (truth_value true) next ∷ [])
own noncritical o l next = whole o Unfair (passing l (truth_value true) next ∷ [])
own (assign xs) o l next = whole o Just (moving (l ∷ []) (truth_value true) (changes xs) (next ∷ []) ∷ [])
own (await t) o l next = whole o Just (passing l t next ∷ [])
own (request v) o l next = whole o Compassionate (moving (l ∷ []) (row (one_less v)) (changes ((v, number (one_less v)) ∷ [])) (next ∷ []) ∷ [])
own (release v) o l next = whole o Just (moving (l ∷ []) (truth_value true) (changes ((v, number (one_more v)) ∷ [])) (next ∷ []) ∷ [])
own (if_then t y) o l next = whole o Just (passing l t (location y) ∷ passing l (negation t) next ∷ [])
own (if_else t y n) o l next = whole o Just (passing l t (location y) ∷ passing l (negation t) (location n) ∷ [])
own (while_do t b) o l next = whole o Just (passing l t (location b) ∷ passing l (negation t) next ∷ [])
own (block ss) o l next = []
own (select ss) o l next = []
own (cooperate ps) o l next =
    record { name = Step o Entry; fairness = Just; modes = moving (l ∷ []) (truth_value true) nothing_composed (starts ps) ∷ [] }
    ∷ record { name = Step o Exit; fairness = Just; modes = moving (ends ps) (truth_value true) nothing_composed (next ∷ []) ∷ [] } ∷ []
own (group xs) o l next = whole o Just (flat_map (λ path. path_mode l (composed path nothing_composed) next) (paths_along xs))

-- the system: control begins at the first statement of each process
abbrev pub denoted : List Variable → Formula → Processes → ℕ → System
denoted variables initial p locations = record {
  locations = locations;
  truths = map (λ v. v.truth) variables;
  initial = every (append (formulas (map (λ l. at l) (starts p))) (opened initial));
  transitions = record { name = Idle; fairness = Unfair; modes = moving [] (truth_value true) nothing_composed [] ∷ [] } ∷ flat_map (λ x. own (action x.stmt) (occurrence x.stmt) (location x.stmt) x.next) (all_spots p);
}
