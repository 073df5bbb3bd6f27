-- Verification conditions: each is an implication between two formulas.
--
-- A condition about a step speaks of the state before it: a formula about the state behind a mode is put before the mode,
-- which is the weakest precondition of the mode's change (Manna and Pnueli, *Temporal Verification of Reactive Systems:
-- Safety*, section 1.3).
use Rattle.std.specs.Prelude.{ℕ, true, false, List, [], ◌∷◌, ◌++◌, map, unwrap_or}
use Rattle.std.specs.Option.{option_map, option_and_then}
use Rattle.st_linear.specs.Linear.{Linear, fitting, sum_of, replaced}
use Rattle.st_linear.specs.Simple.{negated}
use Rattle.st_form.specs.Formula.{Formula, Formulas, truth_value, row, every, some, none, more, formulas}
use Rattle.st_form.specs.Exchange.{exchanged}
use Rattle.st_form.specs.Condition.{Implication}
use Rattle.st_form.specs.Shared.{together}
use Rattle.st_form.specs.declared.conditions.CondName.{CondName}
use Rattle.transition_system.specs.Systems.{PlainMode, System}
use Rattle.transition_system.specs.Meaning.{enabling_of}
use Rattle.vc_generator.specs.Atoms.{PlainCase, start_atoms, entails_atoms, triple_atoms, moved_atoms}

-- the formula that holds before the mode exactly where f holds behind it; false where a number of it would be 2^100 or
-- more in size, which no formula within the bounds of systems and rules comes to
abbrev pub after : PlainMode → Formula → Formula
after m f = unwrap_or (exchanged m.change f) (truth_value false)

-- f is at least g, and f is at least g and h together; false where a number on the way would be 2^100 or more in size,
-- likewise
abbrev pub at_least : Linear → Linear → Formula
at_least f g = unwrap_or (option_map row (fitting (sum_of f (negated g)))) (truth_value false)

abbrev pub at_least_both : Linear → Linear → Linear → Formula
at_least_both f g h = unwrap_or (option_map row (option_and_then (λ d. fitting (sum_of d (negated h))) (fitting (sum_of f (negated g))))) (truth_value false)

-- the first number behind the mode is at most the second before it
abbrev pub falls_to : PlainMode → Linear × Linear → Formula
falls_to m p = unwrap_or (option_map (at_least p.1) (replaced m.change.numbers p.0)) (truth_value false)

abbrev pub listed : Formulas → List Formula
listed none = []
listed (more f fs) = f ∷ listed fs

-- the parts of a conjunction; of another formula itself
abbrev pub conjuncts : Formula → List Formula
conjuncts (every fs) = listed fs
conjuncts f = f ∷ []

-- a condition, and how many atoms it has
pub record Draft : Type 0 where
  pub wide : ℕ
  pub condition : Implication

abbrev pub draft : ℕ → List Formula → Formula → CondName → Draft
draft wide given shown name = record { wide = wide; condition = record { given = every (formulas given); shown = shown; name = name } }

-- at the start the formula holds
abbrev pub start_of : System → List Formula → Formula → CondName → Draft
start_of system lemmas f name = draft (start_atoms system lemmas f) (lemmas ++ conjuncts system.initial) f name

-- where the one formula holds, the other does
abbrev pub entails_of : List Formula → Formula → Formula → CondName → Draft
entails_of lemmas given shown name = draft (entails_atoms lemmas given shown) (lemmas ++ given ∷ []) shown name

-- behind the mode, or now; a `now` that is false isn't written
abbrev pub behind_or : PlainMode → Formula → Formula → Formula
behind_or m behind (truth_value false) = after m behind
behind_or m behind now = some (formulas (after m behind ∷ now ∷ []))

-- from `before` each step by the mode leads to `behind`, unless `now` held before it
abbrev pub triple_of : PlainMode → List Formula → Formula → Formula → Formula → CondName → Draft
triple_of m lemmas before behind now name = draft (triple_atoms m lemmas before behind now) (lemmas ++ before ∷ enabling_of m) (behind_or m behind now) name

-- a `now` that is true isn't written
abbrev pub unless_true : Formula → List Formula
unless_true (truth_value true) = []
unless_true f = f ∷ []

abbrev pub case_of : PlainMode → PlainCase → Formula
case_of m c = together (unless_true c.now ++ after m c.behind ∷ map (falls_to m) c.falls)

-- from `before` each step by the mode leads as one of the cases says
abbrev pub moved_of : PlainMode → List Formula → Formula → List PlainCase → CondName → Draft
moved_of m lemmas before cases name = draft (moved_atoms m lemmas before cases) (lemmas ++ before ∷ enabling_of m) (some (formulas (map (case_of m) cases))) name
