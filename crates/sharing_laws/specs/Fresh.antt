-- Fresh problems: the tables have all components and variables, and no literal of the conjuncts is decided.
use Rattle.std.specs.Prelude.{◌≡◌, ℕ, List, length, Bool, Option, None, slice_index_or}
use Rattle.control_states.specs.declared.alternative.Alternative.{Alternative}
use Rattle.control_states.specs.Control.{ControlFacts}
use Rattle.control_states.specs.Place.{place}
use Rattle.farkas_check.specs.Problem.{Setting, Problem}
use Rattle.search_laws.specs.Ends.{IfLiterals}

abbrev pub IsFreePlace : ControlFacts → List (Option Alternative) → ℕ → Type 0
IsFreePlace k cases l = place k cases l ≡ None

abbrev pub IsFreeTruth : List (Option Bool) → ℕ → Type 0
IsFreeTruth truths v = slice_index_or truths v None ≡ None

pub record IsFresh (k : Setting) (p : Problem) : Type 0 where
  pub cases : length p.cases ≡ length k.control.components
  pub truths : length p.truths ≡ length k.variables
  pub free : IfLiterals (IsFreePlace k.control p.cases) (IsFreeTruth p.truths) p.conjuncts
