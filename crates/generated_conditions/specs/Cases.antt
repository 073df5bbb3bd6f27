-- Where a step may lead, as formulas that hold before it: a formula about the state behind a mode is put before the mode,
-- which is the weakest precondition of the mode's change (Manna and Pnueli, *Temporal Verification of Reactive Systems:
-- Safety*, section 1.3).
use Rattle.std.specs.Prelude.{ℕ, ◌+◌, false, nat_eq, if◌then◌else◌, List, [], ◌∷◌, ◌++◌, length, map, fold, sum_by, Option, Some, slice_get, unwrap_or, option_map, option_and_then}
use Rattle.std.specs.Option.{option_eq}
use Rattle.st_linear.specs.Linear.{Linear, fitting, sum_of, replaced}
use Rattle.st_linear.specs.Simple.{negated}
use Rattle.st_form.specs.Formula.{Formula, truth_value, row, some, formulas, atoms_of}
use Rattle.st_form.specs.Exchange.{exchanged, atoms_behind}
use Rattle.st_form.specs.Shared.{together}
use Rattle.transition_system.specs.Systems.{PlainMode, System}
use Rattle.transition_system.specs.Meaning.{enabled_form}

-- the formula; false where a number of it would be 2^100 or more in size, which no formula within the bounds of systems
-- and rules comes to
abbrev pub or_false : Option Formula → Formula
or_false f = unwrap_or f (truth_value false)

-- f is at least all of gs together
abbrev pub at_least : Linear → List Linear → Formula
at_least f gs = or_false (option_map row (fold (λ rest g. option_and_then (λ h. fitting (sum_of h (negated g))) rest) (Some f) gs))

-- the transition is enabled; one that is absent never is
abbrev pub enabled : System → Option ℕ → Formula
enabled system name = or_false (option_map enabled_form (option_and_then (slice_get system.transitions) name))

-- a case: the step leads onto a formula; these formulas hold before it; and of each of these pairs of numbers the first
-- behind it is at most the second before it
pub data Case : Type 0 where
  onto : Formula → List Formula → List (Linear × Linear) → Case

-- the case as a formula before the mode, and the atoms that count for it
abbrev pub stated : PlainMode → Case → Formula × ℕ
stated m (onto f now falls) = (
  together (now ++ or_false (exchanged m.change f) ∷ map (λ (g, h). or_false (option_map (λ behind. at_least h (behind ∷ [])) (replaced m.change.numbers g))) falls),
  atoms_of (formulas now) + (atoms_behind m.change f + length falls),
)

-- one of the cases holds, with the atoms of all
abbrev pub one_of : PlainMode → List Case → Formula × ℕ
one_of m cases = (some (formulas (map (λ c. (stated m c).0) cases)), sum_by (λ c. (stated m c).1) cases)

-- cases that are there unless the step is of the transition with this name
abbrev pub unless : Option ℕ → ℕ → List Case → List Case
unless name number cases = if option_eq nat_eq name (Some number) then [] else cases

-- a node of a net or a diagram for a response: its number, its formula, what else holds where the rounds begin on it, what
-- holds of its ranks, what is enabled on it, and where a step of the transition with a number may lead from it
pub record Node : Type 0 where
  pub number : ℕ
  pub form : Formula
  pub starts : Formula
  pub ranked : List Formula
  pub helped : Formula
  pub cases : ℕ → List Case
