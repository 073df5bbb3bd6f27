-- What the walk over the modes asks of each.
use Rattle.std.specs.Prelude.{ℕ, List, [], ◌∷◌, None, false}
use Rattle.st_form.specs.Formula.{Formula, truth_value}
use Rattle.st_form.specs.declared.conditions.Premise.TheVariants.{Keep}
use Rattle.transition_system.specs.Systems.{PlainMode, PlainTransition}
use Rattle.vc_generator.specs.Building.{Draft, triple_of}
use Rattle.vc_generator.specs.Walks.{by_mode}

-- a mode keeps the formula
abbrev pub keeps : ℕ → List Formula → Formula → ℕ → PlainTransition → ℕ → PlainMode → List Draft
keeps step lemmas f n t k m = triple_of m lemmas f f (truth_value false) (by_mode step Keep None t.name k) ∷ []
