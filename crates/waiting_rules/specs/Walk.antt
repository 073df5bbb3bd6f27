-- What the walk over the modes asks of each.
use Rattle.std.specs.Prelude.{ℕ, List, [], ◌∷◌, Some, false}
use Rattle.st_form.specs.Formula.{Formula, truth_value}
use Rattle.st_form.specs.declared.conditions.Premise.TheVariants.{Move}
use Rattle.transition_system.specs.Systems.{PlainMode, PlainTransition}
use Rattle.vc_generator.specs.Building.{Draft, triple_of}
use Rattle.vc_generator.specs.Walks.{by_mode}

-- a mode leads from a level's formula to it or below
abbrev pub falls : ℕ → List Formula → ℕ → Formula → Formula → ℕ → PlainTransition → ℕ → PlainMode → List Draft
falls step lemmas node f below n t k m = triple_of m lemmas f below (truth_value false) (by_mode step Move (Some node) t.name k) ∷ []
