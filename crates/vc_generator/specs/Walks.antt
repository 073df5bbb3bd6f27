-- The conditions of a rule go over the modes of a system: over the transitions in their order, and each one's modes.
use Rattle.std.specs.Prelude.{ℕ, ◌+◌, None, Some, List, [], ◌∷◌, ◌++◌}
use Rattle.vc_generator.specs.Building.{Draft}
use Rattle.st_form.specs.declared.conditions.CondName.{CondName}
use Rattle.st_form.specs.declared.conditions.Premise.{Premise}
use Rattle.st_form.specs.declared.conditions.TransName.{TransName}
use Rattle.std.specs.declared.option.Option.{Option}
use Rattle.transition_system.specs.Systems.{PlainMode, PlainTransition, System}

-- f of each number and item, in order, from a number on
abbrev pub numbered_from : {A : Type 0} → (ℕ → A → List Draft) → ℕ → List A → List Draft
numbered_from f n [] = []
numbered_from f n (x ∷ xs) = f n x ++ numbered_from f (n + 1) xs

-- f of the number of each transition, the transition, and each of its modes with its number, which counts from 1
abbrev pub each_mode : (ℕ → PlainTransition → ℕ → PlainMode → List Draft) → System → List Draft
each_mode f system = numbered_from (λ n t. numbered_from (λ k m. f n t k m) 1 t.modes) 0 system.transitions

-- the name of a condition about no transition, and of one about a mode
abbrev pub plainly : ℕ → Premise → Option ℕ → CondName
plainly step premise node = record { step = step; premise = premise; node = node; trans = None; mode = 0 }

abbrev pub by_mode : ℕ → Premise → Option ℕ → TransName → ℕ → CondName
by_mode step premise node trans mode = record { step = step; premise = premise; node = node; trans = Some trans; mode = mode }
