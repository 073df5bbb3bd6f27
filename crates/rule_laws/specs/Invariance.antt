-- Basic invariance, and invariance by a stronger formula (Manna and Pnueli, *Temporal Verification of Reactive Systems:
-- Safety*, rules INV-B and INV): the formula holds at the start, each mode of each transition keeps it, and the stronger
-- one implies the goal.
use Rattle.std.specs.Prelude.{ℕ, false, List, [], ◌∷◌, Option, None, Some}
use Rattle.st_form.specs.Formula.{Formula, truth_value}
use Rattle.vc_generator.specs.Building.{Draft, start_of, entails_of, triple_of}
use Rattle.st_form.specs.declared.conditions.Premise.TheVariants.{Implies, Start, Keep}
use Rattle.transition_system.specs.Systems.{System}
use Rattle.vc_generator.specs.Walks.{each_mode, plainly, by_mode}

-- the formula holds at the start, and each mode keeps it
abbrev pub kept_always : ℕ → System → List Formula → Formula → List Draft
kept_always step system lemmas f =
    start_of system lemmas f (plainly step Start None) ∷ each_mode (λ n t k m. triple_of m lemmas f f (truth_value false) (by_mode step Keep None t.name k) ∷ []) system

-- the conditions of the invariance of p, by a stronger formula where there is one
abbrev pub invariance_list : ℕ → System → List Formula → Formula → Option Formula → List Draft
invariance_list step system lemmas p None = kept_always step system lemmas p
invariance_list step system lemmas p (Some f) = entails_of lemmas f p (plainly step Implies None) ∷ kept_always step system lemmas f
