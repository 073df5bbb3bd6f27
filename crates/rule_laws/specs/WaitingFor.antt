-- Nested waiting-for by a formula for each level (Manna and Pnueli, *Temporal Verification of Reactive Systems: Safety*,
-- rule NWAIT): where p holds some level's formula does, each level's formula implies the goal's formula of that level, and
-- each mode leads from a level above 0 to its own or to a lower one.
use Rattle.std.specs.Prelude.{ℕ, false, List, [], ◌∷◌, ◌++◌, length, Some, None}
use Rattle.st_form.specs.Formula.{Formula, truth_value, some, formulas}
use Rattle.vc_generator.specs.Building.{Draft, entails_of, triple_of}
use Rattle.st_form.specs.declared.conditions.Premise.TheVariants.{Cover, Level, Move}
use Rattle.transition_system.specs.Systems.{System}
use Rattle.vc_generator.specs.Walks.{each_mode, plainly, by_mode}

-- each level's formula implies the goal's; both are listed from the highest level down to level 0
abbrev pub level_list : ℕ → List Formula → List Formula → List Formula → List Draft
level_list step lemmas (f ∷ fs) (q ∷ qs) = entails_of lemmas f q (plainly step Level (Some (length fs))) ∷ level_list step lemmas fs qs
level_list step lemmas [] qs = []
level_list step lemmas (f ∷ fs) [] = []

-- each mode leads from a level above 0 to it or to a lower one
abbrev pub move_list : ℕ → System → List Formula → List Formula → List Draft
move_list step system lemmas [] = []
move_list step system lemmas (f ∷ []) = []
move_list step system lemmas (f ∷ g ∷ fs) =
    each_mode (λ n t k m. triple_of m lemmas f (some (formulas (f ∷ g ∷ fs))) (truth_value false) (by_mode step Move (Some (length (g ∷ fs))) t.name k) ∷ []) system
    ++ move_list step system lemmas (g ∷ fs)

-- the conditions of nested waiting-for by these levels
abbrev pub waiting_list : ℕ → System → List Formula → Formula → List Formula → List Formula → List Draft
waiting_list step system lemmas p goals levels =
    entails_of lemmas p (some (formulas levels)) (plainly step Cover None) ∷ (level_list step lemmas levels goals ++ move_list step system lemmas levels)
