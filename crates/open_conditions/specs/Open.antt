-- All conditions that aren't decided valid.
use Rattle.std.specs.Prelude.{ℕ, suc, Bool, true, false, List, [], ◌∷◌}
use Rattle.st_form.specs.declared.conditions.Condition.{Condition}
use Rattle.farkas_check.specs.Problem.{Setting}
use Rattle.discharge.specs.declared.marks.Undecided.{Undecided}
use Rattle.discharge.specs.Marked.{IsUndecided}

-- the places of what is false, counted from n on
abbrev pub places_of_false : ℕ → List Bool → List ℕ
places_of_false n [] = []
places_of_false n (true ∷ bs) = places_of_false (suc n) bs
places_of_false n (false ∷ bs) = n ∷ places_of_false (suc n) bs

-- each isn't decided valid, and its verdict is the answer to it
abbrev pub AreOpen : Setting → List Condition → List Undecided → Type 0
AreOpen k cs [] = Unit {0}
AreOpen k cs (u ∷ us) = IsUndecided k cs u × AreOpen k cs us
