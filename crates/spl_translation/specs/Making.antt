-- Lists of the program's types as plain data, and places in them.
use Rattle.std.specs.Prelude.{ℕ, suc, Bool, false, List, [], ◌∷◌, map, ◌==◌, nat_lt, if◌then◌else◌}
use Rattle.st_form.specs.Formula.{Formula}
use Rattle.st_form.specs.Plain.{plain}
use Rattle.st_form.specs.declared.formulas.Form.{Form}
use Rattle.transition_system.specs.declared.transitions.Transition.{Transition}
use Rattle.transition_system.specs.Systems.{PlainTransition}
use Rattle.transition_system.specs.Plain.{plain_transition}

abbrev pub plain_truths : List (ℕ × Form) → List (ℕ × Formula)
plain_truths ps = map (λ p. (p.0, plain p.1)) ps

abbrev pub plain_all : List Transition → List PlainTransition
plain_all ts = map plain_transition ts

-- how many pairs stand before the first whose variable isn't below v
abbrev pub place_of : {X : Type 0} → ℕ → List (ℕ × X) → ℕ
place_of v [] = 0
place_of v (p ∷ ps) = if nat_lt p.0 v then suc (place_of v ps) else 0

-- the first pair is of the variable
abbrev pub begins_with : {X : Type 0} → ℕ → List (ℕ × X) → Bool
begins_with v [] = false
begins_with v (p ∷ ps) = p.0 == v
