-- The loops of the state that is shown.
use Rattle.std.proofs.Common.{◌≡◌, ℕ, ◌+◌, ◌<◌, List, [], ◌∷◌, ◌++◌, drop, length, get_or, ap, ◌∙◌, sym, append_assoc}
use Rattle.std.proofs.lemmas.List.{drop_more}
use Rattle.control_states.specs.declared.alternative.Alternative.{Alternative}
use Rattle.st_form.specs.declared.variables.Variable.{Variable}
use Rattle.st_form.specs.Formula.{Situation}
use Rattle.st_program.specs.declared.residuals.Datum.{Datum}
use Rattle.search_laws.specs.States.{State, value_of, values_of}

-- one value more
pub values-more : (store : List Datum) (variables : List Variable) (v : ℕ) (x : Variable) (d : Datum) (s : Situation) (whole : List Datum) → v < length variables → d ≡ value_of (get_or variables v x) v s
    → store ++ values_of (drop v variables) v s ≡ whole → (store ++ d ∷ []) ++ values_of (drop (v + 1) variables) (v + 1) s ≡ whole
values-more store variables v x d s whole h n w =
    append_assoc store (d ∷ []) (values_of (drop (v + 1) variables) (v + 1) s)
    ∙ ap (λ y. store ++ (y ∷ values_of (drop (v + 1) variables) (v + 1) s)) n
    ∙ sym (ap (λ l. store ++ values_of l v s) (drop_more variables v x h)) ∙ w

abbrev pub state_with : List (ℕ × Alternative) → List Datum → State
state_with control store = record { control = control; store = store }

pub same-state : (a b : List (ℕ × Alternative)) (x y : List Datum) → a ≡ b → x ≡ y → state_with a x ≡ state_with b y
same-state a b x y h k = ap (λ c. state_with c x) h ∙ ap (state_with b) k
