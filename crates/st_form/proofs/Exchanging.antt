-- A list of formulas is exchanged one after the other.
use Rattle.std.proofs.Common.{◌≡◌, ℕ, ◌+◌, ◌<◌, ◌≤◌, List, [], ◌∷◌, ◌++◌, length, drop, get_or, refl, ap, ◌∙◌, sym, Option, Some, None}
use Rattle.std.specs.Prelude.{option_and_then}
use Rattle.std.specs.Option.{option_map}
use Rattle.std.proofs.lemmas.List.{drop_more}
use Rattle.std.proofs.Math.ListN.{drop_of_length-le}
use Rattle.st_form.specs.Formula.{Formulas, none, more}
use Rattle.st_form.specs.Plain.{plain, plain_list}
use Rattle.st_form.specs.Exchange.{Exchange, exchanged, all_exchanged}
use Rattle.st_form.specs.declared.formulas.Form.{Form}

-- formulas of the program in front of others
abbrev pub onto : List Form → Formulas → Formulas
onto [] gs = gs
onto (f ∷ fs) gs = more (plain f) (onto fs gs)

onto-push : (fs : List Form) (f : Form) (gs : Formulas) → onto (fs ++ f ∷ []) gs ≡ onto fs (more (plain f) gs)
onto-push [] f gs = refl
onto-push (e ∷ fs) f gs = ap (more (plain e)) (onto-push fs f gs)

onto-none : (fs : List Form) → onto fs none ≡ plain_list fs
onto-none [] = refl
onto-none (f ∷ fs) = ap (more (plain f)) (onto-none fs)

onto-push_all : (fs : List Form) (f : Form) (o : Option Formulas) → option_map (onto (fs ++ f ∷ [])) o ≡ option_map (onto fs) (option_map (more (plain f)) o)
onto-push_all fs f None = refl
onto-push_all fs f (Some gs) = ap Some (onto-push fs f gs)

-- the next formula is exchanged
all_exchanged-more : (x : Exchange) (fs : List Form) (i : ℕ) (f : Form) → i < length fs → f ≡ get_or fs i f → all_exchanged x (plain_list (drop i fs)) ≡ option_and_then (λ g. option_map (more g) (all_exchanged x (plain_list (drop (i + 1) fs)))) (exchanged x (plain f))
all_exchanged-more x fs i f h k = ap (λ l. all_exchanged x (plain_list l)) (drop_more fs i f h) ∙ ap (λ e. option_and_then (λ g. option_map (more g) (all_exchanged x (plain_list (drop (i + 1) fs)))) (exchanged x (plain e))) (sym k)

pub onto-step : (x : Exchange) (fs out : List Form) (i : ℕ) (f after : Form) (whole : Option Formulas) → i < length fs → f ≡ get_or fs i f → exchanged x (plain f) ≡ Some (plain after)
    → option_map (onto out) (all_exchanged x (plain_list (drop i fs))) ≡ whole
    → option_map (onto (out ++ after ∷ [])) (all_exchanged x (plain_list (drop (i + 1) fs))) ≡ whole
onto-step x fs out i f after whole h k l inv =
    onto-push_all out after _ ∙ ap (option_map (onto out)) (sym (all_exchanged-more x fs i f h k ∙ ap (option_and_then (λ g. option_map (more g) (all_exchanged x (plain_list (drop (i + 1) fs))))) l)) ∙ inv

pub onto-end : (x : Exchange) (fs out : List Form) (i : ℕ) (whole : Option Formulas) → length fs ≤ i → option_map (onto out) (all_exchanged x (plain_list (drop i fs))) ≡ whole → whole ≡ Some (plain_list out)
onto-end x fs out i whole h inv = sym (rw (drop_of_length-le fs h) at inv) ∙ ap Some (onto-none out)
