-- The loop that climbs from a component to those around it.
use Rattle.std.proofs.Common.{◌≡◌, ℕ, suc, refl, ap, ◌∙◌, sym, Option, Some, None, List}
use Rattle.std.specs.Prelude.{option_and_then, slice_index_or}
use Rattle.control_states.specs.declared.alternative.Alternative.{Alternative}
use Rattle.control_states.specs.Control.{ComponentFacts, component_at}
use Rattle.search_laws.specs.Moves.{or_else, if_undecided, outermost}

or_else-assoc : {A : Type 0} (a b c : Option A) → or_else (or_else a b) c ≡ or_else a (or_else b c)
or_else-assoc (Some x) b c = refl
or_else-assoc None b c = refl

-- one component further out
pub outer : (parts : List ComponentFacts) (cases : List (Option Alternative)) (n m c : ℕ) (w : ℕ × ℕ) (best next whole : Option ℕ) → m ≡ suc n → (component_at parts c).around ≡ Some w
    → next ≡ or_else (if_undecided c (slice_index_or cases c None)) best
    → or_else (outermost parts cases m c) best ≡ whole → or_else (outermost parts cases n w.0) next ≡ whole
outer parts cases n m c w best next whole l e b h =
    ap (or_else (outermost parts cases n w.0)) b
    ∙ sym (or_else-assoc (outermost parts cases n w.0) (if_undecided c (slice_index_or cases c None)) best)
    ∙ sym (ap (λ o. or_else (or_else (option_and_then (λ v. outermost parts cases n v.0) o) (if_undecided c (slice_index_or cases c None))) best) e)
    ∙ sym (ap (λ k. or_else (outermost parts cases k c) best) l) ∙ h
