-- The component that is chosen for an undecided location in a context is the one that is chosen by all decisions, and may
-- be decided in the context exactly where it may be by all: the context has all decisions of components around others.
use Rattle.std.proofs.Common.{◌≡◌, ℕ, zero, suc, ◌<◌, Bool, true, false, List, [], ◌∷◌, length, refl, ap, ◌∙◌, sym, Option, Some, None, inl, inr, arith}
use Rattle.std.specs.Prelude.{◌&&◌, ◌||◌, ◌==◌, nat_lt, if◌then◌else◌, slice_get, slice_index_or, slice_set, option_and_then}
use Rattle.std.specs.List.{list_any}
use Rattle.std.proofs.lemmas.Bool.{cases_eq, or_right}
use Rattle.std.proofs.lemmas.Bool.Decides.{nat_tests}
use Rattle.std.proofs.lemmas.List.{get_or-set_other, length-set}
use Rattle.std.proofs.lemmas.Grind.{get_or-set_at}
use Rattle.std.proofs.lemmas.Option.{slice_get-get_or}
use Rattle.control_states.specs.declared.alternative.Alternative.{Alternative}
use Rattle.control_states.specs.Control.{ControlFacts, ComponentFacts, component_at}
use Rattle.control_states.specs.Place.{place}
use Rattle.farkas_check.specs.Problem.{is_free, is_within, known_active, may_case}
use Rattle.search_laws.specs.Moves.{or_else, if_undecided, outermost, component_for}
use Rattle.basic_laws.proofs.Numbers.{less}
use Rattle.sharing_laws.specs.Contexts.{is_around, has_inside}
use Rattle.sharing_laws.proofs.Placing.{owner-free}

-- what a context keeps of a decision
abbrev pub kept : Bool → Option Alternative → Option Alternative
kept inside o = if inside then o else None

-- a context has the decisions of the components that have others inside
abbrev pub Keeps : ControlFacts → List (Option Alternative) → List (Option Alternative) → Type 0
Keeps k context cases = (c : ℕ) → slice_index_or context c None ≡ kept (has_inside k c) (slice_index_or cases c None)

pub kept-none : (b : Bool) (o : Option Alternative) → o ≡ None → kept b o ≡ None
kept-none true o h = h
kept-none false o h = refl

-- ---- a decision more
pub kept-more : (xs cases : List (Option Alternative)) (n c i : ℕ) (a : Alternative) (b d : Bool) → (i ≡ c → b ≡ d) → length xs ≡ n → length cases ≡ n → c < n → slice_index_or xs i None ≡ kept b (slice_index_or cases i None)
    → slice_index_or (if d then slice_set xs c (Some a) else xs) i None ≡ kept b (slice_index_or (slice_set cases c (Some a)) i None)
kept-more xs cases n c i a true true s e g l h = elim (cases_eq i c) [
  | inl same ↦ get_or-set_at xs c i (Some a) None same (omega (arith, l, e)) ∙ sym (get_or-set_at cases c i (Some a) None same (omega (arith, l, g)))
  | inr other ↦ get_or-set_other xs c i (Some a) None other ∙ h ∙ sym (get_or-set_other cases c i (Some a) None other)
]
kept-more xs cases n c i a false true s e g l h = elim (cases_eq i c) [
  | inl same ↦ let no' : false ≡ true = s same in absurd (cc)
  | inr other ↦ get_or-set_other xs c i (Some a) None other ∙ h
]
kept-more xs cases n c i a true false s e g l h = elim (cases_eq i c) [
  | inl same ↦ let no' : true ≡ false = s same in absurd (cc)
  | inr other ↦ h ∙ sym (get_or-set_other cases c i (Some a) None other)
]
kept-more xs cases n c i a false false s e g l h = h

pub length-more : (xs : List (Option Alternative)) (c : ℕ) (a : Alternative) (b : Bool) → length (if b then slice_set xs c (Some a) else xs) ≡ length xs
length-more xs c a true = length-set xs c (Some a)
length-more xs c a false = refl

-- ---- the chosen component
same-number : (n : ℕ) → (n == n) ≡ true
same-number n = grind (arith, nat_tests)

around-inside : (parts : List ComponentFacts) (c : ℕ) (w : ℕ × ℕ) → (component_at parts c).around ≡ Some w → list_any (λ x. is_around w.0 x.around) parts ≡ true
around-inside [] c w h = absurd (cc)
around-inside (x ∷ xs) zero w h = ap (λ o. is_around w.0 o || list_any (λ x. is_around w.0 x.around) xs) h ∙ ap (λ b. b || list_any (λ x. is_around w.0 x.around) xs) (same-number w.0)
around-inside (x ∷ xs) (suc c) w h = or_right (is_around w.0 x.around) (list_any (λ x. is_around w.0 x.around) xs) (around-inside xs c w h)

-- a component round another is in the context as it is decided
around-kept : (k : ControlFacts) (xs cases : List (Option Alternative)) → Keeps k xs cases → (c : ℕ) (w : ℕ × ℕ) → (component_at k.components c).around ≡ Some w → slice_index_or xs w.0 None ≡ slice_index_or cases w.0 None
around-kept k xs cases g c w h = g w.0 ∙ ap (λ b. kept b (slice_index_or cases w.0 None)) (around-inside k.components c w h)

same-outermost : (k : ControlFacts) (xs cases : List (Option Alternative)) → Keeps k xs cases → (n c : ℕ) → slice_index_or xs c None ≡ slice_index_or cases c None → outermost k.components xs n c ≡ outermost k.components cases n c
same-outermost k xs cases g zero c h = refl
same-outermost k xs cases g (suc n) c h =
    ap (λ o. or_else o (if_undecided c (slice_index_or xs c None))) (by_way (λ d e. same-outermost k xs cases g n d e) (component_at k.components c).around refl)
    ∙ ap (λ e. or_else (option_and_then (λ w. outermost k.components cases n w.0) (component_at k.components c).around) (if_undecided c e)) h
  where
    by_way : ((d : ℕ) → slice_index_or xs d None ≡ slice_index_or cases d None → outermost k.components xs n d ≡ outermost k.components cases n d) → (w : Option (ℕ × ℕ)) → (component_at k.components c).around ≡ w
        → option_and_then (λ w. outermost k.components xs n w.0) w ≡ option_and_then (λ w. outermost k.components cases n w.0) w
    by_way r None e = refl
    by_way r (Some w) e = r w.0 (around-kept k xs cases g c w e)

pub same-component : (k : ControlFacts) (xs cases : List (Option Alternative)) (l : ℕ) → Keeps k xs cases → place k cases l ≡ None → component_for k xs l ≡ component_for k cases l
same-component k xs cases l g h = by_owner (slice_get k.owners l) refl
  where
    by_owner : (o : Option ℕ) → slice_get k.owners l ≡ o → option_and_then (outermost k.components xs (length k.components)) o ≡ option_and_then (outermost k.components cases (length k.components)) o
    by_owner None e = refl
    by_owner (Some c) e =
        let free = (owner-free k cases l c e h).1 in
        same-outermost k xs cases g (length k.components) c (g c ∙ kept-none (has_inside k c) (slice_index_or cases c None) free ∙ sym free)

-- ---- the chosen component is undecided
outermost-free : (parts : List ComponentFacts) (cases : List (Option Alternative)) (n c d : ℕ) → outermost parts cases n c ≡ Some d → slice_index_or cases d None ≡ None
outermost-free parts cases zero c d h = absurd (cc)
outermost-free parts cases (suc n) c d h = by_way (λ c h. outermost-free parts cases n c d h) (component_at parts c).around h
  where
    here : (o : Option Alternative) → slice_index_or cases c None ≡ o → if_undecided c o ≡ Some d → slice_index_or cases d None ≡ None
    here None e h = let same : c ≡ d = cc in ap (λ i. slice_index_or cases i None) (sym same) ∙ e
    here (Some a) e h = absurd (cc)

    by_found : (o : Option ℕ) → (o ≡ Some d → slice_index_or cases d None ≡ None) → or_else o (if_undecided c (slice_index_or cases c None)) ≡ Some d → slice_index_or cases d None ≡ None
    by_found None r h = here (slice_index_or cases c None) refl h
    by_found (Some e) r h = r h

    by_way : ((c : ℕ) → outermost parts cases n c ≡ Some d → slice_index_or cases d None ≡ None) → (w : Option (ℕ × ℕ)) → or_else (option_and_then (λ w. outermost parts cases n w.0) w) (if_undecided c (slice_index_or cases c None)) ≡ Some d
        → slice_index_or cases d None ≡ None
    by_way r None h = here (slice_index_or cases c None) refl h
    by_way r (Some w) h = by_found (outermost parts cases n w.0) (r w.0) h

pub component-free : (k : ControlFacts) (cases : List (Option Alternative)) (l c : ℕ) → component_for k cases l ≡ Some c → slice_index_or cases c None ≡ None
component-free k cases l c h = by_owner (slice_get k.owners l) h
  where
    by_owner : (o : Option ℕ) → option_and_then (outermost k.components cases (length k.components)) o ≡ Some c → slice_index_or cases c None ≡ None
    by_owner None h = absurd (cc)
    by_owner (Some d) h = outermost-free k.components cases (length k.components) d c h

-- ---- and may be decided
pub free-entry : {A : Type 0} (xs : List (Option A)) (i : ℕ) → i < length xs → slice_index_or xs i None ≡ None → is_free (slice_get xs i) ≡ true
free-entry xs i l h = ap is_free (slice_get-get_or xs i None l ∙ ap Some h)

same-active : (k : ControlFacts) (xs cases : List (Option Alternative)) → Keeps k xs cases → (c : ℕ) (w : Option (ℕ × ℕ)) → (component_at k.components c).around ≡ w → known_active xs w ≡ known_active cases w
same-active k xs cases g c None e = refl
same-active k xs cases g c (Some w) e = ap (is_within w.1) (around-kept k xs cases g c w e)

pub same-may : (k : ControlFacts) (xs cases : List (Option Alternative)) (c : ℕ) → length xs ≡ length k.components → length cases ≡ length k.components → Keeps k xs cases → slice_index_or cases c None ≡ None → may_case k cases c ≡ may_case k xs c
same-may k xs cases c e d g h = by_test (nat_lt c (length k.components)) refl
  where
    by_test : (b : Bool) → nat_lt c (length k.components) ≡ b → (b && (is_free (slice_get cases c) && known_active cases (component_at k.components c).around)) ≡ (b && (is_free (slice_get xs c) && known_active xs (component_at k.components c).around))
    by_test false t = refl
    by_test true t =
        let l = less c (length k.components) t in
        let there : c < length cases = omega (arith, l, d) in
        let here : c < length xs = omega (arith, l, e) in
        ap (λ b. b && known_active cases (component_at k.components c).around) (free-entry cases c there h ∙ sym (free-entry xs c here (g c ∙ kept-none (has_inside k c) (slice_index_or cases c None) h)))
        ∙ ap (λ b. is_free (slice_get xs c) && b) (sym (same-active k xs cases g c (component_at k.components c).around refl))
