use Rattle.std.proofs.Common.{◌≡◌, ℕ, ◌<◌, true, List, length, refl, ap, ◌∙◌, sym, subst, Option, Some, None, inl, inr, arith}
use Rattle.std.specs.Prelude.{◌==◌, slice_get, slice_index_or, slice_set}
use Rattle.std.proofs.lemmas.List.{get_or-set_same, get_or-set_other}
use Rattle.std.proofs.lemmas.Option.{slice_get_within}
use Rattle.std.proofs.lemmas.Bool.{cases_eq}
use Rattle.std.proofs.lemmas.Bool.Decides.{nat_tests}
use Rattle.control_states.specs.declared.alternative.Alternative.{Alternative}
use Rattle.control_states.specs.declared.alternative.Alternative.TheVariants.{Location, Inside}
use Rattle.control_states.specs.Control.{ComponentFacts, component_at, Active, process, child}
use Rattle.control_states.specs.Place.{Follows}
use Rattle.farkas_check.specs.Problem.{is_free, known_active, is_within}
use Rattle.basic_laws.proofs.Numbers.{test_same}

free_within : {A : Type 0} (xs : List (Option A)) (i : ℕ) → is_free (slice_get xs i) ≡ true → i < length xs
free_within {A} xs i h = by_entry (slice_get xs i) refl h
  where
    by_entry : (o : Option (Option A)) → slice_get xs i ≡ o → is_free o ≡ true → i < length xs
    by_entry None e k = absurd (cc)
    by_entry (Some x) e k = slice_get_within xs i x e

-- one more decision in a table
pub table_set : {A : Type 0} (xs : List (Option A)) (Fact : ℕ → A → Type 0) (c : ℕ) (a : A) → is_free (slice_get xs c) ≡ true → ((d : ℕ) (x : A) → slice_index_or xs d None ≡ Some x → Fact d x) → Fact c a
    → (d : ℕ) (x : A) → slice_index_or (slice_set xs c (Some a)) d None ≡ Some x → Fact d x
table_set {A} xs Fact c a free old new d x h = elim (cases_eq d c) [
  | inl same ↦
      let there = get_or-set_same xs c (Some a) None (free_within xs c free) in
      let read : slice_index_or (slice_set xs c (Some a)) c None ≡ Some x = subst (λ (n : ℕ). slice_index_or (slice_set xs c (Some a)) n None ≡ Some x) same h in
      let value : a ≡ x = some_same a x (sym there ∙ read) in
      subst (λ (n : ℕ). Fact n x) (sym same) (subst (λ (y : A). Fact c y) value new)
  | inr other ↦ old d x (sym (get_or-set_other xs c d (Some a) None other) ∙ h)
]
  where
    some_same : (y z : A) → Some y ≡ Some z → y ≡ z
    some_same y z e = cc

within_is : (o : ℕ) (d : Option Alternative) → is_within o d ≡ true → d ≡ Some (Inside o)
within_is o None h = absurd (cc)
within_is o (Some (Location l)) h = absurd (cc)
within_is o (Some (Inside p)) h = ap (λ n. Some (Inside n)) (test_same p o h)

-- a component that is known to be active is active
pub active_known : (parts : List ComponentFacts) (m : ℕ → Alternative) (cases : List (Option Alternative)) (c : ℕ) → c < length parts → Follows parts m cases → known_active cases (component_at parts c).around ≡ true → Active parts m c
active_known parts m cases c lt f h = by_way (component_at parts c).around refl h
  where
    by_way : (w : Option (ℕ × ℕ)) → (component_at parts c).around ≡ w → known_active cases w ≡ true → Active parts m c
    by_way None e k = process c lt e
    by_way (Some w) e k = let q = f w.0 (Inside w.1) (within_is w.1 (slice_index_or cases w.0 None) k) in child c w.0 w.1 lt e q.0 q.1
