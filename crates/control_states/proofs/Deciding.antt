use Rattle.std.proofs.Common.{◌≡◌, ℕ, zero, suc, ◌-◌, ◌<◌, ◌≤◌, Bool, true, false, List, length, refl, ap, ◌∙◌, sym, subst, Option, Some, None, arith, ◌⊎◌, inl, inr}
use Rattle.std.specs.Prelude.{not, ◌||◌, ◌==◌, IsTrue, slice_get, slice_index_or, option_and_then}
use Rattle.std.proofs.lemmas.Bool.Decides.{nat_tests}
use Rattle.std.proofs.lemmas.Option.{slice_get_past}
use Rattle.control_states.specs.declared.alternative.Alternative.{Alternative}
use Rattle.control_states.specs.declared.alternative.Alternative.TheVariants.{Location, Inside}
use Rattle.control_states.specs.Control.{ComponentFacts, ControlFacts, component_at, Active, process, child, InControl}
use Rattle.control_states.specs.Place.{is_inside, is_location, elsewhere, cut_by, cut_off, place_by, place_in, place, Follows, AreRight}
use Rattle.basic_laws.proofs.Numbers.{same_test, test_same}
use Rattle.basic_laws.proofs.Truths.{or_parts}
use Rattle.basic_laws.proofs.Types.{some_same}

pub cut_off-step : (parts : List ComponentFacts) (cases : List (Option Alternative)) (n c : ℕ) → 0 < n → cut_off parts cases n c ≡ cut_by cases (cut_off parts cases (n - 1)) (component_at parts c).around
cut_off-step parts cases zero c h = absurd (omega arith)
cut_off-step parts cases (suc n) c h = let e : suc n - 1 ≡ n = omega arith in rw e

elsewhere-not : (o : ℕ) (d : Option Alternative) → elsewhere o d ≡ true → (a : Alternative) × (d ≡ Some a) × (is_inside o a ≡ false)
elsewhere-not o None h = absurd (cc)
elsewhere-not o (Some a) h = (a, refl, turned (is_inside o a) h)
  where
    turned : (b : Bool) → not b ≡ true → b ≡ false
    turned true k = absurd (cc)
    turned false k = refl

-- a component that is cut off is not active
pub cut_off-inactive : (parts : List ComponentFacts) (m : ℕ → Alternative) (cases : List (Option Alternative)) → Follows parts m cases → (n c : ℕ) → cut_off parts cases n c ≡ true → Active parts m c → ⊥
cut_off-inactive parts m cases f zero c h act = absurd (cc)
cut_off-inactive parts m cases f (suc n) c h (process _ lt none) = let e = rw none at h in absurd (cc)
cut_off-inactive parts m cases f (suc n) c h (child _ a o lt way act is) =
    elim (or_parts (elsewhere o (slice_index_or cases a None)) (cut_off parts cases n a) (rw way at h)) [
      | inl e ↦
          let p = elsewhere-not o (slice_index_or cases a None) e in
          let q = f a p.0 p.1 in
          let r : is_inside o p.0 ≡ true = ap (is_inside o) (sym q.1 ∙ is) ∙ same_test o in
          absurd (cc)
      | inr e ↦ cut_off-inactive parts m cases f n a e act
    ]

is_location-is : (l : ℕ) (a : Alternative) → is_location l a ≡ true → a ≡ Location l
is_location-is l (Location m) h = ap Location (test_same m l h)
is_location-is l (Inside p) h = absurd (cc)

is_location-not : (l : ℕ) (a : Alternative) → is_location l a ≡ false → a ≡ Location l → ⊥
is_location-not l a h e = let t : is_location l (Location l) ≡ true = same_test l in let k = rw e at h in absurd (cc)

false_if : (b : Bool) → (IsTrue b → ⊥) → b ≡ false
false_if true h = absurd (h refl)
false_if false h = refl

-- a decided truth value of being at a location is right in each control state that has the decisions
pub place-right : (k : ControlFacts) (m : ℕ → Alternative) (at : ℕ → Bool) (cases : List (Option Alternative)) → InControl k m at → Follows k.components m cases → (l : ℕ) (b : Bool) → place k cases l ≡ Some b → at l ≡ b
place-right k m at cases i f l b h = by_owner (slice_get k.owners l) refl h
  where
    by_case : (c : ℕ) (d : Option Alternative) (cut : Bool) → slice_get k.owners l ≡ Some c → slice_index_or cases c None ≡ d → cut_off k.components cases (length k.components) c ≡ cut → place_by l cut d ≡ Some b → at l ≡ b
    by_case c (Some a) cut own e g h =
        let q = f c a e in
        by_test (is_location l a) refl (some_same _ _ h)
      where
        by_test : (t : Bool) → is_location l a ≡ t → is_location l a ≡ b → at l ≡ b
        by_test true t s =
            let q = f c a e in
            (i.located l).1 (c, own, q.0, q.1 ∙ is_location-is l a t) ∙ sym t ∙ s
        by_test false t s =
            let q = f c a e in
            false_if (at l) (λ y.
            let w = (i.located l).0 y in
            let same : c ≡ w.0 = some_same _ _ (sym own ∙ w.1) in
            is_location-not l a t (sym q.1 ∙ ap m same ∙ w.3)) ∙ sym t ∙ s
    by_case c None true own e g h =
        false_if (at l) (λ y.
        let w = (i.located l).0 y in
        let same : w.0 ≡ c = some_same _ _ (sym w.1 ∙ own) in
        cut_off-inactive k.components m cases f (length k.components) c g (subst (λ (x : ℕ). Active k.components m x) same w.2)) ∙ some_same _ _ h
    by_case c None false own e g h = absurd (cc)

    by_owner : (o : Option ℕ) → slice_get k.owners l ≡ o → option_and_then (place_in k.components cases l) o ≡ Some b → at l ≡ b
    by_owner None own h = absurd (cc)
    by_owner (Some c) own h = by_case c (slice_index_or cases c None) (cut_off k.components cases (length k.components) c) own refl refl h

-- nothing is decided by the nearest component around: on to it
pub cut_off-further : (parts : List ComponentFacts) (cases : List (Option Alternative)) (n c : ℕ) (way : Option (ℕ × ℕ)) (w : ℕ × ℕ) (whole : Bool) → 0 < n → way ≡ (component_at parts c).around → way ≡ Some w → elsewhere w.1 (slice_index_or cases w.0 None) ≡ false
    → cut_off parts cases n c ≡ whole → cut_off parts cases (n - 1) w.0 ≡ whole
cut_off-further parts cases n c way w whole h a e f g =
    let step = cut_off-step parts cases n c h in
    let there : (component_at parts c).around ≡ Some w = sym a ∙ e in
    let by = rw there at step in
    let free = ap (λ b. b || cut_off parts cases (n - 1) w.0) f in
    sym (by ∙ free) ∙ g

pub place-past : (k : ControlFacts) (cases : List (Option Alternative)) (l : ℕ) → length k.owners ≤ l → place k cases l ≡ None
place-past k cases l h = rw (slice_get_past k.owners l h)

-- a table of what is decided is right
pub are_right : (k : ControlFacts) (cases : List (Option Alternative)) (places : List (Option Bool)) → ((l : ℕ) → slice_index_or places l None ≡ place k cases l) → AreRight k cases places
are_right k cases places same m at i f l b h = place-right k m at cases i f l b (sym (same l) ∙ h)
