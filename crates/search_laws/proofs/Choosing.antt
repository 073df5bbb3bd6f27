-- The component that is chosen for an undecided location may be decided.
use Rattle.std.proofs.Common.{◌≡◌, ℕ, zero, suc, ◌<◌, Bool, true, false, List, length, refl, ap, ◌∙◌, sym, Option, Some, None, arith}
use Rattle.std.specs.Prelude.{not, ◌||◌, slice_get, slice_index_or, option_and_then}
use Rattle.control_states.specs.declared.alternative.Alternative.{Alternative}
use Rattle.control_states.specs.declared.alternative.Alternative.TheVariants.{Inside}
use Rattle.control_states.specs.Control.{ControlFacts, component_at}
use Rattle.control_states.specs.Place.{is_inside, elsewhere, cut_by, cut_off, place_by, place_in, place}
use Rattle.farkas_check.specs.Problem.{is_within, known_active}
use Rattle.search_laws.specs.Moves.{or_else, if_undecided, outermost, component_for}
use Rattle.search_laws.specs.Forms.{IsInOrder}
use Rattle.search_laws.proofs.Standing.{AreKnown, within-is}

-- a component that may be decided
pub record MayDecide (k : ControlFacts) (cases : List (Option Alternative)) (c : ℕ) : Type 0 where
  pub there : c < length k.components
  pub undecided : slice_index_or cases c None ≡ None
  pub active : known_active cases (component_at k.components c).around ≡ true

-- round a decided component all are decided
decided-none : (k : ControlFacts) (cases : List (Option Alternative)) → AreKnown k cases → (n c : ℕ) (a : Alternative) → slice_index_or cases c None ≡ Some a → outermost k.components cases n c ≡ None
decided-none k cases g zero c a h = refl
decided-none k cases g (suc n) c a h =
    ap (or_else (option_and_then (λ w. outermost k.components cases n w.0) (component_at k.components c).around)) (ap (if_undecided c) h)
    ∙ by_way (λ d b e. decided-none k cases g n d b e) (component_at k.components c).around (g c a h).active
  where
    by_way : ((d : ℕ) (b : Alternative) → slice_index_or cases d None ≡ Some b → outermost k.components cases n d ≡ None) → (w : Option (ℕ × ℕ)) → known_active cases w ≡ true → or_else (option_and_then (λ w. outermost k.components cases n w.0) w) None ≡ None
    by_way r None t = refl
    by_way r (Some w) t = ap (λ (o : Option ℕ). or_else o None) (r w.0 (Inside w.1) (within-is w.1 (slice_index_or cases w.0 None) t))

or_falses : (a b : Bool) → (a || b) ≡ false → (a ≡ false) × (b ≡ false)
or_falses true b h = absurd (cc)
or_falses false b h = (refl, h)

turned : (b : Bool) → not b ≡ false → b ≡ true
turned true h = refl
turned false h = absurd (cc)

outermost-may : (k : ControlFacts) (cases : List (Option Alternative)) → IsInOrder k → AreKnown k cases → (n c : ℕ) → c < n → c < length k.components → slice_index_or cases c None ≡ None → cut_off k.components cases n c ≡ false
    → (d : ℕ) × (outermost k.components cases n c ≡ Some d) × MayDecide k cases d
outermost-may k cases o g zero c l lt h t = absurd (omega (arith, l))
outermost-may k cases o g (suc n) c l lt h t = by_way (λ d m x u e. outermost-may k cases o g n d m x u e) (component_at k.components c).around refl t
  where
    here : option_and_then (λ w. outermost k.components cases n w.0) (component_at k.components c).around ≡ None → known_active cases (component_at k.components c).around ≡ true
        → (d : ℕ) × (outermost k.components cases (suc n) c ≡ Some d) × MayDecide k cases d
    here e a = (
      c,
      ap (λ (o : Option ℕ). or_else o (if_undecided c (slice_index_or cases c None))) e ∙ ap (if_undecided c) h,
      record { there = lt; undecided = h; active = a },
    )

    by_entry : ((d : ℕ) → d < n → d < length k.components → slice_index_or cases d None ≡ None → cut_off k.components cases n d ≡ false → (e : ℕ) × (outermost k.components cases n d ≡ Some e) × MayDecide k cases e)
        → (w : ℕ × ℕ) → (component_at k.components c).around ≡ Some w → (x : Option Alternative) → slice_index_or cases w.0 None ≡ x → elsewhere w.1 x ≡ false → cut_off k.components cases n w.0 ≡ false
        → (d : ℕ) × (outermost k.components cases (suc n) c ≡ Some d) × MayDecide k cases d
    by_entry r w e None x f t =
        let less = o.around c w lt e in
        let q = r w.0 (omega (arith, less, l)) (omega (arith, less, lt)) x t in
        let found : option_and_then (λ w. outermost k.components cases n w.0) (component_at k.components c).around ≡ Some q.0 = ap (option_and_then (λ w. outermost k.components cases n w.0)) e ∙ q.1 in
        (q.0, ap (λ (o : Option ℕ). or_else o (if_undecided c (slice_index_or cases c None))) found, q.2)
    by_entry r w e (Some a) x f t =
        let inside : is_within w.1 (slice_index_or cases w.0 None) ≡ true = ap (is_within w.1) x ∙ turned (is_inside w.1 a) f in
        here (ap (option_and_then (λ w. outermost k.components cases n w.0)) e ∙ decided-none k cases g n w.0 a x) (ap (known_active cases) e ∙ inside)

    by_way : ((d : ℕ) → d < n → d < length k.components → slice_index_or cases d None ≡ None → cut_off k.components cases n d ≡ false → (e : ℕ) × (outermost k.components cases n d ≡ Some e) × MayDecide k cases e)
        → (w : Option (ℕ × ℕ)) → (component_at k.components c).around ≡ w → cut_by cases (cut_off k.components cases n) (component_at k.components c).around ≡ false
        → (d : ℕ) × (outermost k.components cases (suc n) c ≡ Some d) × MayDecide k cases d
    by_way r None e t = here (ap (option_and_then (λ w. outermost k.components cases n w.0)) e) (ap (known_active cases) e)
    by_way r (Some w) e t =
        let p = or_falses (elsewhere w.1 (slice_index_or cases w.0 None)) (cut_off k.components cases n w.0) (sym (ap (cut_by cases (cut_off k.components cases n)) e) ∙ t) in
        by_entry r w e (slice_index_or cases w.0 None) refl p.0 p.1

free-place : (l : ℕ) (cut : Bool) (x : Option Alternative) → place_by l cut x ≡ None → (x ≡ None) × (cut ≡ false)
free-place l true None h = absurd (cc)
free-place l false None h = (refl, refl)
free-place l cut (Some a) h = absurd (cc)

-- a component is chosen for each undecided location
pub chosen : (k : ControlFacts) (cases : List (Option Alternative)) → IsInOrder k → AreKnown k cases → (l c : ℕ) → slice_get k.owners l ≡ Some c → c < length k.components → place k cases l ≡ None
    → (d : ℕ) × (component_for k cases l ≡ Some d) × MayDecide k cases d
chosen k cases o g l c own lt free =
    let q = free-place l (cut_off k.components cases (length k.components) c) (slice_index_or cases c None) (sym (ap (option_and_then (place_in k.components cases l)) own) ∙ free) in
    let r = outermost-may k cases o g (length k.components) c lt lt q.0 q.1 in
    (r.0, ap (option_and_then (outermost k.components cases (length k.components))) own ∙ r.1, r.2)
