-- Where the active components stand makes a control state, which has all decisions.
use Rattle.std.proofs.Common.{◌≡◌, ℕ, zero, suc, ◌+◌, ◌<◌, Bool, true, false, List, [], ◌∷◌, ◌++◌, length, refl, ap, ◌∙◌, sym, subst, Option, Some, None, inl, inr, arith, length-append}
use Rattle.std.specs.Prelude.{◌==◌, if◌then◌else◌, slice_get, slice_index_or, option_and_then, unwrap_or, ◌↔◌}
use Rattle.std.proofs.Math.ListN.{get_or-eq_default}
use Rattle.std.proofs.lemmas.Bool.{cases_lt}
use Rattle.std.proofs.lemmas.Bool.Decides.{nat_tests}
use Rattle.control_states.specs.declared.alternative.Alternative.{Alternative}
use Rattle.control_states.specs.declared.alternative.Alternative.TheVariants.{Location, Inside}
use Rattle.control_states.specs.Control.{ComponentFacts, ControlFacts, component_at, Active, process, child, IsOneOf, IsControlState, IsAt, InControl}
use Rattle.control_states.specs.Place.{is_location, Follows}
use Rattle.farkas_check.specs.Problem.{is_within, known_active}
use Rattle.search_laws.specs.States.{taken, next_standing, standing_from, standing, listed, stands_at, is_located}
use Rattle.search_laws.specs.Forms.{IsInOrder}
use Rattle.search_laws.specs.Laws.{IsListed}
use Rattle.basic_laws.proofs.Numbers.{same_test, test_same}
use Rattle.basic_laws.proofs.Types.{some_same}

abbrev Table : Type 0
Table = List (Option Alternative)

abbrev pub entry : Table → ℕ → Option Alternative
entry xs c = slice_index_or xs c None

-- ---- tables that grow
at-end : (xs : Table) (x : Option Alternative) (i : ℕ) → i ≡ length xs → entry (xs ++ x ∷ []) i ≡ x
at-end [] x zero h = refl
at-end [] x (suc i) h = absurd (omega (arith, h))
at-end (y ∷ ys) x zero h = absurd (omega (arith, h))
at-end (y ∷ ys) x (suc i) h = at-end ys x i (omega (arith, h))

before-end : (xs ys : Table) (i : ℕ) → i < length xs → entry (xs ++ ys) i ≡ entry xs i
before-end [] ys i h = absurd (omega (arith, h))
before-end (x ∷ xs) ys zero h = refl
before-end (x ∷ xs) ys (suc i) h = before-end xs ys i (omega (arith, h))

stands-before : (cases before : Table) (xs : List ComponentFacts) (i : ℕ) → i < length before → entry (standing_from cases before xs) i ≡ entry before i
stands-before cases before [] i h = refl
stands-before cases before (x ∷ xs) i h =
    let n : Option Alternative = next_standing cases before x in
    stands-before cases (before ++ n ∷ []) xs i (omega (arith, h, length-append before (n ∷ []))) ∙ before-end before (n ∷ []) i h

stands-length : (cases before : Table) (xs : List ComponentFacts) → length (standing_from cases before xs) ≡ length before + length xs
stands-length cases before [] = omega arith
stands-length cases before (x ∷ xs) =
    let n : Option Alternative = next_standing cases before x in
    omega (arith, stands-length cases (before ++ n ∷ []) xs, length-append before (n ∷ []))

-- the test of activity looks at an earlier entry alone
known-same : (xs ys : Table) (w : Option (ℕ × ℕ)) → ((v : ℕ × ℕ) → w ≡ Some v → entry xs v.0 ≡ entry ys v.0) → known_active xs w ≡ known_active ys w
known-same xs ys None h = refl
known-same xs ys (Some v) h = ap (is_within v.1) (h v refl)

stands-at : (cases before : Table) (xs : List ComponentFacts) (i c : ℕ) → i < length xs → c ≡ length before + i
    → ((w : ℕ × ℕ) → (component_at xs i).around ≡ Some w → w.0 < c)
    → entry (standing_from cases before xs) c ≡ (if known_active (standing_from cases before xs) (component_at xs i).around then taken (entry cases c) (component_at xs i).alternatives else None)
stands-at cases before [] i c h e g = absurd (omega (arith, h))
stands-at cases before (x ∷ xs) zero c h e g =
    let n : Option Alternative = next_standing cases before x in
    let same : c ≡ length before = omega (arith, e) in
    let here : entry (standing_from cases before (x ∷ xs)) c ≡ n = stands-before cases (before ++ n ∷ []) xs c (omega (arith, e, length-append before (n ∷ []))) ∙ at-end before n c same in
    let known : known_active before x.around ≡ known_active (standing_from cases before (x ∷ xs)) x.around = known-same before (standing_from cases before (x ∷ xs)) x.around (λ w k. let l = g w k in sym (stands-before cases before (x ∷ xs) w.0 (omega (arith, l, same)))) in
    here ∙ ap (λ (b : Bool). if b then taken (entry cases (length before)) x.alternatives else None) known
    ∙ ap (λ (j : ℕ). if known_active (standing_from cases before (x ∷ xs)) x.around then taken (entry cases j) x.alternatives else None) (sym same)
stands-at cases before (x ∷ xs) (suc i) c h e g =
    let n : Option Alternative = next_standing cases before x in
    stands-at cases (before ++ n ∷ []) xs i c (omega (arith, h)) (omega (arith, e, length-append before (n ∷ []))) g

pub within-is : (o : ℕ) (d : Option Alternative) → is_within o d ≡ true → d ≡ Some (Inside o)
within-is o None h = absurd (cc)
within-is o (Some (Location l)) h = absurd (cc)
within-is o (Some (Inside p)) h = ap (λ n. Some (Inside n)) (test_same p o h)

is-within : (o : ℕ) (d : Option Alternative) → d ≡ Some (Inside o) → is_within o d ≡ true
is-within o d h = ap (is_within o) h ∙ same_test o

location-is : (l : ℕ) (a : Alternative) → is_location l a ≡ true → a ≡ Location l
location-is l (Location m) h = ap Location (test_same m l h)
location-is l (Inside p) h = absurd (cc)

-- where the components stand, at one that isn't active its first location
abbrev pub stand : ControlFacts → Table → ℕ → Alternative
stand k cases c = unwrap_or (entry (standing k cases) c) (Location 0)

-- the decisions are such as the search makes
pub record IsKnown (k : ControlFacts) (cases : Table) (c : ℕ) (a : Alternative) : Type 0 where
  pub there : c < length k.components
  pub active : known_active cases (component_at k.components c).around ≡ true
  pub choice : IsOneOf a (component_at k.components c).alternatives

abbrev pub AreKnown : ControlFacts → Table → Type 0
AreKnown k cases = (c : ℕ) (a : Alternative) → entry cases c ≡ Some a → IsKnown k cases c a

fixed : (k : ControlFacts) (cases : Table) → IsInOrder k → (c : ℕ) → c < length k.components → entry (standing k cases) c ≡ (if known_active (standing k cases) (component_at k.components c).around then taken (entry cases c) (component_at k.components c).alternatives else None)
fixed k cases o c h = stands-at cases [] k.components c c h (omega arith) (λ w e. o.around c w h e)

-- an active component stands at what is decided, or at its first alternative
active-entry : (k : ControlFacts) (cases : Table) → IsInOrder k → (c : ℕ) → c < length k.components → known_active (standing k cases) (component_at k.components c).around ≡ true → entry (standing k cases) c ≡ taken (entry cases c) (component_at k.components c).alternatives
active-entry k cases o c h a = fixed k cases o c h ∙ ap (λ (b : Bool). if b then taken (entry cases c) (component_at k.components c).alternatives else None) a

taken-some : (d : Option Alternative) (choices : List Alternative) → 0 < length choices → (a : Alternative) × (taken d choices ≡ Some a)
taken-some (Some a) choices h = (a, refl)
taken-some None [] h = absurd (omega (arith, h))
taken-some None (a ∷ rest) h = (a, refl)

stand-is : (k : ControlFacts) (cases : Table) (c : ℕ) (a : Alternative) → entry (standing k cases) c ≡ Some a → stand k cases c ≡ a
stand-is k cases c a h = ap (λ (d : Option Alternative). unwrap_or d (Location 0)) h

-- an active component has an entry
active-some : (k : ControlFacts) (cases : Table) → IsInOrder k → (c : ℕ) → Active k.components (stand k cases) c → (a : Alternative) × (entry (standing k cases) c ≡ Some a)
active-some k cases o c (process _ lt none) =
    let t = taken-some (entry cases c) (component_at k.components c).alternatives (o.choice c lt) in
    (t.0, active-entry k cases o c lt (ap (known_active (standing k cases)) none) ∙ t.1)
active-some k cases o c (child _ a w lt way act is) =
    let e = active-some k cases o a act in
    let inside : e.0 ≡ Inside w = sym (stand-is k cases a e.0 e.1) ∙ is in
    let known : known_active (standing k cases) (component_at k.components c).around ≡ true = ap (known_active (standing k cases)) way ∙ is-within w (entry (standing k cases) a) (e.1 ∙ ap Some inside) in
    let t = taken-some (entry cases c) (component_at k.components c).alternatives (o.choice c lt) in
    (t.0, active-entry k cases o c lt known ∙ t.1)

entry-there : (k : ControlFacts) (cases : Table) (c : ℕ) (a : Alternative) → entry (standing k cases) c ≡ Some a → c < length k.components
entry-there k cases c a h = elim (cases_lt c (length k.components)) [
  | inl lt ↦ lt
  | inr ge ↦ let past : entry (standing k cases) c ≡ None = get_or-eq_default (standing k cases) None (omega (arith, ge, stands-length cases [] k.components)) in absurd (let e = sym past ∙ h in cc)
]

known-entry : (k : ControlFacts) (cases : Table) → IsInOrder k → (c : ℕ) (a : Alternative) → entry (standing k cases) c ≡ Some a → (c < length k.components) × (known_active (standing k cases) (component_at k.components c).around ≡ true)
known-entry k cases o c a h =
    let lt = entry-there k cases c a h in
    (lt, by_test (known_active (standing k cases) (component_at k.components c).around) (sym (fixed k cases o c lt) ∙ h))
  where
    by_test : (b : Bool) → (if b then taken (entry cases c) (component_at k.components c).alternatives else None) ≡ Some a → b ≡ true
    by_test true e = refl
    by_test false e = absurd (cc)

-- a component with an entry is active
some-active : (k : ControlFacts) (cases : Table) → IsInOrder k → (n c : ℕ) → c < n → (a : Alternative) → entry (standing k cases) c ≡ Some a → Active k.components (stand k cases) c
some-active k cases o zero c l a h = absurd (omega (arith, l))
some-active k cases o (suc n) c l a h =
    let q = known-entry k cases o c a h in
    by_way (λ d b m e. some-active k cases o n d m b e) (component_at k.components c).around refl q.0 q.1
  where
    by_way : ((d : ℕ) (b : Alternative) → d < n → entry (standing k cases) d ≡ Some b → Active k.components (stand k cases) d) → (w : Option (ℕ × ℕ)) → (component_at k.components c).around ≡ w → c < length k.components → known_active (standing k cases) (component_at k.components c).around ≡ true → Active k.components (stand k cases) c
    by_way r None e lt t = process c lt e
    by_way r (Some w) e lt t =
        let inside = within-is w.1 (entry (standing k cases) w.0) (sym (ap (known_active (standing k cases)) e) ∙ t) in
        let less = o.around c w lt e in
        child c w.0 w.1 lt e (r w.0 (Inside w.1) (omega (arith, less, l)) inside) (stand-is k cases w.0 (Inside w.1) inside)

pub entry-active : (k : ControlFacts) (cases : Table) → IsInOrder k → (c : ℕ) (a : Alternative) → (entry (standing k cases) c ≡ Some a) ↔ (Active k.components (stand k cases) c × (stand k cases c ≡ a))
entry-active k cases o c a = (
  λ h. (some-active k cases o (c + 1) c (omega arith) a h, stand-is k cases c a h),
  λ h. let e = active-some k cases o c h.0 in e.1 ∙ ap Some (sym (stand-is k cases c e.0 e.1) ∙ h.1),
)

-- ---- decisions
decided-entry : (k : ControlFacts) (cases : Table) → IsInOrder k → AreKnown k cases → (n c : ℕ) → c < n → (a : Alternative) → entry cases c ≡ Some a → entry (standing k cases) c ≡ Some a
decided-entry k cases o g zero c l a h = absurd (omega (arith, l))
decided-entry k cases o g (suc n) c l a h =
    let q = g c a h in
    active-entry k cases o c q.there (by_way (λ d b m e. decided-entry k cases o g n d m b e) (component_at k.components c).around refl q.there q.active)
    ∙ ap (λ (d : Option Alternative). taken d (component_at k.components c).alternatives) h
  where
    by_way : ((d : ℕ) (b : Alternative) → d < n → entry cases d ≡ Some b → entry (standing k cases) d ≡ Some b) → (w : Option (ℕ × ℕ)) → (component_at k.components c).around ≡ w → c < length k.components → known_active cases (component_at k.components c).around ≡ true → known_active (standing k cases) (component_at k.components c).around ≡ true
    by_way r None e lt t = ap (known_active (standing k cases)) e
    by_way r (Some w) e lt t =
        let inside = within-is w.1 (entry cases w.0) (sym (ap (known_active cases) e) ∙ t) in
        let less = o.around c w lt e in
        ap (known_active (standing k cases)) e ∙ is-within w.1 (entry (standing k cases) w.0) (r w.0 (Inside w.1) (omega (arith, less, l)) inside)

pub follows : (k : ControlFacts) (cases : Table) → IsInOrder k → AreKnown k cases → Follows k.components (stand k cases) cases
follows k cases o g c a h = (entry-active k cases o c a).0 (decided-entry k cases o g (c + 1) c (omega arith) a h)

first-one : (choices : List Alternative) (a : Alternative) → slice_get choices 0 ≡ Some a → IsOneOf a choices
first-one [] a h = absurd (cc)
first-one (b ∷ rest) a h = inl (let e : b ≡ a = cc in sym e)

taken-one : (k : ControlFacts) (cases : Table) → AreKnown k cases → (c : ℕ) (a : Alternative) → taken (entry cases c) (component_at k.components c).alternatives ≡ Some a → IsOneOf a (component_at k.components c).alternatives
taken-one k cases g c a h = by_entry (entry cases c) refl h
  where
    by_entry : (d : Option Alternative) → entry cases c ≡ d → taken d (component_at k.components c).alternatives ≡ Some a → IsOneOf a (component_at k.components c).alternatives
    by_entry None e t = first-one (component_at k.components c).alternatives a t
    by_entry (Some b) e t = (g c a (e ∙ t)).choice

pub control-state : (k : ControlFacts) (cases : Table) → IsInOrder k → AreKnown k cases → IsControlState k (stand k cases)
control-state k cases o g c act =
    let e = active-some k cases o c act in
    let q = known-entry k cases o c e.0 e.1 in
    let one = taken-one k cases g c e.0 (sym (active-entry k cases o c q.0 q.1) ∙ e.1) in
    subst (λ (a : Alternative). IsOneOf a (component_at k.components c).alternatives) (sym (stand-is k cases c e.0 e.1)) one

-- ---- locations
located-at : (k : ControlFacts) (cases : Table) → IsInOrder k → (l : ℕ) → is_located k (standing k cases) l ≡ true → IsAt k (stand k cases) l
located-at k cases o l h = by_owner (slice_get k.owners l) refl h
  where
    by_entry : (c : ℕ) → slice_get k.owners l ≡ Some c → (d : Option Alternative) → entry (standing k cases) c ≡ d → stands_at l d ≡ true → IsAt k (stand k cases) l
    by_entry c own None e t = absurd (cc)
    by_entry c own (Some a) e t = let q = (entry-active k cases o c a).0 e in (c, own, q.0, q.1 ∙ location-is l a t)

    by_owner : (w : Option ℕ) → slice_get k.owners l ≡ w → stands_at l (option_and_then (λ c. entry (standing k cases) c) w) ≡ true → IsAt k (stand k cases) l
    by_owner None own t = absurd (cc)
    by_owner (Some c) own t = by_entry c own (entry (standing k cases) c) refl t

at-located : (k : ControlFacts) (cases : Table) → IsInOrder k → (l : ℕ) → IsAt k (stand k cases) l → is_located k (standing k cases) l ≡ true
at-located k cases o l h =
    let e : entry (standing k cases) h.0 ≡ Some (Location l) = (entry-active k cases o h.0 (Location l)).1 (h.2, h.3) in
    ap (λ (w : Option ℕ). stands_at l (option_and_then (λ c. entry (standing k cases) c) w)) h.1 ∙ ap (stands_at l) e ∙ same_test l

-- where the components stand is a control state
pub in-control : (k : ControlFacts) (cases : Table) → IsInOrder k → AreKnown k cases → InControl k (stand k cases) (is_located k (standing k cases))
in-control k cases o g = record {
  state = control-state k cases o g;
  located = λ l. (λ h. located-at k cases o l h, λ h. at-located k cases o l h);
}

-- ---- the list of what is shown
listed-entry : (xs : Table) (b c : ℕ) (a : Alternative) → IsListed (c, a) (listed b xs) → (i : ℕ) × (c ≡ b + i) × (entry xs i ≡ Some a)
listed-entry [] b c a h = absurd h
listed-entry (None ∷ rest) b c a h = let r = listed-entry rest (b + 1) c a h in (suc r.0, omega (arith, r.1), r.2)
listed-entry (Some x ∷ rest) b c a (inl e) =
    let n : c ≡ b = ap (λ (p : ℕ × Alternative). p.0) e in
    let y : a ≡ x = ap (λ (p : ℕ × Alternative). p.1) e in
    (zero, omega (arith, n), ap Some (sym y))
listed-entry (Some x ∷ rest) b c a (inr h) = let r = listed-entry rest (b + 1) c a h in (suc r.0, omega (arith, r.1), r.2)

entry-listed : (xs : Table) (b i c : ℕ) (a : Alternative) → c ≡ b + i → entry xs i ≡ Some a → IsListed (c, a) (listed b xs)
entry-listed [] b i c a e h = absurd (cc)
entry-listed (None ∷ rest) b zero c a e h = absurd (cc)
entry-listed (None ∷ rest) b (suc i) c a e h = entry-listed rest (b + 1) i c a (omega (arith, e)) h
entry-listed (Some x ∷ rest) b zero c a e h = inl (let n : c ≡ b = omega (arith, e) in let y : a ≡ x = sym (some_same x a h) in rw (n, y) refl)
entry-listed (Some x ∷ rest) b (suc i) c a e h = inr (entry-listed rest (b + 1) i c a (omega (arith, e)) h)

pub listed-active : (k : ControlFacts) (cases : Table) → IsInOrder k → (c : ℕ) (a : Alternative) → IsListed (c, a) (listed 0 (standing k cases)) ↔ (Active k.components (stand k cases) c × (stand k cases c ≡ a))
listed-active k cases o c a = (
  λ h.
      let r = listed-entry (standing k cases) 0 c a h in
      let e : r.0 ≡ c = omega (arith, r.1) in
      (entry-active k cases o c a).0 (subst (λ (i : ℕ). entry (standing k cases) i ≡ Some a) e r.2),
  λ h. entry-listed (standing k cases) 0 c c a (omega arith) ((entry-active k cases o c a).1 h),
)
