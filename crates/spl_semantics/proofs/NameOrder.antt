-- No name stands twice in the list of a program's names.
use Rattle.std.proofs.Common.{◌≡◌, ◌≢◌, ℕ, zero, suc, ◌+◌, ◌≤◌, Bool, true, false, List, [], ◌∷◌, ◌++◌, Some, refl, sym, ap, ◌∙◌, arith}
use Rattle.std.specs.Prelude.{◌&&◌, ◌==◌, slice_get, flat_map, if◌then◌else◌}
use Rattle.std.proofs.lemmas.Bool.Decides.{nat_tests}
use Rattle.st_form.specs.declared.conditions.Part.{Part}
use Rattle.st_form.specs.declared.conditions.Part.TheVariants.{Whole, Entry, Exit}
use Rattle.st_form.specs.declared.conditions.TransName.{TransName}
use Rattle.st_form.specs.declared.conditions.TransName.TheVariants.{Idle, Step}
use Rattle.observations.specs.declared.Fairness.{Fairness}
use Rattle.observations.specs.declared.Fairness.TheVariants.{Unfair, Just, Compassionate}
use Rattle.st_program.specs.Tree.{Action, skip, noncritical, request, block, select, cooperate, Processes, occurrence, action}
use Rattle.st_program.specs.Member.{Member, here, there}
use Rattle.st_program.specs.Spots.{Spot, all_spots, IsNumbered}
use Rattle.spl_semantics.specs.Names.{own_names, all_names, same_part, same_name}
use Rattle.spl_semantics.specs.Runs.{place_in, place_of}
use Rattle.spl_semantics.proofs.Members.{member_none, member_cases}
use Rattle.basic_laws.proofs.Types.{either}
use Rattle.basic_laws.proofs.Truths.{both_true}

abbrev pub Named : Type 0
Named = TransName × Fairness

pub same_part_is : (q r : Part) → same_part q r ≡ true → q ≡ r
same_part_is Whole Whole e = refl
same_part_is Entry Entry e = refl
same_part_is Exit Exit e = refl
same_part_is Whole Entry e = cc
same_part_is Whole Exit e = cc
same_part_is Entry Whole e = cc
same_part_is Entry Exit e = cc
same_part_is Exit Whole e = cc
same_part_is Exit Entry e = cc

part_same : (q : Part) → same_part q q ≡ true
part_same Whole = refl
part_same Entry = refl
part_same Exit = refl

pub same_name_is : (m n : TransName) → same_name m n ≡ true → m ≡ n
same_name_is Idle Idle e = refl
same_name_is Idle (Step n r) e = cc
same_name_is (Step o q) Idle e = cc
same_name_is (Step o q) (Step n r) e =
    let parts = both_true (o == n) (same_part q r) e in
    let numbers : o ≡ n = let f = parts.0 in grind (arith, nat_tests) in
    ap (λ z. Step z q) numbers ∙ ap (λ z. Step n z) (same_part_is q r parts.1)

pub name_same : (m : TransName) → same_name m m ≡ true
name_same Idle = refl
name_same (Step o q) = let e : (o == o) ≡ true = grind (arith, nat_tests) in ap (λ b. b && same_part q q) e ∙ part_same q

-- no name is that of a later place
abbrev pub NotTwice : List Named → Type 0
NotTwice [] = Unit {0}
NotTwice (x ∷ xs) = ((y : Named) → Member y xs → x.0 ≢ y.0) × NotTwice xs

not_twice_append : (xs ys : List Named) → NotTwice xs → NotTwice ys → ((x y : Named) → Member x xs → Member y ys → x.0 ≢ y.0) → NotTwice (xs ++ ys)
not_twice_append [] ys a b d = b
not_twice_append (x ∷ xs) ys a b d =
    (λ y m. either (member_cases xs m) (a.0 y) (d x y (here refl)), not_twice_append xs ys a.1 b (λ z y m n. d z y (there m) n))

-- the names of a statement have its occurrence
abbrev IsStepOf : ℕ → TransName → Type 0
IsStepOf o name = (part : Part) × (name ≡ Step o part)

one_step : (o : ℕ) (n y : Named) (part : Part) → n.0 ≡ Step o part → Member y (n ∷ []) → IsStepOf o y.0
one_step o n y part e (here q) = (part, ap (λ z. z.0) q ∙ e)
one_step o n y part e (there m) = member_none m

own_step : (a : Action) (o : ℕ) (y : Named) → Member y (own_names a o) → IsStepOf o y.0
own_step noncritical o y m = one_step o _ y Whole refl m
own_step (request v) o y m = one_step o _ y Whole refl m
own_step (block ss) o y m = member_none m
own_step (select ss) o y m = member_none m
own_step (cooperate ps) o y (here q) = (Entry, ap (λ z. z.0) q)
own_step (cooperate ps) o y (there m) = one_step o _ y Exit refl m
own_step skip o y m = one_step o _ y Whole refl m
own_step _ o y m = one_step o _ y Whole refl m

nothing_twice : (n : Named) → NotTwice (n ∷ [])
nothing_twice n = (λ y m. member_none m, tt)

own_once : (a : Action) (o : ℕ) → NotTwice (own_names a o)
own_once noncritical o = nothing_twice (Step o Whole, Unfair)
own_once (request v) o = nothing_twice (Step o Whole, Compassionate)
own_once (block ss) o = tt
own_once (select ss) o = tt
own_once (cooperate ps) o = (λ y m e. not_entry y m (sym e), nothing_twice (Step o Exit, Just))
  where
    not_entry : (y : Named) → Member y ((Step o Exit, Just) ∷ []) → y.0 ≡ Step o Entry → ⊥
    not_entry y (here q) e = let f : Step o Exit ≡ Step o Entry = sym (ap (λ z. z.0) q) ∙ e in cc
    not_entry y (there m) e = member_none m
own_once skip o = nothing_twice (Step o Whole, Just)
own_once _ o = nothing_twice (Step o Whole, Just)

abbrev names_of : List Spot → List Named
names_of xs = flat_map (λ x. own_names (action x.stmt) (occurrence x.stmt)) xs

-- spots have their numbers from one on
abbrev NumberedFrom : ℕ → List Spot → Type 0
NumberedFrom n [] = Unit {0}
NumberedFrom n (x ∷ xs) = (occurrence x.stmt ≡ n) × NumberedFrom (suc n) xs

numbered_from : (n : ℕ) (xs : List Spot) → ((k : ℕ) (x : Spot) → slice_get xs k ≡ Some x → occurrence x.stmt ≡ n + k) → NumberedFrom n xs
numbered_from n [] h = tt
numbered_from n (x ∷ xs) h = ((let e = h 0 x refl in omega arith), numbered_from (suc n) xs (λ k y q. let e = h (suc k) y q in omega arith))

-- their names have no lower number
names_from : (n : ℕ) (xs : List Spot) → NumberedFrom n xs → (y : Named) → Member y (names_of xs) → (o : ℕ) × (n ≤ o) × IsStepOf o y.0
names_from n [] h y m = member_none m
names_from n (x ∷ xs) h y m =
    either (member_cases (own_names (action x.stmt) (occurrence x.stmt)) m)
    (λ m. (occurrence x.stmt, (let e : occurrence x.stmt ≡ n = h.0 in omega arith), own_step (action x.stmt) (occurrence x.stmt) y m))
    (λ m. let r = names_from (suc n) xs h.1 y m in (r.0, (let le = r.1 in omega arith), r.2))

same_number : (o n : ℕ) (q r : Part) → Step o q ≡ Step n r → o ≡ n
same_number o n q r e = cc

names_once : (n : ℕ) (xs : List Spot) → NumberedFrom n xs → NotTwice (names_of xs)
names_once n [] h = tt
names_once n (x ∷ xs) h =
    not_twice_append (own_names (action x.stmt) (occurrence x.stmt)) (names_of xs) (own_once (action x.stmt) (occurrence x.stmt)) (names_once (suc n) xs h.1)
    (λ y z m i e.
    let a = own_step (action x.stmt) (occurrence x.stmt) y m in
    let b = names_from (suc n) xs h.1 z i in
    let same : occurrence x.stmt ≡ b.0 = same_number (occurrence x.stmt) b.0 a.0 b.2.0 (sym a.1 ∙ e ∙ b.2.1) in
    let own : occurrence x.stmt ≡ n = h.0 in
    let above : suc n ≤ b.0 = b.1 in
    absurd (omega arith))

pub all_once : (p : Processes) → IsNumbered p → NotTwice (all_names p)
all_once p numbered =
    let from = numbered_from 0 (all_spots p) (λ k x q. let e = numbered k x q in omega arith) in
    (λ y m e. (let r = names_from 0 (all_spots p) from y m in let f : Idle ≡ Step r.0 r.2.0 = e ∙ r.2.1 in cc), names_once 0 (all_spots p) from)

at_member : (n : Named) (xs : List Named) (k : ℕ) → slice_get xs k ≡ Some n → Member n xs
at_member n [] k q = cc
at_member n (y ∷ ys) zero q = here cc
at_member n (y ∷ ys) (suc k) q = there (at_member n ys k q)

-- the place of the name at a place is that place
at_place : (xs : List Named) (k : ℕ) (n : Named) → NotTwice xs → slice_get xs k ≡ Some n → place_in xs n.0 ≡ k
at_place [] k n d q = cc
at_place (x ∷ xs) zero n d q =
    let same : x ≡ n = cc in
    let e : same_name n.0 x.0 ≡ true = ap (λ z. same_name n.0 z.0) same ∙ name_same n.0 in
    rw e refl
at_place (x ∷ xs) (suc k) n d q = at_test (same_name n.0 x.0) refl (at_place xs k n d.1 q)
  where
    at_test : (b : Bool) → same_name n.0 x.0 ≡ b → place_in xs n.0 ≡ k → (if b then 0 else suc (place_in xs n.0)) ≡ suc k
    at_test true e i = absurd (d.0 n (at_member n xs k q) (sym (same_name_is n.0 x.0 e)))
    at_test false e i = ap suc i

pub place_at : (p : Processes) → IsNumbered p → (k : ℕ) (n : Named) → slice_get (all_names p) k ≡ Some n → place_of p n.0 ≡ k
place_at p numbered k n q = at_place (all_names p) k n (all_once p numbered) q

-- a name of the list stands at its place
pub at_its_place : (xs : List Named) (n : Named) → Member n xs → (x : Named) × (slice_get xs (place_in xs n.0) ≡ Some x) × (x.0 ≡ n.0)
at_its_place [] n m = member_none m
at_its_place (x ∷ xs) n (here q) =
    let e : same_name n.0 x.0 ≡ true = ap (λ z. same_name z.0 x.0) q ∙ name_same x.0 in
    (x, ap (λ b. slice_get (x ∷ xs) (if b then 0 else suc (place_in xs n.0))) e, ap (λ z. z.0) (sym q))
at_its_place (x ∷ xs) n (there m) = at_test (same_name n.0 x.0) refl (at_its_place xs n m)
  where
    at_test : (b : Bool) → same_name n.0 x.0 ≡ b → (y : Named) × (slice_get xs (place_in xs n.0) ≡ Some y) × (y.0 ≡ n.0)
        → (y : Named) × (slice_get (x ∷ xs) (if b then 0 else suc (place_in xs n.0)) ≡ Some y) × (y.0 ≡ n.0)
    at_test true e i = (x, refl, sym (same_name_is n.0 x.0 e))
    at_test false e i = i
