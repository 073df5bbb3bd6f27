-- A stable sort by the place of names.
use Rattle.std.proofs.Common.{◌≡◌, ℕ, zero, suc, ◌+◌, ◌*◌, ◌<◌, Bool, true, false, List, [], ◌∷◌, map, refl, ap, ◌∙◌, sym, subst, arith, ◌⊎◌, inl, inr}
use Rattle.std.specs.Prelude.{◌==◌, ◌&&◌, not, cond}
use Rattle.std.specs.List.{All, filter}
use Rattle.std.specs.List.Sorted.{IsPermutation, IsNonDecreasingBy, IsStableByKey, ties}
use Rattle.std.specs.Ordering.{is_lt, nat_cmp}
use Rattle.std.proofs.lemmas.Bool.Decides.{nat_tests, eqb_tells}
use Rattle.std.proofs.lemmas.List.Elements.{filter_agree}
use Rattle.std.proofs.lemmas.List.Sorted.{All-permutation, IsPermutation-map}
use Rattle.st_form.specs.declared.conditions.Part.{Part}
use Rattle.st_form.specs.declared.conditions.Part.TheVariants.{Whole, Entry, Exit}
use Rattle.st_form.specs.declared.conditions.TransName.{TransName}
use Rattle.st_form.specs.declared.conditions.TransName.TheVariants.{Idle, Step}
use Rattle.st_program.specs.Residuals.{Rests}
use Rattle.st_form.specs.declared.variables.Variable.{Variable}
use Rattle.spl_semantics.specs.declared.acts.Move.{Move}
use Rattle.spl_semantics.specs.Data.{StoreFits}
use Rattle.spl_semantics.specs.InOrder.{InOrder, name_place, part_place}
use Rattle.spl_semantics.specs.Names.{same_part, same_name}
use Rattle.spl_semantics.specs.Plain.{plain_move, plain_moves, move_stores, AllOfTypes}
use Rattle.spl_semantics.specs.Going.{Act}

-- places tell names apart
differ : (a b : ℕ) → (a ≡ b → ⊥) → (a == b) ≡ false
differ a b h = elim (eqb_tells a b) [ inl q ↦ absurd (h q.1) | inr q ↦ q.0 ]

equal_tests : (a b c d : ℕ) → (a ≡ b → c ≡ d) → (c ≡ d → a ≡ b) → (a == b) ≡ (c == d)
equal_tests a b c d f g = elim (eqb_tells a b) [
  | inl q ↦ q.0 ∙ sym (elim (eqb_tells c d) [ inl r ↦ r.0 | inr r ↦ absurd (r.1 (f q.1)) ])
  | inr q ↦ q.0 ∙ sym (differ c d (λ e. q.1 (g e)))
]

and_false : (b : Bool) → false ≡ (b && false)
and_false true = refl
and_false false = refl

and_true : (b : Bool) → b ≡ (b && true)
and_true true = refl
and_true false = refl

like : (o n k : ℕ) → (o * 4 + k == n * 4 + k) ≡ ((o == n) && true)
like o n k = equal_tests (o * 4 + k) (n * 4 + k) o n (λ e. omega (arith, e)) (λ e. omega (arith, e)) ∙ and_true (o == n)

unlike : (o n k j : ℕ) → k < 4 → j < 4 → (k ≡ j → ⊥) → (o * 4 + k == n * 4 + j) ≡ ((o == n) && false)
unlike o n k j a b h = differ (o * 4 + k) (n * 4 + j) (λ e. h (omega (arith, a, b, e))) ∙ and_false (o == n)

by_parts : (o n : ℕ) (q r : Part) → (o * 4 + part_place q == n * 4 + part_place r) ≡ ((o == n) && same_part q r)
by_parts o n Whole Whole = like o n 1
by_parts o n Whole Entry = unlike o n 1 2 (omega arith) (omega arith) (λ e. omega (arith, e))
by_parts o n Whole Exit = unlike o n 1 3 (omega arith) (omega arith) (λ e. omega (arith, e))
by_parts o n Entry Whole = unlike o n 2 1 (omega arith) (omega arith) (λ e. omega (arith, e))
by_parts o n Entry Entry = like o n 2
by_parts o n Entry Exit = unlike o n 2 3 (omega arith) (omega arith) (λ e. omega (arith, e))
by_parts o n Exit Whole = unlike o n 3 1 (omega arith) (omega arith) (λ e. omega (arith, e))
by_parts o n Exit Entry = unlike o n 3 2 (omega arith) (omega arith) (λ e. omega (arith, e))
by_parts o n Exit Exit = like o n 3

some_place : (r : Part) → 0 < part_place r
some_place Whole = omega arith
some_place Entry = omega arith
some_place Exit = omega arith

same-place : (n m : TransName) → (name_place n == name_place m) ≡ same_name n m
same-place Idle Idle = refl
same-place Idle (Step o q) = differ 0 (o * 4 + part_place q) (λ e. omega (arith, e, some_place q))
same-place (Step o q) Idle = differ (o * 4 + part_place q) 0 (λ e. omega (arith, e, some_place q))
same-place (Step o q) (Step n r) = by_parts o n q r

-- two that tie have one place
ties-equal : (a b : ℕ) → (not (is_lt (nat_cmp a b)) && not (is_lt (nat_cmp b a))) ≡ (b == a)
ties-equal a b = grind (arith, nat_tests)

abbrev is_name : TransName → Move → Bool
is_name name m = same_name m.name name

more-false : (f : Move → Bool) (x : Move) (xs : List Move) → f x ≡ false → All (λ m. f m ≡ false) xs → All (λ m. f m ≡ false) (x ∷ xs)
more-false f x xs e r zero d h = e
more-false f x xs e r (suc k) d h = r k d (omega (arith, h))

-- a move of the name, or there is none
find : (name : TransName) (xs : List Move) → ((x : Move) × ((y : Move) → is_name name y ≡ same_name y.name x.name)) ⊎ All (λ m. is_name name m ≡ false) xs
find name [] = inr (λ k d h. absurd (omega (arith, h)))
find name (x ∷ xs) = by (is_name name x) refl (find name xs)
  where
    by : (b : Bool) → is_name name x ≡ b → ((x : Move) × ((y : Move) → is_name name y ≡ same_name y.name x.name)) ⊎ All (λ m. is_name name m ≡ false) xs
        → ((x : Move) × ((y : Move) → is_name name y ≡ same_name y.name x.name)) ⊎ All (λ m. is_name name m ≡ false) (x ∷ xs)
    by true e rest =
        let p : name_place x.name ≡ name_place name = grind (arith, nat_tests, same-place x.name name, e) in
        inl (x, λ y. sym (same-place y.name name) ∙ ap (λ k. name_place y.name == k) (sym p) ∙ same-place y.name x.name)
    by false e (inl r) = inl r
    by false e (inr r) = inr (more-false (is_name name) x xs e r)

none-left : (f : Move → Bool) (xs : List Move) → All (λ m. f m ≡ false) xs → filter f xs ≡ []
none-left f [] h = refl
none-left f (x ∷ xs) h =
    let first : f x ≡ false = h 0 x (omega arith) in
    ap (λ b. cond b (x ∷ filter f xs) (filter f xs)) first ∙ none-left f xs (λ k d le. h (suc k) d (omega (arith, le)))

filter-plain : (name : TransName) (xs : List Move) → filter (λ a. same_name a.name name) (plain_moves xs) ≡ plain_moves (filter (is_name name) xs)
filter-plain name [] = refl
filter-plain name (x ∷ xs) = by (is_name name x) (filter-plain name xs)
  where
    by : (b : Bool) → filter (λ a. same_name a.name name) (plain_moves xs) ≡ plain_moves (filter (is_name name) xs)
        → cond b (plain_move x ∷ filter (λ a. same_name a.name name) (plain_moves xs)) (filter (λ a. same_name a.name name) (plain_moves xs)) ≡ plain_moves (cond b (x ∷ filter (is_name name) xs) (filter (is_name name) xs))
    by true e = ap (λ l. plain_move x ∷ l) e
    by false e = e

kept-moves : (xs ys : List Move) → IsPermutation xs ys → IsStableByKey (λ m. name_place m.name) nat_cmp xs ys → (name : TransName) → filter (is_name name) ys ≡ filter (is_name name) xs
kept-moves xs ys perm stable name = elim (find name xs) [
  | inl r ↦
      let agree : (y : Move) → is_name name y ≡ ties (λ a b. is_lt (nat_cmp (name_place a.name) (name_place b.name))) r.0 y =
      λ y. r.1 y ∙ sym (same-place y.name r.0.name) ∙ sym (ties-equal (name_place r.0.name) (name_place y.name)) in
      filter_agree (is_name name) _ agree ys ∙ stable r.0 ∙ sym (filter_agree (is_name name) _ agree xs)
  | inr none ↦ none-left (is_name name) ys (All-permutation (λ m. is_name name m ≡ false) xs ys perm none) ∙ sym (none-left (is_name name) xs none)
]

pub sorted-moves : (steps : List (Act Rests)) (xs ys : List Move) → plain_moves xs ≡ steps → IsPermutation xs ys → IsNonDecreasingBy (λ m. name_place m.name) ys
    → IsStableByKey (λ m. name_place m.name) nat_cmp xs ys → InOrder steps ys
sorted-moves steps xs ys e perm rising stable = record {
  all = subst (λ l. IsPermutation l (plain_moves ys)) e (IsPermutation-map plain_move xs ys perm);
  rising = rising;
  kept = λ name. filter-plain name ys ∙ ap plain_moves (kept-moves xs ys perm stable name) ∙ sym (filter-plain name xs) ∙ ap (filter (λ a. same_name a.name name)) e;
}

-- each store has a datum of its type for each variable
all-fit : (vs : List Variable) (ts : List Bool) (xs : List Move) → ts ≡ map (λ v. v.truth) vs → AllOfTypes ts (move_stores xs) → All (λ m. StoreFits vs m.state.store.items) xs
all-fit vs ts [] t h k d le = absurd (omega (arith, le))
all-fit vs ts (x ∷ xs) t h zero d le = h.0 ∙ t
all-fit vs ts (x ∷ xs) t h (suc k) d le = all-fit vs ts xs t h.1 k d (omega (arith, le))

pub sorted-fit : (vs : List Variable) (ts : List Bool) (xs ys : List Move) → ts ≡ map (λ v. v.truth) vs → IsPermutation xs ys → AllOfTypes ts (move_stores xs) → All (λ m. StoreFits vs m.state.store.items) ys
sorted-fit vs ts xs ys t perm h = All-permutation (λ m. StoreFits vs m.state.store.items) xs ys perm (all-fit vs ts xs t h)
