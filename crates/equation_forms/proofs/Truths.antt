-- The formula of an equation is true exactly where the equation holds.
use Rattle.std.proofs.Common.{◌≡◌, ◌≢◌, ℕ, zero, suc, ◌+◌, ◌<◌, ◌≤◌, Bool, true, false, ◌&&◌, ◌||◌, not, List, [], ◌∷◌, ◌++◌, length, map, Some, None, refl, sym, ap, ◌∙◌, subst, arith, ℤ, pos, negsuc, ◌+ℤ◌, ◌*ℤ◌}
use Rattle.std.specs.Prelude.{filter, slice_index_or, slice_get, ◌==◌, if◌then◌else◌}
use Rattle.std.specs.List.{list_any}
use Rattle.std.specs.Ordering.{int_eq}
use Rattle.std.proofs.lemmas.Int.{ints}
use Rattle.std.proofs.lemmas.Bool.Decides.{nat_tests, Decides-int_eq}
use Rattle.st_linear.specs.Linear.{AreEntries, AllAbove, entries_value}
use Rattle.st_form.specs.Formula.{Formula, Formulas, equal, at, negation, Situation, truth, every_truth, some_truth, formulas, is_zero}
use Rattle.st_form.specs.Simple.{closed}
use Rattle.elimination_laws.proofs.Heights.{delta}
use Rattle.basic_laws.proofs.Integers.{times_one, times_zero}
use Rattle.control_states.specs.declared.alternative.Alternative.{Alternative}
use Rattle.control_states.specs.declared.alternative.Alternative.TheVariants.{Location, Inside}
use Rattle.control_states.specs.Control.{ControlFacts, InControl, IsAt}
use Rattle.equation_laws.specs.Sums.{total, presence}
use Rattle.equation_laws.specs.Equations.{PlainEquation, worth}
use Rattle.equation_laws.proofs.Totals.{total-same, total-sum, total-zero, total-one}
use Rattle.equation_forms.specs.Formulas.{Terms, terms_of, with_terms, groups, fresh, classes, whereabouts, choices, case_of, groups_of, formula_of, AreOwned}
use Rattle.equation_forms.proofs.Cases.{every-append, closed-every, closed-some, some-any, holds_by, any-class}

not_equal : (x y : ℤ) → (x ≡ y → ⊥) → int_eq x y ≡ false
not_equal x y h = by_test (int_eq x y) refl
  where
    by_test : (b : Bool) → int_eq x y ≡ b → b ≡ false
    by_test true e = absurd (h ((Decides-int_eq x y).0 e))
    by_test false e = refl

equal_is : (x : ℤ) → int_eq x x ≡ true
equal_is x = (Decides-int_eq x x).1 refl

turned : (x y : ℤ) → int_eq x y ≡ int_eq y x
turned x y = by_test (int_eq x y) refl
  where
    by_test : (b : Bool) → int_eq x y ≡ b → b ≡ int_eq y x
    by_test true e = sym ((Decides-int_eq y x).1 (sym ((Decides-int_eq x y).0 e)))
    by_test false e = sym (not_equal y x (λ q. (let f : int_eq x y ≡ true = (Decides-int_eq x y).1 (sym q) in absurd (cc))))

module _ (s : Situation) where
  abbrev here : ℕ → ℤ
  here l = presence (s.located l)

  -- control is at none of the locations
  abbrev NoneAt : Terms → Type 0
  NoneAt [] = Unit {0}
  NoneAt (t ∷ ts) = (s.located t.0 ≡ false) × NoneAt ts

  none-value : (ts : Terms) → NoneAt ts → entries_value here ts ≡ pos 0
  none-value [] h = refl
  none-value (t ∷ ts) h = omega (arith, ints, ap (λ b. t.1 *ℤ presence b) h.0, times_zero t.1, none-value ts h.1)

  none-some : (k : ℤ) (ts : Terms) → NoneAt ts → some_truth s (formulas (map (λ t. at t.0) (filter (λ t. int_eq t.1 k) ts))) ≡ false
  none-some k [] h = refl
  none-some k (t ∷ ts) h = by_test (int_eq t.1 k) (none-some k ts h.1)
    where
      by_test : (b : Bool) → some_truth s (formulas (map (λ t. at t.0) (filter (λ t. int_eq t.1 k) ts))) ≡ false → some_truth s (formulas (map (λ t. at t.0) (if b then t ∷ filter (λ t. int_eq t.1 k) ts else filter (λ t. int_eq t.1 k) ts))) ≡ false
      by_test true e = ap (λ b. b || some_truth s (formulas (map (λ t. at t.0) (filter (λ t. int_eq t.1 k) ts)))) h.0 ∙ e
      by_test false e = e

  -- where control is at one of the locations, it is at no other
  abbrev AtOne : Alternative → Terms → Type 0
  AtOne a [] = Unit {0}
  AtOne a (t ∷ ts) = (s.located t.0 ≡ true → a ≡ Location t.0) × AtOne a ts

  same_location : (l m : ℕ) → Location l ≡ Location m → l ≡ m
  same_location l m e = cc

  rest-none : (a : Alternative) (l : ℕ) (ts : Terms) → a ≡ Location l → AllAbove l ts → AtOne a ts → NoneAt ts
  rest-none a l [] e h o = tt
  rest-none a l (t ∷ ts) e h o = (by_test (s.located t.0) refl, rest-none a l ts e h.1 o.1)
    where
      by_test : (b : Bool) → s.located t.0 ≡ b → b ≡ false
      by_test true q = let same : l ≡ t.0 = same_location l t.0 (sym e ∙ o.0 q) in let less : l < t.0 = h.0 in absurd (omega arith)
      by_test false q = refl

  -- the value of a component's terms, by whether control is at the first
  value-at : (t : ℕ × ℤ) (ts : Terms) → s.located t.0 ≡ true → NoneAt ts → entries_value here (t ∷ ts) ≡ t.1
  value-at t ts e n = omega (arith, ints, ap (λ b. t.1 *ℤ presence b) e, times_one t.1, none-value ts n)

  value-off : (t : ℕ × ℤ) (ts : Terms) → s.located t.0 ≡ false → entries_value here (t ∷ ts) ≡ entries_value here ts
  value-off t ts e = omega (arith, ints, ap (λ b. t.1 *ℤ presence b) e, times_zero t.1)

  none-class : (a : Alternative) (ts : Terms) → AreEntries ts → AtOne a ts → every_truth s (formulas (map (λ t. negation (at t.0)) ts)) ≡ int_eq (pos 0) (entries_value here ts)
  none-class a [] h o = sym (equal_is (pos 0))
  none-class a (t ∷ ts) h o = by_test (s.located t.0) refl (none-class a ts h.2 o.1)
    where
      by_test : (b : Bool) → s.located t.0 ≡ b → every_truth s (formulas (map (λ t. negation (at t.0)) ts)) ≡ int_eq (pos 0) (entries_value here ts) → (not b && every_truth s (formulas (map (λ t. negation (at t.0)) ts))) ≡ int_eq (pos 0) (entries_value here (t ∷ ts))
      by_test true e i =
          let v = value-at t ts e (rest-none a t.0 ts (o.0 e) h.0 o.1) in
          sym (ap (int_eq (pos 0)) v ∙ not_equal (pos 0) t.1 (λ q. h.1 (sym q)))
      by_test false e i = i ∙ sym (ap (int_eq (pos 0)) (value-off t ts e))

  some-class : (a : Alternative) (k : ℤ) (ts : Terms) → (k ≡ pos 0 → ⊥) → AreEntries ts → AtOne a ts → some_truth s (formulas (map (λ t. at t.0) (filter (λ t. int_eq t.1 k) ts))) ≡ int_eq k (entries_value here ts)
  some-class a k [] z h o = sym (not_equal k (pos 0) z)
  some-class a k (t ∷ ts) z h o = by_test (s.located t.0) refl (some-class a k ts z h.2 o.1)
    where
      picked : Bool → Terms
      picked b = if b then t ∷ filter (λ t. int_eq t.1 k) ts else filter (λ t. int_eq t.1 k) ts

      at_first : (b : Bool) → int_eq t.1 k ≡ b → s.located t.0 ≡ true → NoneAt ts → some_truth s (formulas (map (λ t. at t.0) (picked b))) ≡ b
      at_first true q e n = ap (λ b. b || some_truth s (formulas (map (λ t. at t.0) (filter (λ t. int_eq t.1 k) ts)))) e
      at_first false q e n = none-some k ts n

      off_first : (b : Bool) → s.located t.0 ≡ false → some_truth s (formulas (map (λ t. at t.0) (picked b))) ≡ some_truth s (formulas (map (λ t. at t.0) (filter (λ t. int_eq t.1 k) ts)))
      off_first true e = ap (λ b. b || some_truth s (formulas (map (λ t. at t.0) (filter (λ t. int_eq t.1 k) ts)))) e
      off_first false e = refl

      by_test : (b : Bool) → s.located t.0 ≡ b → some_truth s (formulas (map (λ t. at t.0) (filter (λ t. int_eq t.1 k) ts))) ≡ int_eq k (entries_value here ts) → some_truth s (formulas (map (λ t. at t.0) (picked (int_eq t.1 k)))) ≡ int_eq k (entries_value here (t ∷ ts))
      by_test true e i =
          let n = rest-none a t.0 ts (o.0 e) h.0 o.1 in
          at_first (int_eq t.1 k) refl e n ∙ turned t.1 k ∙ sym (ap (int_eq k) (value-at t ts e n))
      by_test false e i = off_first (int_eq t.1 k) e ∙ i ∙ sym (ap (int_eq k) (value-off t ts e))

  and_true : (a : Bool) → (a && true) ≡ a
  and_true true = refl
  and_true false = refl

  class-truth : (a : Alternative) (ts : Terms) (k : ℤ) → AreEntries ts → AtOne a ts → every_truth s (formulas (whereabouts ts k)) ≡ int_eq k (entries_value here ts)
  class-truth a ts (pos zero) h o = none-class a ts h o
  class-truth a ts (pos (suc n)) h o = and_true _ ∙ closed-some s (formulas (map (λ t. at t.0) (filter (λ t. int_eq t.1 (pos (suc n))) ts))) ∙ some-class a (pos (suc n)) ts (λ e. absurd (cc)) h o
  class-truth a ts (negsuc n) h o = and_true _ ∙ closed-some s (formulas (map (λ t. at t.0) (filter (λ t. int_eq t.1 (negsuc n)) ts))) ∙ some-class a (negsuc n) ts (λ e. absurd (cc)) h o

  -- the value is one of the classes
  or_true : (a : Bool) → (a || true) ≡ true
  or_true true = refl
  or_true false = refl

  or_assoc : (a b c : Bool) → (a || (b || c)) ≡ ((a || b) || c)
  or_assoc true b c = refl
  or_assoc false b c = refl

  any-behind : (f : ℤ → Bool) (ks : List ℤ) (j : ℤ) → list_any f (ks ++ j ∷ []) ≡ (list_any f ks || f j)
  any-behind f [] j = by (f j)
    where
      by : (b : Bool) → (b || false) ≡ b
      by true = refl
      by false = refl
  any-behind f (k ∷ ks) j = ap (λ b. f k || b) (any-behind f ks j) ∙ or_assoc (f k) (list_any f ks) (f j)

  abbrev Kept : List ℤ → Terms → ℤ → Type 0
  Kept seen ts v =
      (list_any (λ k. int_eq k v) seen || list_any (λ t. int_eq t.1 v) ts) ≡ true → (list_any (λ k. int_eq k v) seen || list_any (λ k. int_eq k v) (fresh seen ts)) ≡ true

  -- what is seen, and what is fresh behind it
  fresh-covers : (seen : List ℤ) (ts : Terms) (v : ℤ) → Kept seen ts v
  fresh-covers seen [] v h = h
  fresh-covers seen (t ∷ ts) v h = by_test (list_any (λ k. int_eq k t.1) seen) refl (fresh-covers seen ts v) (fresh-covers (seen ++ t.1 ∷ []) ts v)
    where
      in_seen : (ks : List ℤ) → list_any (λ k. int_eq k t.1) ks ≡ true → int_eq t.1 v ≡ true → list_any (λ k. int_eq k v) ks ≡ true
      in_seen ks e q = subst (λ x. list_any (λ k. int_eq k x) ks ≡ true) ((Decides-int_eq t.1 v).0 q) e

      skip : (b : Bool) → int_eq t.1 v ≡ b → list_any (λ k. int_eq k t.1) seen ≡ true → (list_any (λ k. int_eq k v) seen || (b || list_any (λ t. int_eq t.1 v) ts)) ≡ true → (list_any (λ k. int_eq k v) seen || list_any (λ t. int_eq t.1 v) ts) ≡ true
      skip true q e h = ap (λ b. b || list_any (λ t. int_eq t.1 v) ts) (in_seen seen e q)
      skip false q e h = h

      by_test : (b : Bool) → list_any (λ k. int_eq k t.1) seen ≡ b → Kept seen ts v → Kept (seen ++ t.1 ∷ []) ts v → (list_any (λ k. int_eq k v) seen || list_any (λ k. int_eq k v) (if b then fresh seen ts else t.1 ∷ fresh (seen ++ t.1 ∷ []) ts)) ≡ true
      by_test true e i j = i (skip (int_eq t.1 v) refl e h)
      by_test false e i j =
          let a = list_any (λ k. int_eq k v) seen in
          let more = any-behind (λ k. int_eq k v) seen t.1 in
          let b = j (ap (λ x. x || list_any (λ t. int_eq t.1 v) ts) more ∙ sym (or_assoc a (int_eq t.1 v) (list_any (λ t. int_eq t.1 v) ts)) ∙ h) in
          or_assoc a (int_eq t.1 v) (list_any (λ k. int_eq k v) (fresh (seen ++ t.1 ∷ []) ts)) ∙ sym (ap (λ x. x || list_any (λ k. int_eq k v) (fresh (seen ++ t.1 ∷ []) ts)) more) ∙ b

  value-among : (a : Alternative) (ts : Terms) → AreEntries ts → AtOne a ts → (int_eq (pos 0) (entries_value here ts) || list_any (λ t. int_eq t.1 (entries_value here ts)) ts) ≡ true
  value-among a [] h o = ap (λ b. b || false) (equal_is (pos 0))
  value-among a (t ∷ ts) h o = by_test (s.located t.0) refl (value-among a ts h.2 o.1)
    where
      put_first : (b c d : Bool) → (b || d) ≡ true → (b || (c || d)) ≡ true
      put_first true c d e = refl
      put_first false true d e = refl
      put_first false false d e = e

      by_test : (b : Bool) → s.located t.0 ≡ b → (int_eq (pos 0) (entries_value here ts) || list_any (λ t. int_eq t.1 (entries_value here ts)) ts) ≡ true → (int_eq (pos 0) (entries_value here (t ∷ ts)) || (int_eq t.1 (entries_value here (t ∷ ts)) || list_any (λ u. int_eq u.1 (entries_value here (t ∷ ts))) ts)) ≡ true
      by_test true e i =
          let v = value-at t ts e (rest-none a t.0 ts (o.0 e) h.0 o.1) in
          let x = entries_value here (t ∷ ts) in
          let q : int_eq t.1 x ≡ true = ap (int_eq t.1) v ∙ equal_is t.1 in
          ap (λ b. int_eq (pos 0) x || (b || list_any (λ u. int_eq u.1 x) ts)) q ∙ or_true (int_eq (pos 0) x)
      by_test false e i =
          let x = entries_value here ts in
          subst (λ y. (int_eq (pos 0) y || (int_eq t.1 y || list_any (λ u. int_eq u.1 y) ts)) ≡ true) (sym (value-off t ts e)) (put_first (int_eq (pos 0) x) (int_eq t.1 x) (list_any (λ u. int_eq u.1 x) ts) i)

  class-there : (a : Alternative) (ts : Terms) → AreEntries ts → AtOne a ts → list_any (λ k. int_eq k (entries_value here ts)) (classes ts) ≡ true
  class-there a ts h o =
      let v = entries_value here ts in
      let one : (int_eq (pos 0) v || false) ≡ int_eq (pos 0) v = any-behind (λ k. int_eq k v) [] (pos 0) in
      let f = fresh-covers (pos 0 ∷ []) ts v (ap (λ b. b || list_any (λ t. int_eq t.1 v) ts) one ∙ value-among a ts h o) in
      ap (λ b. b || list_any (λ k. int_eq k v) (fresh (pos 0 ∷ []) ts)) (sym one) ∙ f

  -- all components
  abbrev sum_of_groups : List Terms → ℤ
  sum_of_groups [] = pos 0
  sum_of_groups (ts ∷ gs) = entries_value here ts +ℤ sum_of_groups gs

  abbrev AllOne : List Terms → Type 0
  AllOne [] = Unit {0}
  AllOne (ts ∷ gs) = (AreEntries ts × ((a : Alternative) × AtOne a ts)) × AllOne gs

  choices-truth : (gs : List Terms) → AllOne gs → (z : ℤ → Bool) → list_any (holds_by s z) (choices gs) ≡ z (sum_of_groups gs)
  choices-truth [] h z = by (z (pos 0))
    where
      by : (b : Bool) → ((true && b) || false) ≡ b
      by true = refl
      by false = refl
  choices-truth (ts ∷ gs) h z =
      let a = h.0.1.0 in
      let o = h.0.1.1 in
      any-class s (whereabouts ts) (entries_value here ts) (classes ts) (choices gs) z (sum_of_groups gs) (λ k. class-truth a ts k h.0.0 o) (class-there a ts h.0.0 o) (choices-truth gs h.1)

  case-truth : (e : PlainEquation) (x : List Formula × ℤ) → truth s (case_of e x) ≡ (every_truth s (formulas x.0) && is_zero ((e.constant +ℤ x.1) +ℤ entries_value s.numbers e.numbers))
  case-truth e x =
      closed-every s (formulas (x.0 ++ equal (record { constant = e.constant +ℤ x.1; entries = e.numbers }) ∷ []))
      ∙ every-append s x.0 (equal (record { constant = e.constant +ℤ x.1; entries = e.numbers }) ∷ [])
      ∙ ap (λ b. every_truth s (formulas x.0) && b) (and_true _)

  any-same : {X : Type 0} (f g : X → Bool) (xs : List X) → ((x : X) → f x ≡ g x) → list_any f xs ≡ list_any g xs
  any-same f g [] h = refl
  any-same f g (x ∷ xs) h = ap (λ b. b || list_any f xs) (h x) ∙ ap (λ b. g x || b) (any-same f g xs h)

  formula-truth : (k : ControlFacts) (e : PlainEquation) → AllOne (groups_of k e) → truth s (formula_of k e) ≡ is_zero ((e.constant +ℤ sum_of_groups (groups_of k e)) +ℤ entries_value s.numbers e.numbers)
  formula-truth k e h =
      closed-some s (formulas (map (case_of e) (choices (groups_of k e))))
      ∙ some-any s (case_of e) (choices (groups_of k e))
      ∙ any-same (λ x. truth s (case_of e x)) (holds_by s (λ z. is_zero ((e.constant +ℤ z) +ℤ entries_value s.numbers e.numbers))) (choices (groups_of k e)) (case-truth e)
      ∙ choices-truth (groups_of k e) h (λ z. is_zero ((e.constant +ℤ z) +ℤ entries_value s.numbers e.numbers))

  -- the sum of all components' terms is that of all terms
  abbrev owner : List ℕ → ℕ → ℕ
  owner owners l = slice_index_or owners l 0

  abbrev OwnersIn : List ℕ → ℕ → Terms → Type 0
  OwnersIn owners m [] = Unit {0}
  OwnersIn owners m (t ∷ ts) = (owner owners t.0 < m) × OwnersIn owners m ts

  one-term : (owners : List ℕ) (c : ℕ) (t : ℕ × ℤ) (ts : Terms) → entries_value here (terms_of owners c (t ∷ ts)) ≡ delta (owner owners t.0) c *ℤ (t.1 *ℤ here t.0) +ℤ entries_value here (terms_of owners c ts)
  one-term owners c t ts = by_test (c == owner owners t.0)
    where
      by_test : (b : Bool) → entries_value here (if b then t ∷ terms_of owners c ts else terms_of owners c ts) ≡ (if b then pos 1 else pos 0) *ℤ (t.1 *ℤ here t.0) +ℤ entries_value here (terms_of owners c ts)
      by_test true = ap (λ z. z +ℤ entries_value here (terms_of owners c ts)) (sym (once (t.1 *ℤ here t.0)))
        where
          once : (z : ℤ) → pos 1 *ℤ z ≡ z
          once z = omega (arith, ints)
      by_test false = none (t.1 *ℤ here t.0) (entries_value here (terms_of owners c ts))
        where
          none : (z w : ℤ) → w ≡ pos 0 *ℤ z +ℤ w
          none z w = omega (arith, ints)

  terms-total : (owners : List ℕ) (m : ℕ) (ts : Terms) → OwnersIn owners m ts → total (λ c. entries_value here (terms_of owners c ts)) m 0 ≡ entries_value here ts
  terms-total owners m [] h = total-zero m 0
  terms-total owners m (t ∷ ts) h =
      total-same (λ c. entries_value here (terms_of owners c (t ∷ ts))) (λ c. delta (owner owners t.0) c *ℤ (t.1 *ℤ here t.0) +ℤ entries_value here (terms_of owners c ts)) m 0 (λ c i j. one-term owners c t ts)
      ∙ total-sum (λ c. delta (owner owners t.0) c *ℤ (t.1 *ℤ here t.0)) (λ c. entries_value here (terms_of owners c ts)) m 0
      ∙ omega (arith, ints, total-one (λ c. t.1 *ℤ here t.0) (owner owners t.0) m 0 (omega arith) (let l : owner owners t.0 < m = h.0 in omega arith), terms-total owners m ts h.1)

  with-sum : (ts : Terms) (gs : List Terms) → sum_of_groups (with_terms ts gs) ≡ entries_value here ts +ℤ sum_of_groups gs
  with-sum [] gs = omega (arith, ints)
  with-sum (t ∷ ts) gs = refl

  groups-sum : (owners : List ℕ) (ts : Terms) (m c : ℕ) → sum_of_groups (groups owners ts m c) ≡ total (λ c. entries_value here (terms_of owners c ts)) m c
  groups-sum owners ts zero c = refl
  groups-sum owners ts (suc m) c = with-sum (terms_of owners c ts) (groups owners ts m (c + 1)) ∙ ap (λ z. entries_value here (terms_of owners c ts) +ℤ z) (groups-sum owners ts m (c + 1))

  -- each component's terms rise, and control is at one of their locations at most
  terms-above : (owners : List ℕ) (c v : ℕ) (ts : Terms) → AllAbove v ts → AllAbove v (terms_of owners c ts)
  terms-above owners c v [] h = tt
  terms-above owners c v (t ∷ ts) h = by_test (c == owner owners t.0) (terms-above owners c v ts h.1)
    where
      by_test : (b : Bool) → AllAbove v (terms_of owners c ts) → AllAbove v (if b then t ∷ terms_of owners c ts else terms_of owners c ts)
      by_test true i = (h.0, i)
      by_test false i = i

  terms-entries : (owners : List ℕ) (c : ℕ) (ts : Terms) → AreEntries ts → AreEntries (terms_of owners c ts)
  terms-entries owners c [] h = tt
  terms-entries owners c (t ∷ ts) h = by_test (c == owner owners t.0) (terms-entries owners c ts h.2)
    where
      by_test : (b : Bool) → AreEntries (terms_of owners c ts) → AreEntries (if b then t ∷ terms_of owners c ts else terms_of owners c ts)
      by_test true i = (terms-above owners c t.0 ts h.0, h.1, i)
      by_test false i = i

  found-owner : (owners : List ℕ) (l c : ℕ) → slice_get owners l ≡ Some c → owner owners l ≡ c
  found-owner [] l c e = absurd (cc)
  found-owner (o ∷ owners) zero c e = cc
  found-owner (o ∷ owners) (suc l) c e = found-owner owners l c e

  module _ (k : ControlFacts) (place : ℕ → Alternative) (control : InControl k place s.located) where
    at-place : (l c : ℕ) → c ≡ owner k.owners l → s.located l ≡ true → place c ≡ Location l
    at-place l c e h =
        let i = (control.located l).0 h in
        let same : c ≡ i.0 = e ∙ found-owner k.owners l i.0 i.1 in
        ap place same ∙ i.3

    terms-one : (c : ℕ) (ts : Terms) → AtOne (place c) (terms_of k.owners c ts)
    terms-one c [] = tt
    terms-one c (t ∷ ts) = by_test (c == owner k.owners t.0) refl (terms-one c ts)
      where
        by_test : (b : Bool) → (c == owner k.owners t.0) ≡ b → AtOne (place c) (terms_of k.owners c ts) → AtOne (place c) (if b then t ∷ terms_of k.owners c ts else terms_of k.owners c ts)
        by_test true e i = let q : c ≡ owner k.owners t.0 = grind (arith, nat_tests) in (λ h. at-place t.0 c q h, i)
        by_test false e i = i

    groups-one : (ts : Terms) (m c : ℕ) → AreEntries ts → AllOne (groups k.owners ts m c)
    groups-one ts zero c h = tt
    groups-one ts (suc m) c h = with_one (terms_of k.owners c ts) (terms-entries k.owners c ts h) (terms-one c ts) (groups-one ts m (c + 1) h)
      where
        with_one : (us : Terms) → AreEntries us → AtOne (place c) us → AllOne (groups k.owners ts m (c + 1)) → AllOne (with_terms us (groups k.owners ts m (c + 1)))
        with_one [] i o r = r
        with_one (u ∷ us) i o r = ((i, (place c, o)), r)

    owners-in : (ts : Terms) → AreOwned k ts → OwnersIn k.owners (length k.components) ts
    owners-in [] h = tt
    owners-in (t ∷ ts) h = (let e = found-owner k.owners t.0 h.0 h.1 in let l : h.0 < length k.components = h.2 in omega arith, owners-in ts h.3)

    pub says : (e : PlainEquation) → AreOwned k e.places → AreEntries e.places → truth s (formula_of k e) ≡ is_zero (worth e s)
    says e owned entries =
        let n = length k.components in
        let sum = groups-sum k.owners e.places n 0 ∙ terms-total k.owners n e.places (owners-in e.places owned) in
        let same : (e.constant +ℤ sum_of_groups (groups_of k e)) +ℤ entries_value s.numbers e.numbers ≡ worth e s = omega (arith, ints, sum) in
        formula-truth k e (groups-one e.places n 0 entries) ∙ ap is_zero same
