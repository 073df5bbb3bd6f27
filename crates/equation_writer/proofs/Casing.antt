-- What the components add in the cases is small, where there are few cases.
use Rattle.std.proofs.Common.{◌≡◌, ℕ, zero, suc, ◌+◌, ◌*◌, ◌^◌, ◌<◌, ◌≤◌, Bool, true, false, ◌&&◌, ◌||◌, List, [], ◌∷◌, ◌++◌, length, map, drop, refl, sym, subst, arith, rules, ℤ, pos, ◌+ℤ◌}
use Rattle.std.specs.Prelude.{IsTrue, unsigned_abs, ◌==◌, cond, slice_index_or}
use Rattle.std.specs.List.{list_any}
use Rattle.std.specs.Ordering.{int_eq}
use Rattle.std.proofs.lemmas.Int.{ints}
use Rattle.std.proofs.lemmas.Bool.Decides.{nat_tests, Decides-int_eq}
use Rattle.st_linear.specs.Linear.{AreEntries, is_within, is_small, are_small}
use Rattle.st_form.specs.Formula.{Formula}
use Rattle.equation_forms.specs.Formulas.{Terms, terms_of, with_terms, groups, fresh, classes, choices}
use Rattle.equation_writer.specs.Sizes.{case_count}
use Rattle.equation_writer.specs.Sums.{with_class, with_classes, AreModest, AreSmall, AreNonzero, IsGroup, AreGroups}

pub both : (a b : Bool) → (a && b) ≡ true → (a ≡ true) × (b ≡ true)
both true b h = (refl, h)
both false b h = absurd cc

-- the size of a small number
pub small-size : (z : ℤ) → IsTrue (is_small z) → unsigned_abs z < 2 ^ 100
unfolding is_within
small-size z h = grind (arith, nat_tests)

-- classes are small
fresh-small : (seen : List ℤ) (ts : Terms) → IsTrue (are_small ts) → AreSmall (fresh seen ts)
fresh-small seen [] h = tt
fresh-small seen (t ∷ ts) h =
    let p = both (is_small t.1) (are_small ts) h in
    by (list_any (λ k. int_eq k t.1) seen) p.0 (fresh-small seen ts p.1) (fresh-small (seen ++ t.1 ∷ []) ts p.1)
  where
    by : (b : Bool) → IsTrue (is_small t.1) → AreSmall (fresh seen ts) → AreSmall (fresh (seen ++ t.1 ∷ []) ts) → AreSmall (cond b (fresh seen ts) (t.1 ∷ fresh (seen ++ t.1 ∷ []) ts))
    by true s a b = a
    by false s a b = (s, b)

pub zero-small : IsTrue (is_small (pos 0))
unfolding is_within
zero-small = search rules

pub classes-small : (ts : Terms) → IsGroup ts → AreSmall (classes ts)
classes-small ts g = (zero-small, fresh-small (pos 0 ∷ []) ts g.small)

-- there are at least two
classes-two : (ts : Terms) → 0 < length ts → AreNonzero ts → 2 ≤ length (classes ts)
classes-two [] some h = absurd (omega arith)
classes-two (t ∷ ts) some h = by (int_eq (pos 0) t.1) refl
  where
    by : (b : Bool) → int_eq (pos 0) t.1 ≡ b → 2 ≤ length (pos 0 ∷ cond (b || false) (fresh (pos 0 ∷ []) ts) (t.1 ∷ fresh (pos 0 ∷ t.1 ∷ []) ts))
    by true e = absurd (h.0 (sym ((Decides-int_eq (pos 0) t.1).0 e)))
    by false e = omega arith

times-two : (n x : ℕ) → 2 ≤ n → x + x ≤ n * x
times-two zero x h = absurd (omega arith)
times-two (suc zero) x h = absurd (omega arith)
times-two (suc (suc n)) x h = omega arith

pub few-groups : (gs : List Terms) → AreGroups gs → length gs + 1 ≤ case_count gs
few-groups [] h = omega arith
few-groups (ts ∷ gs) h =
    let two = classes-two ts h.0.some h.0.nonzero in
    omega (arith, few-groups gs h.1, times-two (length (classes ts)) (case_count gs) two)

-- sums
abbrev AllWithin : ℕ → List (List Formula × ℤ) → Type 0
AllWithin m [] = Unit {0}
AllWithin m (x ∷ xs) = (unsigned_abs x.1 ≤ m) × AllWithin m xs

within-append : (m : ℕ) (xs ys : List (List Formula × ℤ)) → AllWithin m xs → AllWithin m ys → AllWithin m (xs ++ ys)
within-append m [] ys h k = k
within-append m (x ∷ xs) ys h k = (h.0, within-append m xs ys h.1 k)

sum-size : (a b : ℤ) → unsigned_abs (a +ℤ b) ≤ unsigned_abs a + unsigned_abs b
sum-size a b = omega (arith, ints)

class-within : (m : ℕ) (ts : Terms) (k : ℤ) (xs : List (List Formula × ℤ)) → unsigned_abs k < 2 ^ 100 → AllWithin m xs → AllWithin (2 ^ 100 + m) (map (with_class ts k) xs)
class-within m ts k [] small h = tt
class-within m ts k (x ∷ xs) small h = (omega (arith, sum-size k x.1, h.0), class-within m ts k xs small h.1)

classes-within : (m : ℕ) (ts : Terms) (ks : List ℤ) (xs : List (List Formula × ℤ)) → AreSmall ks → AllWithin m xs → AllWithin (2 ^ 100 + m) (with_classes ts ks xs)
classes-within m ts [] xs small h = tt
classes-within m ts (k ∷ ks) xs small h =
    within-append (2 ^ 100 + m) (map (with_class ts k) xs) (with_classes ts ks xs) (class-within m ts k xs (small-size k small.0) h) (classes-within m ts ks xs small.1 h)

choices-within : (gs : List Terms) → AreGroups gs → AllWithin (length gs * 2 ^ 100) (choices gs)
choices-within [] h = (omega arith, tt)
choices-within (ts ∷ gs) h =
    let sum : 2 ^ 100 + length gs * 2 ^ 100 ≡ length (ts ∷ gs) * 2 ^ 100 = omega arith in
    subst (λ (m : ℕ). AllWithin m (choices (ts ∷ gs))) sum (classes-within (length gs * 2 ^ 100) ts (classes ts) (choices gs) (classes-small ts h.0) (choices-within gs h.1))

all-modest : (m : ℕ) (xs : List (List Formula × ℤ)) → m < 2 ^ 110 → AllWithin m xs → AreModest xs
all-modest m [] l h = tt
all-modest m (x ∷ xs) l h = let k = h.0 in (omega arith, all-modest m xs l h.1)

pub modest : (gs : List Terms) → AreGroups gs → case_count gs ≤ 64 → AreModest (choices gs)
modest gs h few = let n = few-groups gs h in all-modest (length gs * 2 ^ 100) (choices gs) (omega arith) (choices-within gs h)

-- of the last components
pub groups-drop : (k : ℕ) (gs : List Terms) → AreGroups gs → AreGroups (drop k gs)
groups-drop zero gs h = h
groups-drop (suc k) [] h = tt
groups-drop (suc k) (ts ∷ gs) h = groups-drop k gs h.1

-- the coefficients of an equation are those of components
nonzero-entries : (ts : Terms) → AreEntries ts → AreNonzero ts
nonzero-entries [] h = tt
nonzero-entries (t ∷ ts) h = (h.1, nonzero-entries ts h.2)

terms-nonzero : (owners : List ℕ) (c : ℕ) (ts : Terms) → AreNonzero ts → AreNonzero (terms_of owners c ts)
terms-nonzero owners c [] h = tt
terms-nonzero owners c (t ∷ ts) h = by (c == slice_index_or owners t.0 0) (terms-nonzero owners c ts h.1)
  where
    by : (b : Bool) → AreNonzero (terms_of owners c ts) → AreNonzero (cond b (t ∷ terms_of owners c ts) (terms_of owners c ts))
    by true k = (h.0, k)
    by false k = k

terms-small : (owners : List ℕ) (c : ℕ) (ts : Terms) → IsTrue (are_small ts) → IsTrue (are_small (terms_of owners c ts))
terms-small owners c [] h = h
terms-small owners c (t ∷ ts) h =
    let p = both (is_small t.1) (are_small ts) h in
    by (c == slice_index_or owners t.0 0) p.0 (terms-small owners c ts p.1)
  where
    by : (b : Bool) → is_small t.1 ≡ true → IsTrue (are_small (terms_of owners c ts)) → IsTrue (are_small (cond b (t ∷ terms_of owners c ts) (terms_of owners c ts)))
    by true s k = rw s k
    by false s k = k

with-groups : (ts : Terms) (gs : List Terms) → AreNonzero ts → IsTrue (are_small ts) → AreGroups gs → AreGroups (with_terms ts gs)
with-groups [] gs a b h = h
with-groups (t ∷ ts) gs a b h = (record { some = omega arith; nonzero = a; small = b }, h)

pub groups-are : (owners : List ℕ) (ts : Terms) (n c : ℕ) → AreEntries ts → IsTrue (are_small ts) → AreGroups (groups owners ts n c)
groups-are owners ts zero c a b = tt
groups-are owners ts (suc n) c a b =
    with-groups (terms_of owners c ts) (groups owners ts n (c + 1)) (terms-nonzero owners c ts (nonzero-entries ts a)) (terms-small owners c ts b) (groups-are owners ts n (c + 1) a b)
