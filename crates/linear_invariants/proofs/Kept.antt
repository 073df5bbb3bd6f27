-- The rows of a system are such as a row may be: their numbers are small.
use Rattle.std.proofs.Common.{◌≡◌, ◌≢◌, ℕ, zero, suc, ◌+◌, ◌<◌, ◌≤◌, ◌^◌, Bool, true, false, ◌&&◌, List, [], ◌∷◌, ◌++◌, length, Some, refl, ap, ◌∙◌, sym, subst, arith, inl, inr, ℤ, pos, negsuc, neg_ℤ, ◌+ℤ◌, rules}
use Rattle.std.specs.Prelude.{IsTrue, All, unsigned_abs, slice_get, ◌==◌, if◌then◌else◌}
use Rattle.std.proofs.lemmas.Int.{ints}
use Rattle.std.proofs.lemmas.Bool.Decides.{nat_tests}
use Rattle.st_linear.specs.Linear.{Linear, AreEntries, is_small, are_small, is_within, with_entry}
use Rattle.st_linear.proofs.Dividing.{unsigned_abs-neg}
use Rattle.st_linear.proofs.Withins.{are_within-append}
use Rattle.st_form.specs.Exchange.{Exchange, is_listed}
use Rattle.elimination_laws.specs.Mixing.{part}
use Rattle.null_laws.specs.Reduction.{Entries}
use Rattle.transition_system.specs.Bounds.{EntriesWithin, LinearWithin, ExchangeWithin}
use Rattle.matrix_rows.specs.Rows.{IsKept}
use Rattle.equation_laws.specs.Sums.{presence, passage}
use Rattle.equation_laws.specs.Rows.{gain, over_changed, over_places, over_forms, variable_row, constant_row, first_variable_row, first_constant_row}
use Rattle.equation_laws.proofs.Within.{AllLinear, numbers-within, variable_row-is, constant_row-is, first_variable_row-is, first_constant_row-is}
use Rattle.linear_invariants.specs.Starts.{AreSlightEntries, AreSlight}

small-from : (z : ℤ) → unsigned_abs z < 2 ^ 40 → IsTrue (is_small z)
unfolding is_within
small-from z h = grind (arith, nat_tests)

and_true : (a b : Bool) → a ≡ true → b ≡ true → (a && b) ≡ true
and_true true b h k = k
and_true false b h k = absurd (cc)

small-with : (v : ℕ) (c : ℤ) (es : Entries) → IsTrue (is_small c) → IsTrue (are_small es) → IsTrue (are_small (with_entry v c es))
small-with v (pos zero) es h k = k
small-with v (pos (suc n)) es h k = and_true (is_small (pos (suc n))) (are_small es) h k
small-with v (negsuc n) es h k = and_true (is_small (negsuc n)) (are_small es) h k

small-append : (es fs : Entries) → IsTrue (are_small es) → IsTrue (are_small fs) → IsTrue (are_small (es ++ fs))
small-append es fs h k = are_within-append (2 ^ 100) es fs ∙ and_true (are_small es) (are_small fs) h k

less_one : (z : ℤ) → unsigned_abs (z +ℤ neg_ℤ (pos 1)) ≤ suc (unsigned_abs z)
less_one (pos zero) = omega arith
less_one (pos (suc n)) =
    let e : pos n ≡ pos (suc n) +ℤ neg_ℤ (pos 1) = omega (arith, ints) in
    subst (λ z. unsigned_abs z ≤ suc (suc n)) e (omega arith)
less_one (negsuc n) =
    let e : negsuc (suc n) ≡ negsuc n +ℤ neg_ℤ (pos 1) = omega (arith, ints) in
    subst (λ z. unsigned_abs z ≤ suc (suc n)) e (omega arith)

less_none : (z : ℤ) → unsigned_abs (z +ℤ neg_ℤ (pos 0)) ≤ suc (unsigned_abs z)
less_none z = let e : z ≡ z +ℤ neg_ℤ (pos 0) = omega (arith, ints) in subst (λ y. unsigned_abs y ≤ suc (unsigned_abs z)) e (omega arith)

-- numbers of forms
part-within : (truths : List Bool) (bound u : ℕ) (es : Entries) → 0 < bound → EntriesWithin truths bound es → unsigned_abs (part u es) < bound
part-within truths bound u [] z h = z
part-within truths bound u (e ∷ es) z h = by_test (e.0 == u) (part-within truths bound u es z h.2)
  where
    by_test : (b : Bool) → unsigned_abs (part u es) < bound → unsigned_abs (if b then e.1 else part u es) < bound
    by_test true k = h.1
    by_test false k = k

part-slight : (u : ℕ) (es : Entries) → AreSlightEntries es → unsigned_abs (part u es) < 2 ^ 32
part-slight u [] h = omega arith
part-slight u (e ∷ es) h = by_test (e.0 == u) (part-slight u es h.1)
  where
    by_test : (b : Bool) → unsigned_abs (part u es) < 2 ^ 32 → unsigned_abs (if b then e.1 else part u es) < 2 ^ 32
    by_test true k = h.0
    by_test false k = k

gain-small : (truths : List Bool) (u v : ℕ) (f : Linear) → LinearWithin truths (2 ^ 30 + 1) f → IsTrue (is_small (gain u v f))
gain-small truths u v f h = by_test (u == v) (part-within truths (2 ^ 30 + 1) u f.entries (omega arith) h.entries)
  where
    by_test : (b : Bool) → unsigned_abs (part u f.entries) < 2 ^ 30 + 1 → IsTrue (is_small (part u f.entries +ℤ neg_ℤ (if b then pos 1 else pos 0)))
    by_test true k = let l = less_one (part u f.entries) in small-from _ (omega arith)
    by_test false k = let l = less_none (part u f.entries) in small-from _ (omega arith)

passage-small : (a b : Bool) → IsTrue (is_small (presence a +ℤ neg_ℤ (presence b)))
passage-small true true = small-from _ (omega arith)
passage-small true false = small-from _ (omega arith)
passage-small false true = small-from _ (omega arith)
passage-small false false = small-from _ (omega arith)

presence-small : (a : Bool) → IsTrue (is_small (presence a))
presence-small true = small-from _ (omega arith)
presence-small false = small-from _ (omega arith)

-- lists of entries
changed-small : (g : ℕ → Linear → ℤ) (truths : List Bool) (ps : List (ℕ × Linear)) → ((v : ℕ) (f : Linear) → LinearWithin truths (2 ^ 30 + 1) f → IsTrue (is_small (g v f))) → All (λ p. (slice_get truths p.0 ≡ Some false) × LinearWithin truths (2 ^ 30 + 1) p.1) ps → IsTrue (are_small (over_changed g ps))
changed-small g truths [] k h = refl
changed-small g truths (p ∷ ps) k h = small-with p.0 (g p.0 p.1) (over_changed g ps) (k p.0 p.1 (h 0 p (omega arith)).1) (changed-small g truths ps k (λ i d l. h (suc i) d (omega arith)))

places-small : (n : ℕ) (g : ℕ → ℤ) (m l : ℕ) → ((l : ℕ) → IsTrue (is_small (g l))) → IsTrue (are_small (over_places n g m l))
places-small n g zero l h = refl
places-small n g (suc m) l h = small-with (n + l) (g l) (over_places n g m (l + 1)) (h l) (places-small n g m (l + 1) h)

forms-small : (g : Linear → ℤ) (k : ℕ) (fs : List Linear) → AreSlight fs → ((f : Linear) → unsigned_abs f.constant < 2 ^ 32 → AreSlightEntries f.entries → unsigned_abs (g f) < 2 ^ 32) → IsTrue (are_small (over_forms g k fs))
forms-small g k [] h b = refl
forms-small g k (f ∷ fs) h b =
    let l = b f h.0 h.1 in
    let e = unsigned_abs-neg (g f) in
    small-with k (neg_ℤ (g f)) (over_forms g (k + 1) fs) (small-from (neg_ℤ (g f)) (omega arith)) (forms-small g (k + 1) fs h.2 b)

one-small : IsTrue (is_small (pos 1))
one-small = small-from (pos 1) (omega arith)

pub variable-kept : (truths : List Bool) (locations u : ℕ) (x : Exchange) → ExchangeWithin truths locations x → IsKept (variable_row x u)
variable-kept truths locations u x h = record {
  entries = (variable_row-is (length truths) (length truths) u x (omega arith) (numbers-within truths x.numbers h.numbers) h.numbers_rise).0;
  small = changed-small (gain u) truths x.numbers (λ v f w. gain-small truths u v f w) h.numbers;
}

pub constant-kept : (truths : List Bool) (locations : ℕ) (x : Exchange) → ExchangeWithin truths locations x → IsKept (constant_row (length truths) locations x)
constant-kept truths locations x h = record {
  entries = (constant_row-is (length truths) locations (length truths + locations) x (omega arith) (numbers-within truths x.numbers h.numbers) h.numbers_rise).0;
  small = small-append (over_changed (λ v f. f.constant) x.numbers) (over_places (length truths) (passage x) locations 0)
      (changed-small (λ v f. f.constant) truths x.numbers (λ v f w. (let b = w.constant in small-from f.constant (omega arith))) h.numbers)
      (places-small (length truths) (passage x) locations 0 (λ l. passage-small (is_listed l x.enters) (is_listed l x.leaves)));
}

pub first-variable-kept : (k u : ℕ) (fs : List Linear) → u < k → AreSlight fs → IsKept (first_variable_row k fs u)
first-variable-kept k u fs l h = record {
  entries = (first_variable_row-is k (k + length fs) u fs l (omega arith)).0;
  small = and_true (is_small (pos 1)) (are_small (over_forms (λ f. part u f.entries) k fs)) one-small (forms-small (λ f. part u f.entries) k fs h (λ f c e. part-slight u f.entries e));
}

pub first-constant-kept : (n locations : ℕ) (firsts : List ℕ) (fs : List Linear) → AreSlight fs → IsKept (first_constant_row n locations firsts fs)
first-constant-kept n locations firsts fs h =
    let k : ℕ = n + locations + 1 in
    record {
      entries = (first_constant_row-is n locations (k + length fs) firsts fs (omega arith)).0;
      small = small-append (over_places n (λ l. presence (is_listed l firsts)) locations 0) ((n + locations, pos 1) ∷ over_forms (λ f. f.constant) k fs)
          (places-small n (λ l. presence (is_listed l firsts)) locations 0 (λ l. presence-small (is_listed l firsts)))
          (and_true (is_small (pos 1)) (are_small (over_forms (λ f. f.constant) k fs)) one-small (forms-small (λ f. f.constant) k fs h (λ f c e. c)));
    }

-- the start's equations are slight
slight-entries : (truths : List Bool) (es : Entries) → EntriesWithin truths (2 ^ 32) es → AreSlightEntries es
slight-entries truths [] h = tt
slight-entries truths (e ∷ es) h = (h.1, slight-entries truths es h.2)

pub slight-forms : (truths : List Bool) (fs : List Linear) → AllLinear truths (2 ^ 32) fs → AreSlight fs
slight-forms truths [] h = tt
slight-forms truths (f ∷ fs) h = (h.0.constant, slight-entries truths f.entries h.0.entries, slight-forms truths fs h.1)
