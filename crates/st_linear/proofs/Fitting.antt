-- Sums and multiples: their values, and that they are forms where their numbers fit.
use Rattle.std.proofs.Common.{◌≡◌, ℕ, Bool, true, false, cond, List, [], ◌∷◌, ◌++◌, length, drop, get_or, ◌<◌, ◌≤◌, ◌+◌, ◌^◌, ap, ◌∙◌, sym, arith, ℤ, ◌+ℤ◌, ◌*ℤ◌, Some, None, append-nil}
use Rattle.std.proofs.Math.ListN.{drop_of_length-le}
use Rattle.std.specs.Prelude.{IsTrue}
use Rattle.std.proofs.lemmas.Bool.{and_left, and_right}
use Rattle.std.proofs.lemmas.Int.{ints}
use Rattle.std.proofs.lemmas.List.{drop_more}
use Rattle.st_linear.specs.Linear.{Linear, is_small, are_small, small, small_entries, fits, fitting, sum_of, value, entries_value, IsLinear, AreEntries, AllAbove, scaled, scaled_entries, with_entry}
use Rattle.st_linear.proofs.Joined.{value-joined, AreEntries-with_entry, AllAbove-with_entry, value-with_entry}
use Rattle.st_linear.proofs.Joins.{small-some, small-none, none}
use Rattle.st_linear.proofs.Withins.{entries-some, entries-none}
use Rattle.st_linear.proofs.Ints.{+ℤ-*ℤ, *ℤ_assoc}
use Rattle.std.proofs.Math.IntN.{zero-*ℤ, *ℤ_comm}

pub small_entries-some : (xs ys : List (ℕ × ℤ)) → small_entries xs ≡ Some ys → (xs ≡ ys) × IsTrue (are_small xs)
small_entries-some = entries-some (2 ^ 100)

small_entries-none : (xs : List (ℕ × ℤ)) → small_entries xs ≡ None → are_small xs ≡ false
small_entries-none = entries-none (2 ^ 100)

pub fitting-some : (f : Linear) (c : ℤ) (es : List (ℕ × ℤ)) → small f.constant ≡ Some c → small_entries f.entries ≡ Some es → fitting f ≡ Some (record { constant = c; entries = es })
unfolding fitting
fitting-some f c es h k =
    let p = small-some _ _ h in
    let q = small_entries-some _ _ k in
    rw (← p.0, ← q.0, p.1, q.1)

pub fitting-no_constant : (f : Linear) → small f.constant ≡ None → fitting f ≡ None
unfolding fitting
fitting-no_constant f h = rw (and_left _ (are_small f.entries) (small-none _ h))

pub fitting-no_entries : (f : Linear) → small_entries f.entries ≡ None → fitting f ≡ None
unfolding fitting
fitting-no_entries f h = rw (and_right (is_small f.constant) _ (small_entries-none _ h))

pub value-sum_of : (store : ℕ → ℤ) (f g : Linear) → value store (sum_of f g) ≡ value store f +ℤ value store g
value-sum_of store f g = omega (arith, ints, value-joined store f.entries g.entries)

value-scaled_entries : (store : ℕ → ℤ) (c : ℤ) (es : List (ℕ × ℤ)) → entries_value store (scaled_entries c es) ≡ entries_value store es *ℤ c
value-scaled_entries store c [] = sym (zero-*ℤ c)
value-scaled_entries store c (e ∷ es) =
    omega (
      arith,
      ints,
      value-with_entry store e.0 (e.1 *ℤ c) (scaled_entries c es),
      value-scaled_entries store c es,
      +ℤ-*ℤ (e.1 *ℤ store e.0) (entries_value store es) c,
      *ℤ_assoc e.1 c (store e.0),
      *ℤ_assoc e.1 (store e.0) c,
      ap (λ x. e.1 *ℤ x) (*ℤ_comm c (store e.0)),
    )

pub value-scaled : (store : ℕ → ℤ) (c : ℤ) (f : Linear) → value store (scaled c f) ≡ value store f *ℤ c
value-scaled store c f = omega (arith, ints, value-scaled_entries store c f.entries, +ℤ-*ℤ f.constant (entries_value store f.entries) c)

AllAbove-scaled : (v : ℕ) (c : ℤ) (es : List (ℕ × ℤ)) → AllAbove v es → AllAbove v (scaled_entries c es)
AllAbove-scaled v c [] h = tt
AllAbove-scaled v c (e ∷ es) h = AllAbove-with_entry v e.0 (e.1 *ℤ c) _ h.0 (AllAbove-scaled v c es h.1)

pub AreEntries-scaled : (c : ℤ) (es : List (ℕ × ℤ)) → AreEntries es → AreEntries (scaled_entries c es)
AreEntries-scaled c [] h = tt
AreEntries-scaled c (e ∷ es) h = AreEntries-with_entry e.0 (e.1 *ℤ c) _ (AllAbove-scaled e.0 c es h.0) (AreEntries-scaled c es h.2)

-- a form whose numbers were looked at
pub IsLinear-made : (c : ℤ) (es : List (ℕ × ℤ)) (z : ℤ) (xs : List (ℕ × ℤ)) → small z ≡ Some c → small_entries xs ≡ Some es → AreEntries xs → IsLinear (record { constant = c; entries = es })
IsLinear-made c es z xs h k l =
    let p = small-some _ _ h in
    let q = small_entries-some _ _ k in
    record { constant_small = rw (← p.0) p.1; entries_small = rw (← q.0) q.1; entries = rw (← q.0) l }

pub scaled_entries-more : (by : ℤ) (xs : List (ℕ × ℤ)) (i : ℕ) → i < length xs → scaled_entries by (drop i xs) ≡ with_entry (get_or xs i none).0 ((get_or xs i none).1 *ℤ by) (scaled_entries by (drop (i + 1) xs))
scaled_entries-more by xs i h = rw (drop_more xs i none)

fitted : (b : Bool) (f r : Linear) → cond b (Some f) None ≡ Some r → f ≡ r
fitted true f r h = cc
fitted false f r h = absurd (cc)

pub fitting-is : (f r : Linear) → fitting f ≡ Some r → f ≡ r
unfolding fitting
fitting-is f r h = fitted (fits f) f r h

pub scaled_entries-end : (by : ℤ) (out xs whole : List (ℕ × ℤ)) (i : ℕ) → out ++ scaled_entries by (drop i xs) ≡ whole → length xs ≤ i → out ≡ whole
scaled_entries-end by out xs whole i h k = sym (append-nil out) ∙ (rw (drop_of_length-le xs k) at h)
