-- One induction over the merge of two lists of entries, and what follows by it.
use Rattle.std.proofs.Common.{◌≡◌, ℕ, zero, suc, ◌<◌, List, [], ◌∷◌, ◌⊎◌, ⊎_elim, refl, ap, arith, ℤ, pos, negsuc, ◌+ℤ◌, ◌*ℤ◌}
use Rattle.std.proofs.lemmas.Bool.Decides.{nat_tests}
use Rattle.std.proofs.lemmas.Int.{ints}
use Rattle.st_linear.specs.Linear.{joined, with_entry, entries_value, AllAbove, AreEntries}
use Rattle.std.proofs.Math.IntN.{zero-*ℤ}
use Rattle.st_linear.proofs.Ints.{+ℤ-*ℤ}

abbrev Entries : Type 0
Entries = List (ℕ × ℤ)

-- how the fronts of two lists are joined
abbrev Less : (Entries → Entries → Entries → Type 0) → Type 0
Less P = (x y : ℕ × ℤ) (xs ys zs : Entries) → x.0 < y.0 → P xs (y ∷ ys) zs → P (x ∷ xs) (y ∷ ys) (x ∷ zs)

abbrev More : (Entries → Entries → Entries → Type 0) → Type 0
More P = (x y : ℕ × ℤ) (xs ys zs : Entries) → y.0 < x.0 → P (x ∷ xs) ys zs → P (x ∷ xs) (y ∷ ys) (y ∷ zs)

abbrev Same : (Entries → Entries → Entries → Type 0) → Type 0
Same P = (x y : ℕ × ℤ) (xs ys zs : Entries) → x.0 ≡ y.0 → P xs ys zs → P (x ∷ xs) (y ∷ ys) (with_entry x.0 (x.1 +ℤ y.1) zs)

joined_with-less : (x y : ℕ × ℤ) (xs ys : Entries) → x.0 < y.0 → joined (x ∷ xs) (y ∷ ys) ≡ x ∷ joined xs (y ∷ ys)
joined_with-less x y xs ys h = grind (arith, nat_tests)

joined_with-more : (x y : ℕ × ℤ) (xs ys : Entries) → y.0 < x.0 → joined (x ∷ xs) (y ∷ ys) ≡ y ∷ joined (x ∷ xs) ys
joined_with-more x y xs ys h = grind (arith, nat_tests)

joined_with-same : (x y : ℕ × ℤ) (xs ys : Entries) → x.0 ≡ y.0 → joined (x ∷ xs) (y ∷ ys) ≡ with_entry x.0 (x.1 +ℤ y.1) (joined xs ys)
joined_with-same x y xs ys h = grind (arith, nat_tests)

by_order : (m n : ℕ) → (m < n) ⊎ ((n < m) ⊎ (m ≡ n))
by_order m n = grind arith

front : (P : Entries → Entries → Entries → Type 0) → ((x : ℕ × ℤ) (xs : Entries) → P (x ∷ xs) [] (x ∷ xs)) → Less P → More P → Same P → (x : ℕ × ℤ) (xs : Entries) → ((ys : Entries) → P xs ys (joined xs ys)) → (ys : Entries) → P (x ∷ xs) ys (joined (x ∷ xs) ys)
front P none less more same x xs rest [] = none x xs
front P none less more same x xs rest (y ∷ ys) =
    ⊎_elim
    (λ h. rw (joined_with-less x y xs ys h) (less x y xs ys _ h (rest (y ∷ ys))))
    (⊎_elim
    (λ h. rw (joined_with-more x y xs ys h) (more x y xs ys _ h (front P none less more same x xs rest ys)))
    (λ h. rw (joined_with-same x y xs ys h) (same x y xs ys _ h (rest ys))))
    (by_order x.0 y.0)

-- what holds of two joined lists, front by front
pub joined-ind : (P : Entries → Entries → Entries → Type 0) → ((ys : Entries) → P [] ys ys) → ((x : ℕ × ℤ) (xs : Entries) → P (x ∷ xs) [] (x ∷ xs)) → Less P → More P → Same P → (xs ys : Entries) → P xs ys (joined xs ys)
joined-ind P empty none less more same [] ys = empty ys
joined-ind P empty none less more same (x ∷ xs) ys = front P none less more same x xs (joined-ind P empty none less more same xs) ys

pub value-with_entry : (store : ℕ → ℤ) (v : ℕ) (c : ℤ) (es : Entries) → entries_value store (with_entry v c es) ≡ c *ℤ store v +ℤ entries_value store es
value-with_entry store v (pos zero) es = omega (arith, ints, zero-*ℤ (store v))
value-with_entry store v (pos (suc n)) es = refl
value-with_entry store v (negsuc n) es = refl

-- the entries of a sum have the sum of the values
pub value-joined : (store : ℕ → ℤ) (xs ys : Entries) → entries_value store (joined xs ys) ≡ entries_value store xs +ℤ entries_value store ys
value-joined store =
    joined-ind (λ xs ys zs. entries_value store zs ≡ entries_value store xs +ℤ entries_value store ys)
    (λ ys. omega (arith, ints))
    (λ x xs. omega (arith, ints))
    (λ x y xs ys zs h k. omega (arith, ints, k))
    (λ x y xs ys zs h k. omega (arith, ints, k))
    (λ x y xs ys zs h k. omega (arith, ints, k, value-with_entry store x.0 (x.1 +ℤ y.1) zs, +ℤ-*ℤ x.1 y.1 (store x.0), ap (λ v. y.1 *ℤ store v) h))

AllAbove-lower : (v w : ℕ) (es : Entries) → v < w → AllAbove w es → AllAbove v es
AllAbove-lower v w [] h k = tt
AllAbove-lower v w (e ∷ es) h k = (omega (arith, k.0), AllAbove-lower v w es h k.1)

pub AllAbove-with_entry : (u v : ℕ) (c : ℤ) (es : Entries) → u < v → AllAbove u es → AllAbove u (with_entry v c es)
AllAbove-with_entry u v (pos zero) es h k = k
AllAbove-with_entry u v (pos (suc n)) es h k = (h, k)
AllAbove-with_entry u v (negsuc n) es h k = (h, k)

pub AreEntries-with_entry : (v : ℕ) (c : ℤ) (es : Entries) → AllAbove v es → AreEntries es → AreEntries (with_entry v c es)
AreEntries-with_entry v (pos zero) es h k = k
AreEntries-with_entry v (pos (suc n)) es h k = (h, λ e. cc, k)
AreEntries-with_entry v (negsuc n) es h k = (h, λ e. cc, k)

-- joined lists keep what lists of entries keep
abbrev Keeps : Entries → Entries → Entries → Type 0
Keeps xs ys zs = ((v : ℕ) → AllAbove v xs → AllAbove v ys → AllAbove v zs) × (AreEntries xs → AreEntries ys → AreEntries zs)

Keeps-joined : (xs ys : Entries) → Keeps xs ys (joined xs ys)
Keeps-joined =
    joined-ind Keeps
    (λ ys. (λ v h k. k, λ h k. k))
    (λ x xs. (λ v h k. h, λ h k. h))
    (λ x y xs ys zs o p. (λ v h k. (h.0, p.0 v h.1 k), λ h k. (p.0 x.0 h.0 (o, AllAbove-lower x.0 y.0 ys o k.0), h.1, p.1 h.2 k)))
    (λ x y xs ys zs o p. (λ v h k. (k.0, p.0 v h k.1), λ h k. (p.0 y.0 (o, AllAbove-lower y.0 x.0 xs o h.0) k.0, k.1, p.1 h k.2)))
    (λ x y xs ys zs o p. (
      λ v h k. AllAbove-with_entry v x.0 (x.1 +ℤ y.1) zs h.0 (p.0 v h.1 k.1),
      λ h k. AreEntries-with_entry x.0 (x.1 +ℤ y.1) zs (p.0 x.0 h.0 (rw o k.0)) (p.1 h.2 k.2),
    ))

pub AreEntries-joined : (xs ys : Entries) → AreEntries xs → AreEntries ys → AreEntries (joined xs ys)
AreEntries-joined xs ys = (Keeps-joined xs ys).1
