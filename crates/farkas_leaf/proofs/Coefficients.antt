-- Coefficients of variables in lists of entries, in sums and in multiples.
use Rattle.std.proofs.Common.{◌≡◌, ◌≢◌, ℕ, ◌+◌, ◌<◌, ◌≤◌, ◌^◌, Bool, true, false, List, [], ◌∷◌, length, drop, get_or, refl, ap, ◌∙◌, sym, arith, ℤ, pos, negsuc, zero, suc, ◌+ℤ◌, ◌*ℤ◌, All, inl, inr}
use Rattle.std.specs.Prelude.{◌==◌, if◌then◌else◌, unsigned_abs}
use Rattle.std.proofs.lemmas.Int.{ints}
use Rattle.std.proofs.lemmas.List.{drop_more}
use Rattle.std.proofs.lemmas.List.Elements.{All-drop}
use Rattle.std.proofs.lemmas.Bool.{cases_eq}
use Rattle.std.proofs.lemmas.Bool.Decides.{nat_tests}
use Rattle.std.proofs.Math.IntN.{zero-*ℤ}
use Rattle.st_linear.specs.Linear.{joined, scaled_entries, with_entry, AllAbove, AreEntries}
use Rattle.st_linear.proofs.Ints.{+ℤ-*ℤ}
use Rattle.st_linear.proofs.Joined.{joined-ind}
use Rattle.st_linear.proofs.Joins.{none}
use Rattle.farkas_leaf.specs.Lines.{coefficient}

abbrev Entries : Type 0
Entries = List (ℕ × ℤ)

coefficient-with_entry : (v w : ℕ) (c : ℤ) (es : Entries) → coefficient v (with_entry w c es) ≡ (if w == v then c else pos 0) +ℤ coefficient v es
coefficient-with_entry v w (pos zero) es = elim (w == v) as (λ b. coefficient v es ≡ (if b then pos 0 else pos 0) +ℤ coefficient v es) [ true ↦ omega (arith, ints) | false ↦ omega (arith, ints) ]
coefficient-with_entry v w (pos (suc n)) es = refl
coefficient-with_entry v w (negsuc n) es = refl

part_sum : (b : Bool) (x y : ℤ) → (if b then x +ℤ y else pos 0) ≡ (if b then x else pos 0) +ℤ (if b then y else pos 0)
part_sum true x y = refl
part_sum false x y = refl

part_scaled : (b : Bool) (x c : ℤ) → (if b then x *ℤ c else pos 0) ≡ (if b then x else pos 0) *ℤ c
part_scaled true x c = refl
part_scaled false x c = sym (zero-*ℤ c)

pub coefficient-joined : (v : ℕ) (xs ys : Entries) → coefficient v (joined xs ys) ≡ coefficient v xs +ℤ coefficient v ys
coefficient-joined v =
    joined-ind (λ xs ys zs. coefficient v zs ≡ coefficient v xs +ℤ coefficient v ys)
    (λ ys. omega (arith, ints))
    (λ x xs. omega (arith, ints))
    (λ x y xs ys zs h k. omega (arith, ints, k))
    (λ x y xs ys zs h k. omega (arith, ints, k))
    (λ x y xs ys zs h k. omega (arith, ints, k, coefficient-with_entry v x.0 (x.1 +ℤ y.1) zs, part_sum (x.0 == v) x.1 y.1, ap (λ w. if w == v then y.1 else pos 0) h))

pub coefficient-scaled : (v : ℕ) (c : ℤ) (es : Entries) → coefficient v (scaled_entries c es) ≡ coefficient v es *ℤ c
coefficient-scaled v c [] = sym (zero-*ℤ c)
coefficient-scaled v c (e ∷ es) =
    omega (arith, ints, coefficient-with_entry v e.0 (e.1 *ℤ c) (scaled_entries c es), coefficient-scaled v c es, part_scaled (e.0 == v) e.1 c, +ℤ-*ℤ (if e.0 == v then e.1 else pos 0) (coefficient v es) c)

coefficient-above : (v w : ℕ) (es : Entries) → v ≤ w → AllAbove w es → coefficient v es ≡ pos 0
coefficient-above v w [] h k = refl
coefficient-above v w (e ∷ es) h k = let t : (e.0 == v) ≡ false = grind (arith, nat_tests) in rw (t, coefficient-above v w es h k.1)

-- the coefficient of an entry's own variable, of others, and of variables before all entries
coefficient-first : (v : ℕ) (x : ℕ × ℤ) (es : Entries) → AreEntries (x ∷ es) → x.0 ≡ v → coefficient v (x ∷ es) ≡ x.1
coefficient-first v x es k e =
    let t : (x.0 == v) ≡ true = grind (arith, nat_tests) in
    let rest = coefficient-above v x.0 es (omega arith) k.0 in
    rw (t, rest) (omega (arith, ints))

coefficient-other : (v : ℕ) (x : ℕ × ℤ) (es : Entries) → x.0 ≢ v → coefficient v (x ∷ es) ≡ coefficient v es
coefficient-other v x es n = let t : (x.0 == v) ≡ false = grind (arith, nat_tests) in rw t (omega (arith, ints))

coefficient-before : (v : ℕ) (x : ℕ × ℤ) (es : Entries) → AreEntries (x ∷ es) → v < x.0 → coefficient v (x ∷ es) ≡ pos 0
coefficient-before v x es k h = coefficient-other v x es (λ e. omega (arith, e)) ∙ coefficient-above v x.0 es (omega arith) k.0

-- a list of entries has no variable where each coefficient is 0
pub no_entries : (es : Entries) → AreEntries es → ((v : ℕ) → coefficient v es ≡ pos 0) → es ≡ []
no_entries [] h z = refl
no_entries (e ∷ es) h z = absurd (h.1 (sym (coefficient-first e.0 e es h refl) ∙ z e.0))

-- a coefficient is one of the numbers, or 0
pub coefficient-slim : (v : ℕ) (es : Entries) → AreEntries es → All (λ e. unsigned_abs e.1 < 2 ^ 70) es → unsigned_abs (coefficient v es) < 2 ^ 70
coefficient-slim v [] h k = omega arith
coefficient-slim v (e ∷ es) h k =
    elim (cases_eq e.0 v) [
      | inl same ↦ rw (coefficient-first v e es h same) (k 0 none (omega arith))
      | inr other ↦ rw (coefficient-other v e es other) (coefficient-slim v es h.2 (λ i d l. k (suc i) d (omega arith)))
    ]

-- what the entry that comes next has to do with the entries that are left
pub left-own : (v : ℕ) (es : Entries) (i : ℕ) → i < length es → AreEntries (drop i es) → (get_or es i none).0 ≡ v → coefficient v (drop i es) ≡ (get_or es i none).1 +ℤ coefficient v (drop (i + 1) es)
left-own v es i h k e =
    let t : ((get_or es i none).0 == v) ≡ true = grind (arith, nat_tests) in
    rw (drop_more es i none h, t)

pub left-other : (v : ℕ) (es : Entries) (i : ℕ) → i < length es → (get_or es i none).0 ≢ v → coefficient v (drop i es) ≡ coefficient v (drop (i + 1) es)
left-other v es i h n = rw (drop_more es i none h) (coefficient-other v _ (drop (i + 1) es) n)

pub left-before : (v : ℕ) (es : Entries) (i : ℕ) → i < length es → AreEntries (drop i es) → v < (get_or es i none).0 → coefficient v (drop i es) ≡ pos 0
left-before v es i h k l = rw (drop_more es i none h) (coefficient-before v _ (drop (i + 1) es) (rw (drop_more es i none h) at k) l)

pub left-kept : (es : Entries) (i : ℕ) → i < length es → AreEntries (drop i es) → AreEntries (drop (i + 1) es)
left-kept es i h k = (rw (drop_more es i none h) at k).2

pub left-slim : (v : ℕ) (es : Entries) (i : ℕ) → AreEntries (drop i es) → All (λ e. unsigned_abs e.1 < 2 ^ 70) es → unsigned_abs (coefficient v (drop i es)) < 2 ^ 70
left-slim v es i h k = coefficient-slim v (drop i es) h (All-drop (λ (e : ℕ × ℤ). unsigned_abs e.1 < 2 ^ 70) i es k)
