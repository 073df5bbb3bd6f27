-- Multiples within bounds: those of a sum of two rows are within the sum of the bounds.
use Rattle.std.proofs.Common.{◌≡◌, ℕ, zero, suc, ◌+◌, ◌*◌, ◌<◌, ◌≤◌, ◌^◌, Bool, true, false, List, [], ◌∷◌, ◌++◌, length, get_or, refl, sym, arith, ℤ, pos, negsuc, ◌+ℤ◌, ◌*ℤ◌, Some}
use Rattle.std.specs.Prelude.{IsTrue, unsigned_abs, if◌then◌else◌}
use Rattle.std.proofs.lemmas.Bool.{and_from, and_parts}
use Rattle.std.proofs.lemmas.Bool.Decides.{nat_tests}
use Rattle.std.proofs.lemmas.Int.{ints, unsigned_abs-mul}
use Rattle.std.proofs.Math.Nat.{mul-le-mul_left}
use Rattle.st_linear.specs.Linear.{is_within, are_within, joined, with_entry, scaled_entries, entries_within}
use Rattle.st_linear.proofs.Joined.{joined-ind}
use Rattle.elimination_laws.specs.Mixing.{Tracked, mixed_entries}
use Rattle.lean_elimination.specs.declared.row.Row.{Row}
use Rattle.lean_elimination.specs.Arenas.{row_at, are_bounded, tracks, tracked_row}
use Rattle.lean_elimination.proofs.Growing.{tracks-push, length-tracks}
use Rattle.lean_elimination.proofs.Narrowing.{are-more, within-more}

abbrev Entries : Type 0
Entries = List (ℕ × ℤ)

with_entry-up : (n v : ℕ) (c : ℤ) (es : Entries) → IsTrue (is_within n c) → IsTrue (are_within n es) → IsTrue (are_within n (with_entry v c es))
with_entry-up n v (pos zero) es h k = k
with_entry-up n v (pos (suc m)) es h k = and_from _ _ h k
with_entry-up n v (negsuc m) es h k = and_from _ _ h k

times-up : (c x b : ℕ) → c ≤ b → c * x ≤ x * b
times-up c x b h = omega (arith, mul-le-mul_left x h)

product-up : (b : ℕ) (c x : ℤ) → IsTrue (is_within (b + 1) c) → IsTrue (is_within (unsigned_abs x * b + 1) (c *ℤ x))
unfolding is_within
product-up b c x h =
    let l : unsigned_abs c ≤ b = grind (arith, nat_tests) in
    let m : unsigned_abs c * unsigned_abs x ≤ unsigned_abs x * b = times-up (unsigned_abs c) (unsigned_abs x) b l in
    rw (unsigned_abs-mul c x) (grind (arith, nat_tests))

scaled-up : (b : ℕ) (x : ℤ) (es : Entries) → IsTrue (are_within (b + 1) es) → IsTrue (are_within (unsigned_abs x * b + 1) (scaled_entries x es))
scaled-up b x [] h = refl
scaled-up b x (e ∷ es) h = let s = and_parts _ _ h in with_entry-up _ e.0 (e.1 *ℤ x) (scaled_entries x es) (product-up b e.1 x s.0) (scaled-up b x es s.1)

sum-up : (a b : ℕ) (p q : ℤ) → IsTrue (is_within (a + 1) p) → IsTrue (is_within (b + 1) q) → IsTrue (is_within (a + b + 1) (p +ℤ q))
unfolding is_within
sum-up a b p q h k =
    let l : unsigned_abs p ≤ a = grind (arith, nat_tests) in
    let m : unsigned_abs q ≤ b = grind (arith, nat_tests) in
    let n : unsigned_abs (p +ℤ q) ≤ a + b = omega (arith, ints) in
    grind (arith, nat_tests)

cons-up : (n v : ℕ) (c : ℤ) (es : Entries) → IsTrue (is_within n c) → IsTrue (are_within n es) → IsTrue (are_within n ((v, c) ∷ es))
cons-up n v c es h k = and_from _ _ h k

joined-up : (a b : ℕ) (xs ys : Entries) → IsTrue (are_within (a + 1) xs) → IsTrue (are_within (b + 1) ys) → IsTrue (are_within (a + b + 1) (joined xs ys))
joined-up a b =
    joined-ind (λ xs ys zs. IsTrue (are_within (a + 1) xs) → IsTrue (are_within (b + 1) ys) → IsTrue (are_within (a + b + 1) zs))
    (λ ys h k. are-more (b + 1) (a + b + 1) ys (omega arith) k)
    (λ x xs h k. are-more (a + 1) (a + b + 1) (x ∷ xs) (omega arith) h)
    (λ x y xs ys zs o p h k. let s = and_parts _ _ h in cons-up _ x.0 x.1 zs (within-more (a + 1) (a + b + 1) x.1 (omega arith) s.0) (p s.1 k))
    (λ x y xs ys zs o p h k. let s = and_parts _ _ k in cons-up _ y.0 y.1 zs (within-more (b + 1) (a + b + 1) y.1 (omega arith) s.0) (p h s.1))
    (λ x y xs ys zs o p h k. let s = and_parts _ _ h in let t = and_parts _ _ k in with_entry-up _ x.0 (x.1 +ℤ y.1) zs (sum-up a b x.1 y.1 s.0 t.0) (p s.1 t.1))

-- multiples that are bounded so have a sum
pub record IsBoundedMix (n : ℕ) (x : ℤ) (ps : Entries) (y : ℤ) (qs : Entries) : Type 0 where
  pub sum : Entries
  pub is : mixed_entries (2 ^ 40) x ps y qs ≡ Some sum
  pub within : IsTrue (are_within (n + 1) sum)

pub bounded-mix : (a b n : ℕ) (x : ℤ) (ps : Entries) (y : ℤ) (qs : Entries) → IsTrue (are_within (a + 1) ps) → IsTrue (are_within (b + 1) qs) → n ≡ unsigned_abs x * a + unsigned_abs y * b → n < 2 ^ 16 → IsBoundedMix n x ps y qs
unfolding mixed_entries entries_within
bounded-mix a b n x ps y qs h k e l =
    let p = scaled-up a x ps h in
    let q = scaled-up b y qs k in
    let s = joined-up (unsigned_abs x * a) (unsigned_abs y * b) (scaled_entries x ps) (scaled_entries y qs) p q in
    let p' = are-more (unsigned_abs x * a + 1) (2 ^ 40) _ (omega (arith, e, l)) p in
    let q' = are-more (unsigned_abs y * b + 1) (2 ^ 40) _ (omega (arith, e, l)) q in
    let s' = are-more (unsigned_abs x * a + unsigned_abs y * b + 1) (2 ^ 40) _ (omega (arith, e, l)) s in
    record {
      sum = joined (scaled_entries x ps) (scaled_entries y qs);
      is = rw (p', q', s') refl;
      within = rw e s;
    }

-- the bounds of an arena's rows
pub bounded-push : (rs : List Row) (ts : List Tracked) (r : Row) (t : Tracked) → length rs ≡ length ts → IsTrue (are_bounded rs ts) → IsTrue (are_within (r.bound + 1) t.picks) → IsTrue (are_bounded (rs ++ r ∷ []) (ts ++ t ∷ []))
bounded-push [] [] r t e h k = and_from _ _ k refl
bounded-push [] (u ∷ us) r t e h k = absurd (omega (arith, e))
bounded-push (q ∷ qs) [] r t e h k = absurd (omega (arith, e))
bounded-push (q ∷ qs) (u ∷ us) r t e h k = let s = and_parts _ _ h in and_from _ _ s.0 (bounded-push qs us r t (omega (arith, e)) s.1 k)

pub bounded-at : (rs : List Row) (ts : List Tracked) (k : ℕ) (d : Row) → IsTrue (are_bounded rs ts) → k < length rs → IsTrue (are_within ((get_or rs k d).bound + 1) (row_at ts k).picks)
bounded-at [] ts k d h l = absurd (omega arith)
bounded-at (r ∷ rs) [] k d h l = absurd (cc)
bounded-at (r ∷ rs) (t ∷ ts) zero d h l = (and_parts _ _ h).0
bounded-at (r ∷ rs) (t ∷ ts) (suc k) d h l = bounded-at rs ts k d (and_parts _ _ h).1 (omega arith)

pub bounded-if : (b : Bool) (rs new : List Row) (r : Row) → new ≡ (if b then rs ++ r ∷ [] else rs) → IsTrue (are_bounded rs (tracks rs)) → IsTrue (are_within (r.bound + 1) (tracked_row (tracks rs) r).picks) → IsTrue (are_bounded new (tracks new))
bounded-if true rs new r e h k = rw (e, tracks-push rs r) (bounded-push rs (tracks rs) r (tracked_row (tracks rs) r) (sym (length-tracks rs)) h k)
bounded-if false rs new r e h k = rw e h
