-- Numbers of 64 bits; and what is within a narrow limit is within a wide one.
use Rattle.std.proofs.Common.{◌≡◌, ℕ, ◌<◌, ◌≤◌, ◌^◌, Some, List, [], ◌∷◌, ◌++◌, refl, sym, ap, ◌∙◌, rules, arith, ℤ, pos, ◌+ℤ◌, ◌*ℤ◌}
use Rattle.std.specs.Prelude.{IsTrue}
use mir.Syntax.{w64}
use mir.Val.{to_z, of_z}
use lib.Signed.{mag}
use Rattle.std.proofs.lemmas.Int.{to_z-of_z, fits_signed_from_abs}
use Rattle.std.proofs.lemmas.Bool.{and_from, and_parts}
use Rattle.std.proofs.lemmas.Bool.Decides.{nat_tests}
use Rattle.st_linear.specs.Linear.{is_within, are_within, joined, scaled_entries, number_within, entries_within}
use Rattle.st_linear.proofs.Withins.{number-some, entries-some}
use Rattle.elimination_laws.specs.Mixing.{mixed_number, mixed_entries}
use Rattle.elimination_laws.proofs.Mixes.{and_then-some}
use Rattle.row_elimination.proofs.Ends.{pushed}

pub to_z-narrow : (n : ℕ) (z : ℤ) → n ≤ 2 ^ 62 → IsTrue (is_within n z) → to_z w64 (of_z w64 z) ≡ z
unfolding is_within
to_z-narrow n z l h = to_z-of_z w64 z (fits_signed_from_abs w64 z (grind (arith, nat_tests)))

pub to_z-whole : (z : ℤ) → mag z < 2 ^ 63 → to_z w64 (of_z w64 z) ≡ z
to_z-whole z h = to_z-of_z w64 z record { sfits = h }

pub zero-within : IsTrue (is_within (2 ^ 62) (pos 0))
unfolding is_within
zero-within = search rules

pub within-more : (a b : ℕ) (z : ℤ) → a ≤ b → IsTrue (is_within a z) → IsTrue (is_within b z)
unfolding is_within
within-more a b z h k = grind (arith, nat_tests)

pub are-more : (a b : ℕ) (es : List (ℕ × ℤ)) → a ≤ b → IsTrue (are_within a es) → IsTrue (are_within b es)
are-more a b [] h k = refl
are-more a b (e ∷ es) h k = let s = and_parts _ _ k in and_from _ _ (within-more a b e.1 h s.0) (are-more a b es h s.1)

number-more : (a b : ℕ) (z s : ℤ) → a ≤ b → number_within a z ≡ Some s → number_within b z ≡ Some s
number-more a b z s h k = let n = number-some a z s k in rw (within-more a b z h n.1, n.0) refl

entries-more : (a b : ℕ) (es r : List (ℕ × ℤ)) → a ≤ b → entries_within a es ≡ Some r → entries_within b es ≡ Some r
unfolding entries_within
entries-more a b es r h k = let n = entries-some a es r k in rw (are-more a b es h n.1, n.0) refl

pub mixed_number-more : (a b : ℕ) (x p y q r : ℤ) → a ≤ b → mixed_number a x p y q ≡ Some r → mixed_number b x p y q ≡ Some r
unfolding mixed_number
mixed_number-more a b x p y q r h k =
    let s = and_then-some _ (number_within a (p *ℤ x)) r k in
    let t = and_then-some _ (number_within a (q *ℤ y)) r s.2 in
    rw (number-more a b (p *ℤ x) s.0 h s.1, number-more a b (q *ℤ y) t.0 h t.1) (number-more a b (s.0 +ℤ t.0) r h t.2)

pub mixed_entries-more : (a b : ℕ) (x : ℤ) (xs : List (ℕ × ℤ)) (y : ℤ) (ys r : List (ℕ × ℤ)) → a ≤ b → mixed_entries a x xs y ys ≡ Some r → mixed_entries b x xs y ys ≡ Some r
unfolding mixed_entries
mixed_entries-more a b x xs y ys r h k =
    let s = and_then-some _ (entries_within a (scaled_entries x xs)) r k in
    let t = and_then-some _ (entries_within a (scaled_entries y ys)) r s.2 in
    rw (entries-more a b (scaled_entries x xs) s.0 h s.1, entries-more a b (scaled_entries y ys) t.0 h t.1) (entries-more a b (joined s.0 t.0) r h t.2)

pub pushed-is : (n : ℕ) (out new : List (ℕ × ℤ)) (by : ℤ) (es : List (ℕ × ℤ)) → new ≡ out ++ scaled_entries by es → IsTrue (are_within n (scaled_entries by es)) → pushed n out by es ≡ Some new
unfolding entries_within
pushed-is n out new by es e h = rw (h, e) refl

pub narrow-zero : (n : ℕ) (z : ℤ) → n ≤ 2 ^ 62 → IsTrue (is_within n z) → of_z w64 z ≡ 0 → z ≡ pos 0
narrow-zero n z l h e = sym (to_z-narrow n z l h) ∙ ap (to_z w64) e
