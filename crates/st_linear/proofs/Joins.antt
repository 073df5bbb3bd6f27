-- The merge of two lists of entries, step by step, and what is kept of small numbers.
use Rattle.std.proofs.Common.{◌≡◌, ℕ, zero, suc, ◌+◌, ◌<◌, ◌≤◌, List, [], ◌∷◌, ◌++◌, length, get_or, drop, take, ◌-◌, ◌^◌, length-drop, refl, ◌∙◌, sym, arith, ℤ, pos, negsuc, ◌+ℤ◌, append_assoc, append-nil, None, Some, ◌⊎◌, inl, inr}
use Rattle.std.specs.Prelude.{IsTrue, false}
use Rattle.std.proofs.lemmas.List.{drop_more, take_all}
use mir.Syntax.{w128}
use mir.Val.{to_z, of_z}
use Rattle.std.proofs.Math.ListN.{drop_of_length-le}
use Rattle.std.proofs.lemmas.Bool.Decides.{nat_tests}
use Rattle.st_linear.specs.Linear.{is_small, are_small, joined, with_entry, small}
use Rattle.st_linear.proofs.Withins.{are_within-at, number-some, number-none, to_z-within}

joined-cons-less : (x y : ℕ × ℤ) (xs ys : List (ℕ × ℤ)) → x.0 < y.0 → joined (x ∷ xs) (y ∷ ys) ≡ x ∷ joined xs (y ∷ ys)
joined-cons-less x y xs ys h = grind (arith, nat_tests)

joined-cons-more : (x y : ℕ × ℤ) (xs ys : List (ℕ × ℤ)) → y.0 < x.0 → joined (x ∷ xs) (y ∷ ys) ≡ y ∷ joined (x ∷ xs) ys
joined-cons-more x y xs ys h = grind (arith, nat_tests)

joined-cons-same : (x y : ℕ × ℤ) (xs ys : List (ℕ × ℤ)) → x.0 ≤ y.0 → y.0 ≤ x.0 → joined (x ∷ xs) (y ∷ ys) ≡ with_entry x.0 (x.1 +ℤ y.1) (joined xs ys)
joined-cons-same x y xs ys h k = grind (arith, nat_tests)

abbrev pub none : ℕ × ℤ
none = (0, pos 0)

pub joined-less : (xs ys : List (ℕ × ℤ)) (i j : ℕ) → i < length xs → j < length ys → (get_or xs i none).0 < (get_or ys j none).0 → joined (drop i xs) (drop j ys) ≡ get_or xs i none ∷ joined (drop (i + 1) xs) (drop j ys)
joined-less xs ys i j h k l = rw (drop_more xs i none, drop_more ys j none) (joined-cons-less _ _ _ _ l)

pub joined-more : (xs ys : List (ℕ × ℤ)) (i j : ℕ) → i < length xs → j < length ys → (get_or ys j none).0 < (get_or xs i none).0 → joined (drop i xs) (drop j ys) ≡ get_or ys j none ∷ joined (drop i xs) (drop (j + 1) ys)
joined-more xs ys i j h k l = rw (drop_more xs i none, drop_more ys j none) (joined-cons-more _ _ _ _ l)

pub joined-same : (xs ys : List (ℕ × ℤ)) (i j : ℕ) → i < length xs → j < length ys → (get_or xs i none).0 ≤ (get_or ys j none).0 → (get_or ys j none).0 ≤ (get_or xs i none).0 → joined (drop i xs) (drop j ys) ≡ with_entry (get_or xs i none).0 ((get_or xs i none).1 +ℤ (get_or ys j none).1) (joined (drop (i + 1) xs) (drop (j + 1) ys))
joined-same xs ys i j h k l m = rw (drop_more xs i none, drop_more ys j none) (joined-cons-same _ _ _ _ l m)

-- one entry goes from what is left to what is done
pub pushed : (out left rest whole : List (ℕ × ℤ)) (x : ℕ × ℤ) → out ++ left ≡ whole → left ≡ x ∷ rest → (out ++ x ∷ []) ++ rest ≡ whole
pushed out left rest whole x h k = rw append_assoc (rw (← k) h)

pub joined_up : (out left rest whole : List (ℕ × ℤ)) (v : ℕ) (c : ℤ) → out ++ left ≡ whole → left ≡ with_entry v c rest → (out ++ with_entry v c []) ++ rest ≡ whole
joined_up out left rest whole v (pos zero) h k = rw append_assoc (rw (← k) h)
joined_up out left rest whole v (pos (suc n)) h k = rw append_assoc (rw (← k) h)
joined_up out left rest whole v (negsuc n) h k = rw append_assoc (rw (← k) h)

joined-nil : (xs : List (ℕ × ℤ)) → joined xs [] ≡ xs
joined-nil [] = refl
joined-nil (x ∷ xs) = refl

-- nothing is left on one side
pub joined-done : (xs ys : List (ℕ × ℤ)) (i j : ℕ) → (length xs ≤ i) ⊎ (length ys ≤ j) → joined (drop i xs) (drop j ys) ≡ drop i xs ++ drop j ys
joined-done xs ys i j (inl h) = rw (drop_of_length-le xs h)
joined-done xs ys i j (inr h) = rw (drop_of_length-le ys h) (joined-nil _ ∙ sym (append-nil _))

take-rest : (xs : List (ℕ × ℤ)) (i : ℕ) → take (length xs - i) (drop i xs) ≡ drop i xs
take-rest xs i = take_all _ (drop i xs) (omega (arith, length-drop i xs))

-- what is left on both sides goes to the end
pub joined-rest : (out xs ys : List (ℕ × ℤ)) (i j : ℕ) → (length xs ≤ i) ⊎ (length ys ≤ j) → out ++ joined (drop i xs) (drop j ys) ≡ joined xs ys → (out ++ take (length xs - i) (drop i xs)) ++ take (length ys - j) (drop j ys) ≡ joined xs ys
joined-rest out xs ys i j h k = rw (take-rest xs i, take-rest ys j, append_assoc, ← joined-done xs ys i j h) k

-- the same facts at the limit of forms
pub are_small-at : (xs : List (ℕ × ℤ)) (i : ℕ) → IsTrue (are_small xs) → i < length xs → IsTrue (is_small (get_or xs i none).1)
are_small-at = are_within-at (2 ^ 100)

pub small-some : (z s : ℤ) → small z ≡ Some s → (z ≡ s) × IsTrue (is_small z)
small-some = number-some (2 ^ 100)

pub small-none : (z : ℤ) → small z ≡ None → is_small z ≡ false
small-none = number-none (2 ^ 100)

pub to_z-small : (z : ℤ) → IsTrue (is_small z) → to_z w128 (of_z w128 z) ≡ z
to_z-small z h = to_z-within (2 ^ 100) z (omega arith) h
