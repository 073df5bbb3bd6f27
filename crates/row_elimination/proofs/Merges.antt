-- The merge of multiples of two lists of entries, step by step: what was put out, and what is left of the two.
use Rattle.std.proofs.Common.{◌≡◌, ◌≢◌, ℕ, zero, suc, ◌<◌, Bool, true, false, cond, Option, Some, None, List, [], ◌++◌, length, get_or, drop, ◌+◌, refl, ◌∙◌, sym, ℤ, pos, negsuc, ◌+ℤ◌, ◌*ℤ◌}
use Rattle.std.specs.Prelude.{IsTrue, option_and_then}
use Rattle.std.specs.Option.{option_map}
use Rattle.std.proofs.lemmas.List.{drop_more}
use Rattle.std.proofs.Math.IntN.{zero-*ℤ}
use Rattle.st_linear.specs.Linear.{joined, with_entry, scaled_entries, is_within, are_within, number_within}
use Rattle.st_linear.proofs.Joins.{none, joined_up}
use Rattle.st_linear.proofs.Withins.{are_within-joint, number-some}
use Rattle.elimination_laws.specs.Mixing.{mixed_number}
use Rattle.row_elimination.proofs.Fronts.{vanished, front-less, front-more, front-same}

abbrev pub Entries : Type 0
Entries = List (ℕ × ℤ)

-- what is left of two lists that are multiplied and merged: the number n is the limit, X and Y are the whole multiples
pub record IsMerging (n : ℕ) (X Y out left right : Entries) : Type 0 where
  pub same : out ++ joined left right ≡ joined X Y
  pub out_within : IsTrue (are_within n out)
  pub first : are_within n left ≡ are_within n X
  pub second : are_within n right ≡ are_within n Y

pub with_entry-within : (n v : ℕ) (c : ℤ) (es : Entries) → IsTrue (is_within n c) → are_within n (with_entry v c es) ≡ are_within n es
with_entry-within n v (pos zero) es h = refl
with_entry-within n v (pos (suc m)) es h = rw h
with_entry-within n v (negsuc m) es h = rw h

-- a step in each of the lists, and in both
merging-first : (n v : ℕ) (p : ℤ) (X Y out rest right : Entries) → IsMerging n X Y out (with_entry v p rest) right → joined (with_entry v p rest) right ≡ with_entry v p (joined rest right) → IsTrue (is_within n p) → IsMerging n X Y (out ++ with_entry v p []) rest right
merging-first n v p X Y out rest right m e h = record {
  same = joined_up out _ (joined rest right) _ v p m.same e;
  out_within = are_within-joint n out v p m.out_within h;
  first = sym (with_entry-within n v p rest h) ∙ m.first;
  second = m.second;
}

merging-second : (n w : ℕ) (q : ℤ) (X Y out left rest : Entries) → IsMerging n X Y out left (with_entry w q rest) → joined left (with_entry w q rest) ≡ with_entry w q (joined left rest) → IsTrue (is_within n q) → IsMerging n X Y (out ++ with_entry w q []) left rest
merging-second n w q X Y out left rest m e h = record {
  same = joined_up out _ (joined left rest) _ w q m.same e;
  out_within = are_within-joint n out w q m.out_within h;
  first = m.first;
  second = sym (with_entry-within n w q rest h) ∙ m.second;
}

merging-both : (n v w : ℕ) (p q : ℤ) (X Y out left right : Entries) → IsMerging n X Y out (with_entry v p left) (with_entry w q right) → joined (with_entry v p left) (with_entry w q right) ≡ with_entry v (p +ℤ q) (joined left right) → IsTrue (is_within n p) → IsTrue (is_within n q) → IsTrue (is_within n (p +ℤ q)) → IsMerging n X Y (out ++ with_entry v (p +ℤ q) []) left right
merging-both n v w p q X Y out left right m e h k l = record {
  same = joined_up out _ (joined left right) _ v (p +ℤ q) m.same e;
  out_within = are_within-joint n out v (p +ℤ q) m.out_within l;
  first = sym (with_entry-within n v p left h) ∙ m.first;
  second = sym (with_entry-within n w q right k) ∙ m.second;
}

-- the merge at two places of the lists
abbrev pub Merging : ℕ → ℤ → Entries → ℤ → Entries → Entries → ℕ → ℕ → Type 0
Merging n x xs y ys out i j = IsMerging n (scaled_entries x xs) (scaled_entries y ys) out (scaled_entries x (drop i xs)) (scaled_entries y (drop j ys))

pub merging-init : (n : ℕ) (x : ℤ) (xs : Entries) (y : ℤ) (ys : Entries) → Merging n x xs y ys [] 0 0
merging-init n x xs y ys = record { same = refl; out_within = refl; first = refl; second = refl }

pub multiples-more : (x : ℤ) (xs : Entries) (i : ℕ) → i < length xs → scaled_entries x (drop i xs) ≡ with_entry (get_or xs i none).0 ((get_or xs i none).1 *ℤ x) (scaled_entries x (drop (i + 1) xs))
multiples-more x xs i h = rw (drop_more xs i none)

-- an entry of 0 is passed by
multiples-same : (x : ℤ) (xs : Entries) (i : ℕ) → i < length xs → (get_or xs i none).1 ≡ pos 0 → scaled_entries x (drop i xs) ≡ scaled_entries x (drop (i + 1) xs)
multiples-same x xs i h k = multiples-more x xs i h ∙ rw (k, zero-*ℤ x) refl

pub merges-first_none : (n : ℕ) (x : ℤ) (xs : Entries) (y : ℤ) (ys out : Entries) (i j : ℕ) → Merging n x xs y ys out i j → i < length xs → (get_or xs i none).1 ≡ pos 0 → Merging n x xs y ys out (i + 1) j
merges-first_none n x xs y ys out i j m h k = rw (multiples-same x xs i h k) at m

pub merges-second_none : (n : ℕ) (x : ℤ) (xs : Entries) (y : ℤ) (ys out : Entries) (i j : ℕ) → Merging n x xs y ys out i j → j < length ys → (get_or ys j none).1 ≡ pos 0 → Merging n x xs y ys out i (j + 1)
merges-second_none n x xs y ys out i j m h k = rw (multiples-same y ys j h k) at m

pub merges-first : (n : ℕ) (x : ℤ) (xs : Entries) (y : ℤ) (ys out : Entries) (i j : ℕ) → Merging n x xs y ys out i j → i < length xs → j < length ys → (get_or ys j none).1 ≢ pos 0 → (get_or xs i none).0 < (get_or ys j none).0 → IsTrue (is_within n ((get_or xs i none).1 *ℤ x)) → Merging n x xs y ys (out ++ with_entry (get_or xs i none).0 ((get_or xs i none).1 *ℤ x) []) (i + 1) j
merges-first n x xs y ys out i j m h k z l w =
    merging-first n _ _ _ _ out _ _ (rw (multiples-more x xs i h) at m)
    (rw (multiples-more y ys j k) (front-less _ _ _ _ _ _ (vanished y (get_or ys j none) _ z) l))
    w

pub merges-second : (n : ℕ) (x : ℤ) (xs : Entries) (y : ℤ) (ys out : Entries) (i j : ℕ) → Merging n x xs y ys out i j → i < length xs → j < length ys → (get_or xs i none).1 ≢ pos 0 → (get_or ys j none).0 < (get_or xs i none).0 → IsTrue (is_within n ((get_or ys j none).1 *ℤ y)) → Merging n x xs y ys (out ++ with_entry (get_or ys j none).0 ((get_or ys j none).1 *ℤ y) []) i (j + 1)
merges-second n x xs y ys out i j m h k z l w =
    merging-second n _ _ _ _ out _ _ (rw (multiples-more y ys j k) at m)
    (rw (multiples-more x xs i h) (front-more _ _ _ _ _ _ (vanished x (get_or xs i none) _ z) l))
    w

-- a sum of two products, each of the three looked at
parts : (n : ℕ) (b c : Bool) (p q s : ℤ) → option_and_then (λ p. option_and_then (λ q. number_within n (p +ℤ q)) (cond c (Some q) None)) (cond b (Some p) None) ≡ Some s → IsTrue b × IsTrue c × (number_within n (p +ℤ q) ≡ Some s)
parts n true true p q s h = (refl, refl, h)
parts n true false p q s h = absurd (cc)
parts n false c p q s h = absurd (cc)

pub record AreWithin (n : ℕ) (p q s : ℤ) : Type 0 where
  pub first : IsTrue (is_within n p)
  pub second : IsTrue (is_within n q)
  pub sum : IsTrue (is_within n (p +ℤ q))
  pub is : p +ℤ q ≡ s

pub mixed_number-some : (n : ℕ) (x a y b s : ℤ) → mixed_number n x a y b ≡ Some s → AreWithin n (a *ℤ x) (b *ℤ y) s
unfolding mixed_number
mixed_number-some n x a y b s h =
    let p = parts n (is_within n (a *ℤ x)) (is_within n (b *ℤ y)) (a *ℤ x) (b *ℤ y) s h in
    let e = number-some n _ _ p.2 in
    record { first = p.0; second = p.1; sum = e.1; is = e.0 }

pub merges-both : (n : ℕ) (x : ℤ) (xs : Entries) (y : ℤ) (ys out : Entries) (i j : ℕ) (s : ℤ) → Merging n x xs y ys out i j → i < length xs → j < length ys → (get_or xs i none).1 ≢ pos 0 → (get_or ys j none).1 ≢ pos 0 → (get_or xs i none).0 ≡ (get_or ys j none).0 → AreWithin n ((get_or xs i none).1 *ℤ x) ((get_or ys j none).1 *ℤ y) s → Merging n x xs y ys (out ++ with_entry (get_or xs i none).0 ((get_or xs i none).1 *ℤ x +ℤ (get_or ys j none).1 *ℤ y) []) (i + 1) (j + 1)
merges-both n x xs y ys out i j s m h k z w l a =
    merging-both n _ _ _ _ _ _ out _ _ (rw (multiples-more x xs i h, multiples-more y ys j k) at m)
    (front-same _ _ _ _ _ _ (vanished x (get_or xs i none) _ z) (vanished y (get_or ys j none) _ w) l)
    a.first a.second a.sum

-- an entry that is multiplied and appended
appended_by : (b : Bool) (out : Entries) (v : ℕ) (z : ℤ) (r : Entries) → option_map (λ c. out ++ with_entry v c []) (cond b (Some z) None) ≡ Some r → (out ++ with_entry v z [] ≡ r) × IsTrue b
appended_by true out v z r h = (cc, refl)
appended_by false out v z r h = absurd (cc)

pub appended-some : (n : ℕ) (out : Entries) (v : ℕ) (z : ℤ) (r : Entries) → option_map (λ c. out ++ with_entry v c []) (number_within n z) ≡ Some r → (out ++ with_entry v z [] ≡ r) × IsTrue (is_within n z)
appended-some n out v z r h = appended_by (is_within n z) out v z r h

not_appended_by : (o : Option ℤ) (out : Entries) (v : ℕ) → option_map (λ c. out ++ with_entry v c []) o ≡ None → o ≡ None
not_appended_by None out v h = refl
not_appended_by (Some z) out v h = absurd (cc)

pub appended-none : (n : ℕ) (out : Entries) (v : ℕ) (z : ℤ) → option_map (λ c. out ++ with_entry v c []) (number_within n z) ≡ None → number_within n z ≡ None
appended-none n out v z h = not_appended_by (number_within n z) out v h
