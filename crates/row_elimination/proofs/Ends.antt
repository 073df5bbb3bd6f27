-- Where the merge of multiples comes to its end, or to a number that is too large.
use Rattle.std.proofs.Common.{◌≡◌, ◌≢◌, ℕ, zero, suc, ◌<◌, ◌≤◌, Bool, true, false, cond, Option, Some, None, ◌++◌, length, get_or, drop, take, ◌+◌, ◌-◌, ◌⊎◌, inl, inr, ⊎_elim, refl, ◌∙◌, sym, arith, ℤ, pos, negsuc, ◌+ℤ◌, ◌*ℤ◌, append_assoc, append-nil, length-drop}
use Rattle.std.specs.Prelude.{IsTrue, option_and_then}
use Rattle.std.specs.Option.{option_map}
use Rattle.std.proofs.lemmas.Bool.{and_from}
use Rattle.std.proofs.lemmas.Bool.Decides.{nat_tests}
use Rattle.std.proofs.lemmas.List.{take_all}
use Rattle.std.proofs.Math.ListN.{drop_of_length-le}
use Rattle.st_linear.specs.Linear.{joined, with_entry, scaled_entries, is_within, are_within, number_within, entries_within}
use Rattle.st_linear.proofs.Joins.{none}
use Rattle.st_linear.proofs.Withins.{are_within-append, entries_within-large, entries-none, number-none}
use Rattle.elimination_laws.specs.Mixing.{mixed_number, mixed_entries}
use Rattle.row_elimination.proofs.Fronts.{vanished, joined-nil, front-same}
use Rattle.row_elimination.proofs.Merges.{Entries, Merging, with_entry-within, multiples-more}

with_entry-large : (n v : ℕ) (c : ℤ) (es : Entries) → 0 < n → is_within n c ≡ false → are_within n (with_entry v c es) ≡ false
unfolding is_within
with_entry-large n v (pos zero) es z h = absurd (grind (arith, nat_tests))
with_entry-large n v (pos (suc m)) es z h = rw h
with_entry-large n v (negsuc m) es z h = rw h

-- where a multiple, or the sum, isn't within the limit there is no mix
no_first : (n : ℕ) (x : ℤ) (xs : Entries) (y : ℤ) (ys : Entries) → are_within n (scaled_entries x xs) ≡ false → mixed_entries n x xs y ys ≡ None
unfolding mixed_entries entries_within
no_first n x xs y ys h = rw h

no_second_by : (n : ℕ) (b : Bool) (X Y : Entries) → are_within n Y ≡ false → option_and_then (λ ps. option_and_then (λ qs. entries_within n (joined ps qs)) (entries_within n Y)) (cond b (Some X) None) ≡ None
unfolding entries_within
no_second_by n true X Y h = rw h
no_second_by n false X Y h = refl

no_second : (n : ℕ) (x : ℤ) (xs : Entries) (y : ℤ) (ys : Entries) → are_within n (scaled_entries y ys) ≡ false → mixed_entries n x xs y ys ≡ None
unfolding mixed_entries entries_within
no_second n x xs y ys h = no_second_by n (are_within n (scaled_entries x xs)) _ _ h

no_sum_by : (n : ℕ) (b c : Bool) (X Y : Entries) → are_within n (joined X Y) ≡ false → option_and_then (λ ps. option_and_then (λ qs. entries_within n (joined ps qs)) (cond c (Some Y) None)) (cond b (Some X) None) ≡ None
unfolding entries_within
no_sum_by n true true X Y h = rw h
no_sum_by n true false X Y h = refl
no_sum_by n false c X Y h = refl

no_sum : (n : ℕ) (x : ℤ) (xs : Entries) (y : ℤ) (ys : Entries) → are_within n (joined (scaled_entries x xs) (scaled_entries y ys)) ≡ false → mixed_entries n x xs y ys ≡ None
unfolding mixed_entries entries_within
no_sum n x xs y ys h = no_sum_by n (are_within n (scaled_entries x xs)) (are_within n (scaled_entries y ys)) _ _ h

are_mixed : (n : ℕ) (x : ℤ) (xs : Entries) (y : ℤ) (ys out : Entries) → IsTrue (are_within n (scaled_entries x xs)) → IsTrue (are_within n (scaled_entries y ys)) → IsTrue (are_within n (joined (scaled_entries x xs) (scaled_entries y ys))) → joined (scaled_entries x xs) (scaled_entries y ys) ≡ out → mixed_entries n x xs y ys ≡ Some out
unfolding mixed_entries entries_within
are_mixed n x xs y ys out h k l e = rw (h, k, l, e) refl

pub first-large : (n : ℕ) (x : ℤ) (xs : Entries) (y : ℤ) (ys out : Entries) (i j : ℕ) → Merging n x xs y ys out i j → 0 < n → i < length xs → number_within n ((get_or xs i none).1 *ℤ x) ≡ None → mixed_entries n x xs y ys ≡ None
first-large n x xs y ys out i j m z h k =
    no_first n x xs y ys (sym m.first ∙ rw (multiples-more x xs i h) (with_entry-large n _ _ _ z (number-none n _ k)))

pub second-large : (n : ℕ) (x : ℤ) (xs : Entries) (y : ℤ) (ys out : Entries) (i j : ℕ) → Merging n x xs y ys out i j → 0 < n → j < length ys → number_within n ((get_or ys j none).1 *ℤ y) ≡ None → mixed_entries n x xs y ys ≡ None
second-large n x xs y ys out i j m z h k =
    no_second n x xs y ys (sym m.second ∙ rw (multiples-more y ys j h) (with_entry-large n _ _ _ z (number-none n _ k)))

no_parts : (n : ℕ) (b c : Bool) (p q : ℤ) → option_and_then (λ p. option_and_then (λ q. number_within n (p +ℤ q)) (cond c (Some q) None)) (cond b (Some p) None) ≡ None → (b ≡ false) ⊎ ((c ≡ false) ⊎ (number_within n (p +ℤ q) ≡ None))
no_parts n true true p q h = inr (inr h)
no_parts n true false p q h = inr (inl refl)
no_parts n false c p q h = inl refl

mixed_number-none : (n : ℕ) (x a y b : ℤ) → mixed_number n x a y b ≡ None → (is_within n (a *ℤ x) ≡ false) ⊎ ((is_within n (b *ℤ y) ≡ false) ⊎ (number_within n (a *ℤ x +ℤ b *ℤ y) ≡ None))
unfolding mixed_number
mixed_number-none n x a y b h = no_parts n (is_within n (a *ℤ x)) (is_within n (b *ℤ y)) (a *ℤ x) (b *ℤ y) h

joined-both : (x : ℤ) (xs : Entries) (y : ℤ) (ys : Entries) (i j : ℕ) → i < length xs → j < length ys → (get_or xs i none).1 ≢ pos 0 → (get_or ys j none).1 ≢ pos 0 → (get_or xs i none).0 ≡ (get_or ys j none).0 → joined (scaled_entries x (drop i xs)) (scaled_entries y (drop j ys)) ≡ with_entry (get_or xs i none).0 ((get_or xs i none).1 *ℤ x +ℤ (get_or ys j none).1 *ℤ y) (joined (scaled_entries x (drop (i + 1) xs)) (scaled_entries y (drop (j + 1) ys)))
joined-both x xs y ys i j h k z w l =
    rw (multiples-more x xs i h, multiples-more y ys j k)
    (front-same _ _ _ _ _ _ (vanished x (get_or xs i none) _ z) (vanished y (get_or ys j none) _ w) l)

pub both-large : (n : ℕ) (x : ℤ) (xs : Entries) (y : ℤ) (ys out : Entries) (i j : ℕ) → Merging n x xs y ys out i j → 0 < n → i < length xs → j < length ys → (get_or xs i none).1 ≢ pos 0 → (get_or ys j none).1 ≢ pos 0 → (get_or xs i none).0 ≡ (get_or ys j none).0 → mixed_number n x (get_or xs i none).1 y (get_or ys j none).1 ≡ None → mixed_entries n x xs y ys ≡ None
both-large n x xs y ys out i j m o h k z w l a =
    let e = joined-both x xs y ys i j h k z w l in
    ⊎_elim
    (λ f. no_first n x xs y ys (sym m.first ∙ rw (multiples-more x xs i h) (with_entry-large n _ _ _ o f)))
    (⊎_elim
    (λ f. no_second n x xs y ys (sym m.second ∙ rw (multiples-more y ys j k) (with_entry-large n _ _ _ o f)))
    (λ f. no_sum n x xs y ys (entries-none n _ (entries_within-large n out _ _ _ _ _ o m.same e (number-none n _ f)))))
    (mixed_number-none n x _ y _ a)

-- what is left of each list goes to the end
rest-is : (xs : Entries) (i : ℕ) → take (length xs - i) (drop i xs) ≡ drop i xs
rest-is xs i = take_all _ (drop i xs) (omega (arith, length-drop i xs))

pushed_by : (b : Bool) (out es r : Entries) → option_map (λ es. out ++ es) (cond b (Some es) None) ≡ Some r → (out ++ es ≡ r) × IsTrue b
pushed_by true out es r h = (cc, refl)
pushed_by false out es r h = absurd (cc)

not_pushed_by : (b : Bool) (out es : Entries) → option_map (λ es. out ++ es) (cond b (Some es) None) ≡ None → b ≡ false
not_pushed_by true out es h = absurd (cc)
not_pushed_by false out es h = refl

-- what a list's multiples, appended, come to
abbrev pub pushed : ℕ → Entries → ℤ → Entries → Option Entries
pushed n out by es = option_map (λ es. out ++ es) (entries_within n (scaled_entries by es))

pushed-some : (n : ℕ) (out : Entries) (by : ℤ) (es r : Entries) → pushed n out by es ≡ Some r → (out ++ scaled_entries by es ≡ r) × IsTrue (are_within n (scaled_entries by es))
unfolding entries_within
pushed-some n out by es r h = pushed_by (are_within n (scaled_entries by es)) out _ r h

pushed-none : (n : ℕ) (out : Entries) (by : ℤ) (es : Entries) → pushed n out by es ≡ None → are_within n (scaled_entries by es) ≡ false
unfolding entries_within
pushed-none n out by es h = not_pushed_by (are_within n (scaled_entries by es)) out _ h

joined-end : (x : ℤ) (xs : Entries) (y : ℤ) (ys : Entries) (i j : ℕ) → (length xs ≤ i) ⊎ (length ys ≤ j) → joined (scaled_entries x (drop i xs)) (scaled_entries y (drop j ys)) ≡ scaled_entries x (drop i xs) ++ scaled_entries y (drop j ys)
joined-end x xs y ys i j (inl h) = rw (drop_of_length-le xs h)
joined-end x xs y ys i j (inr h) = rw (drop_of_length-le ys h) (joined-nil _ ∙ sym (append-nil _))

pub first_rest-large : (n : ℕ) (x : ℤ) (xs : Entries) (y : ℤ) (ys out : Entries) (i j : ℕ) → Merging n x xs y ys out i j → pushed n out x (take (length xs - i) (drop i xs)) ≡ None → mixed_entries n x xs y ys ≡ None
first_rest-large n x xs y ys out i j m h = no_first n x xs y ys (sym m.first ∙ (rw (rest-is xs i) at (pushed-none n out x _ h)))

pub second_rest-large : (n : ℕ) (x : ℤ) (xs : Entries) (y : ℤ) (ys out : Entries) (i j : ℕ) (o : Entries) → Merging n x xs y ys out i j → pushed n o y (take (length ys - j) (drop j ys)) ≡ None → mixed_entries n x xs y ys ≡ None
second_rest-large n x xs y ys out i j o m h = no_second n x xs y ys (sym m.second ∙ (rw (rest-is ys j) at (pushed-none n o y _ h)))

all_put : (out ps qs o r whole : Entries) → out ++ ps ≡ o → o ++ qs ≡ r → out ++ (ps ++ qs) ≡ whole → whole ≡ r
all_put out ps qs o r whole h k l = sym l ∙ sym (append_assoc out ps qs) ∙ rw (h, k) refl

-- the whole, once one of the lists has come to its end
pub merged : (n : ℕ) (x : ℤ) (xs : Entries) (y : ℤ) (ys out : Entries) (i j : ℕ) (o r : Entries) → Merging n x xs y ys out i j → (length xs ≤ i) ⊎ (length ys ≤ j) → pushed n out x (take (length xs - i) (drop i xs)) ≡ Some o → pushed n o y (take (length ys - j) (drop j ys)) ≡ Some r → mixed_entries n x xs y ys ≡ Some r
merged n x xs y ys out i j o r m e h k =
    let p = rw (rest-is xs i) at (pushed-some n out x _ o h) in
    let q = rw (rest-is ys j) at (pushed-some n o y _ r k) in
    let is = all_put out _ _ o r _ p.0 q.0 (rw (joined-end x xs y ys i j e) at m.same) in
    are_mixed n x xs y ys r (sym m.first ∙ p.1) (sym m.second ∙ q.1)
    (rw (← m.same, joined-end x xs y ys i j e, are_within-append, are_within-append) (and_from _ _ m.out_within (and_from _ _ p.1 q.1)))
    is

-- the loop that appends the multiples of a list
pub multiples-within : (n : ℕ) (x : ℤ) (xs : Entries) (i : ℕ) (b : Bool) → are_within n (scaled_entries x (drop i xs)) ≡ b → i < length xs → IsTrue (is_within n ((get_or xs i none).1 *ℤ x)) → are_within n (scaled_entries x (drop (i + 1) xs)) ≡ b
multiples-within n x xs i b h k l = sym (with_entry-within n _ _ _ l) ∙ (rw (multiples-more x xs i k) at h)

pub pushed-large : (n : ℕ) (out : Entries) (x : ℤ) (xs : Entries) (i : ℕ) → are_within n (scaled_entries x (drop i xs)) ≡ are_within n (scaled_entries x xs) → 0 < n → i < length xs → number_within n ((get_or xs i none).1 *ℤ x) ≡ None → pushed n out x xs ≡ None
unfolding entries_within
pushed-large n out x xs i h z k l =
    let e : are_within n (scaled_entries x xs) ≡ false = sym h ∙ rw (multiples-more x xs i k) (with_entry-large n _ _ _ z (number-none n _ l)) in
    rw e

pub pushed-all : (n : ℕ) (out made : Entries) (x : ℤ) (xs : Entries) (i : ℕ) → made ++ scaled_entries x (drop i xs) ≡ out ++ scaled_entries x xs → are_within n (scaled_entries x (drop i xs)) ≡ are_within n (scaled_entries x xs) → length xs ≤ i → pushed n out x xs ≡ Some made
unfolding entries_within
pushed-all n out made x xs i h k l =
    let e = rw (drop_of_length-le xs l) at h in
    let w = rw (drop_of_length-le xs l) at k in
    rw (← w, ← e, append-nil) refl
