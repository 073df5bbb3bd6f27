-- What the names of a table stand for.
use Rattle.std.proofs.Common.{◌≡◌, ℕ, zero, suc, ◌<◌, nat_lt, Bool, true, false, not, cond, List, [], ◌∷◌, ◌++◌, length, refl, sym, ap, subst, ◌∙◌, arith, Option, Some, None}
use Rattle.std.specs.Prelude.{slice_get, slice_index_or, position, nat_eq, is_some}
use Rattle.std.specs.Option.{option_map}
use Rattle.std.specs.List.{prefix_len}
use Rattle.std.specs.Str.{bytes_eq}
use Rattle.std.proofs.lemmas.Bool.Decides.{nat_tests}
use Rattle.std.proofs.lemmas.Slice.Eq.{bytes_eq-Decides}
use Rattle.st_tokens.specs.Text.{is_letter, is_word_byte}
use Rattle.st_program.specs.Names.{Names, IsNew, AreApart, names_in, label_of}
use Rattle.expression_typer.specs.Naming.{is_text, variable_at, variable_named, location_named, names_of}
use Rattle.declared_names.specs.Words.{AreWordBytes, IsWord, AreWords, AreNames}
use Rattle.step_report.specs.Names.{variable_text, location_text}
use Rattle.printed_formulas.specs.Printable.{IsNamed, IsPlace}

-- names are ASCII
letter_ascii : (b : ℕ) → is_letter b ≡ true → nat_lt b 128 ≡ true
letter_ascii b e = grind (arith, nat_tests, e)

byte_ascii : (b : ℕ) → is_word_byte b ≡ true → nat_lt b 128 ≡ true
byte_ascii b e = grind (arith, nat_tests, e)

bytes_text : (bs : List ℕ) → AreWordBytes bs → is_text bs ≡ true
bytes_text [] h = refl
bytes_text (b ∷ bs) h = rw (byte_ascii b h.0, bytes_text bs h.1) refl

word_text : (name : List ℕ) → IsWord name → is_text name ≡ true
word_text [] h = absurd h
word_text (b ∷ bs) h = rw (letter_ascii b h.0, bytes_text bs h.1) refl

-- names that are apart
new_left : (x : List ℕ) (xs ys : List (List ℕ)) → IsNew x (xs ++ ys) → IsNew x xs
new_left x [] ys h = tt
new_left x (y ∷ xs) ys h = (h.0, new_left x xs ys h.1)

apart_left : (xs ys : List (List ℕ)) → AreApart (xs ++ ys) → AreApart xs
apart_left [] ys h = tt
apart_left (x ∷ xs) ys h = (new_left x xs ys h.0, apart_left xs ys h.1)

apart_right : (xs ys : List (List ℕ)) → AreApart (xs ++ ys) → AreApart ys
apart_right [] ys h = h
apart_right (x ∷ xs) ys h = apart_right xs ys h.1

same_bytes : (x : List ℕ) → bytes_eq x x ≡ true
same_bytes x = (bytes_eq-Decides x x).1 refl

module _ {A : Type 0} where
  -- by number
  name_at : (xs : List (List ℕ × A)) (v : ℕ) (x : List ℕ × A) → slice_get xs v ≡ Some x → slice_index_or (names_in xs) v [] ≡ x.0
  name_at [] v x h = absurd cc
  name_at (y ∷ xs) zero x h = let e : y ≡ x = cc in ap (λ (z : List ℕ × A). z.0) e
  name_at (y ∷ xs) (suc v) x h = name_at xs v x h

  word_at : (xs : List (List ℕ × A)) (v : ℕ) (x : List ℕ × A) → AreWords (names_in xs) → slice_get xs v ≡ Some x → IsWord x.0
  word_at [] v x w h = absurd cc
  word_at (y ∷ xs) zero x w h = let e : y ≡ x = cc in subst (λ (z : List ℕ × A). IsWord z.0) e w.0
  word_at (y ∷ xs) (suc v) x w h = word_at xs v x w.1 h

  other_name : (y : List ℕ) (xs : List (List ℕ × A)) (v : ℕ) (x : List ℕ × A) → IsNew y (names_in xs) → slice_get xs v ≡ Some x → bytes_eq x.0 y ≡ false
  other_name y [] v x n h = absurd cc
  other_name y (z ∷ xs) zero x n h = let e : z ≡ x = cc in subst (λ (w : List ℕ × A). bytes_eq w.0 y ≡ false) e n.0
  other_name y (z ∷ xs) (suc v) x n h = other_name y xs v x n.1 h

  first_at : (xs : List (List ℕ × A)) (v : ℕ) (x : List ℕ × A) → AreApart (names_in xs) → slice_get xs v ≡ Some x → (prefix_len (λ k. not (bytes_eq x.0 k)) (names_in xs) ≡ v) × (v < length (names_in xs))
  first_at [] v x a h = absurd cc
  first_at (y ∷ xs) zero x a h =
      let e : y ≡ x = cc in
      let same : bytes_eq x.0 y.0 ≡ true = ap (λ (z : List ℕ × A). bytes_eq x.0 z.0) e ∙ same_bytes x.0 in
      (rw same refl, omega arith)
  first_at (y ∷ xs) (suc v) x a h =
      let other : bytes_eq x.0 y.0 ≡ false = other_name y.0 xs v x a.0 h in
      let more = first_at xs v x a.1 h in
      (rw other (omega (arith, more.0)), omega (arith, more.1))

  place_of_name : (xs : List (List ℕ × A)) (v : ℕ) (x : List ℕ × A) → AreApart (names_in xs) → slice_get xs v ≡ Some x → position (λ k. bytes_eq x.0 k) (names_in xs) ≡ Some v
  place_of_name xs v x a h =
      let f = first_at xs v x a h in
      let less : nat_lt v (length (names_in xs)) ≡ true = grind (arith, nat_tests, f.1) in
      rw (f.0, less) refl

variable_stands : (xs : List (List ℕ × Bool)) (v : ℕ) (x : List ℕ × Bool) → AreApart (names_in xs) → slice_get xs v ≡ Some x → variable_named xs x.0 ≡ Some (v, x.1)
variable_stands xs v x a h = ap (variable_at xs) (place_of_name xs v x a h) ∙ ap (option_map (λ (y : List ℕ × Bool). (v, y.1))) h

pub is_named : (t : Names) (v : ℕ) (x : List ℕ × Bool) → AreNames t → slice_get t.variables v ≡ Some x → IsNamed t v x.1
is_named t v x n h =
    let name : variable_text t v ≡ x.0 = name_at t.variables v x h in
    let word : IsWord x.0 = word_at t.variables v x n.variables h in
    let stands : (names_of t).variable x.0 ≡ Some (v, x.1) = rw (word_text x.0 word) (variable_stands t.variables v x (apart_left (names_in t.variables) (names_in t.labels) n.apart) h) in
    record {
      word = subst IsWord (sym name) word;
      stands = subst (λ (z : List ℕ). (names_of t).variable z ≡ Some (v, x.1)) (sym name) stands;
    }

-- labels
abbrev Labels : Type 0
Labels = List (List ℕ × (ℕ × Option ℕ))

nat_same : (m n : ℕ) → nat_eq m n ≡ true → m ≡ n
nat_same m n h = grind (arith, nat_tests, h)

other_label : (y : List ℕ) (l : ℕ) (xs : Labels) (name : List ℕ) → IsNew y (names_in xs) → label_of l xs ≡ Some name → bytes_eq name y ≡ false
other_label y l [] name n h = absurd cc
other_label y l (x ∷ xs) name n h = by (nat_eq x.1.0 l) (other_label y l xs name n.1) h
  where
    by : (b : Bool) → (label_of l xs ≡ Some name → bytes_eq name y ≡ false) → cond b (Some x.0) (label_of l xs) ≡ Some name → bytes_eq name y ≡ false
    by true more e = let same : x.0 ≡ name = cc in subst (λ (z : List ℕ). bytes_eq z y ≡ false) same n.0
    by false more e = more e

label_stands : (l : ℕ) (xs : Labels) (name : List ℕ) → AreApart (names_in xs) → label_of l xs ≡ Some name → location_named xs name ≡ Some l
label_stands l [] name a h = absurd cc
label_stands l (x ∷ xs) name a h = by (nat_eq x.1.0 l) refl (label_stands l xs name a.1) h
  where
    by : (b : Bool) → nat_eq x.1.0 l ≡ b → (label_of l xs ≡ Some name → location_named xs name ≡ Some l) → cond b (Some x.0) (label_of l xs) ≡ Some name → location_named (x ∷ xs) name ≡ Some l
    by true there more e =
        let same : x.0 ≡ name = cc in
        let found : bytes_eq name x.0 ≡ true = ap (bytes_eq name) same ∙ same_bytes name in
        rw found (ap Some (nat_same x.1.0 l there))
    by false there more e = let other : bytes_eq name x.0 ≡ false = other_label x.0 l xs name a.0 e in rw other (more e)

label_word : (l : ℕ) (xs : Labels) (name : List ℕ) → AreWords (names_in xs) → label_of l xs ≡ Some name → IsWord name
label_word l [] name w h = absurd cc
label_word l (x ∷ xs) name w h = by (nat_eq x.1.0 l) (label_word l xs name w.1) h
  where
    by : (b : Bool) → (label_of l xs ≡ Some name → IsWord name) → cond b (Some x.0) (label_of l xs) ≡ Some name → IsWord name
    by true more e = let same : x.0 ≡ name = cc in subst IsWord same w.0
    by false more e = more e

pub is_place : (t : Names) (l : ℕ) → AreNames t → is_some (label_of l t.labels) ≡ true → IsPlace t l
is_place t l n h = by (label_of l t.labels) refl h
  where
    by : (o : Option (List ℕ)) → label_of l t.labels ≡ o → is_some o ≡ true → IsPlace t l
    by None e h = absurd cc
    by (Some name) e h =
        let text : location_text t l ≡ name = rw e refl in
        let word : IsWord name = label_word l t.labels name n.labels e in
        let stands : (names_of t).place name ≡ Some l = rw (word_text name word) (label_stands l t.labels name (apart_right (names_in t.variables) (names_in t.labels) n.apart) e) in
        record {
          word = subst IsWord (sym text) word;
          stands = subst (λ (z : List ℕ). (names_of t).place z ≡ Some l) (sym text) stands;
        }
