-- Lists that are read are spelled, item by item.
use Rattle.std.proofs.Common.{◌≡◌, ℕ, zero, suc, Bool, true, false, cond, List, [], ◌∷◌, ◌++◌, Option, Some, None, Ok, Err, refl, sym, ap, subst, ◌∙◌, append-nil, append_assoc}
use Rattle.st_tokens.specs.Stream.{◌++>◌, Lexeme, Stream, ends, breaks, more, behind}
use Rattle.st_reading.specs.declared.mark.Mark.{Mark}
use Rattle.st_reading.specs.declared.sign.Sign.{Sign}
use Rattle.st_reading.specs.declared.sign.Sign.TheVariants as signs
use Rattle.st_reading.specs.Sign.{sign_of, is}
use Rattle.st_reading.specs.Reading.{Read, ◌>>=◌, ahead, place_of, name_of, label_of, is_name, refusal, then_reads, expected, named, gives, Turn, goes, turned, on_operator, chain, only, listing, Carried, counting, linked, size, further}
use Rattle.st_reading.specs.Spelling.{Cut, Sound, Both, behind_it, Is, OneName, one_name, Items, no_items, item_more, Row, row, Row2, row2}
use Rattle.st_reading.proofs.Streams.{append_stream}
use Rattle.st_reading.proofs.Soundness.{split, taken}

-- one token that is the mark, at its place
pub data OneMark (m : Mark) : List Lexeme → ℕ → Type 0 where
  one_mark : (t : Lexeme) → Is m t → OneMark m (t ∷ []) t.start

-- no token, and a value that was there
pub data Given {A : Type 0} (x : A) : List Lexeme → A → Type 0 where
  given : Given x [] x

pub sound_as : {X A : Type 0} (r : Stream → Read X A) (L M : List Lexeme → A → Type 0) → ((ts : List Lexeme) (x : A) → L ts x → M ts x) → Sound r L → Sound r M
sound_as r L M go sound s x rest h = let c = sound s x rest h in record { text = c.text; is = c.is; spells = go c.text x c.spells }

pub sound_gives : {X A : Type 0} (x : A) → Sound {X = X} (gives x) (Given x)
sound_gives {X} x s y rest h = taken {X = X} (Given x) [] (gives x s) x y s rest refl h given

pub sound_expected : {X : Type 0} (m : Mark) → Sound {X = X} (expected m) (OneMark m)
sound_expected {X} m s n rest h = at_test s (is (ahead s) m) refl h
  where
    at_test : (s : Stream) (b : Bool) → b ≡ is (ahead s) m → cond b (gives {X = X} (place_of s) (behind s)) (Err (refusal s)) ≡ Ok (n, rest) → Cut (OneMark m) s n rest
    at_test s false e h = cc
    at_test (ends p) true e h = cc
    at_test (breaks f) true e h = cc
    at_test (more t s) true e h = taken {X = X} (OneMark m) (t ∷ []) (gives t.start s) t.start n s rest refl h (one_mark t (sym e))

pub sound_named : {X : Type 0} → Sound {X = X} named OneName
sound_named {X} s l rest h = at_test s (is_name (ahead s)) refl h
  where
    at_test : (s : Stream) (b : Bool) → b ≡ is_name (ahead s) → cond b (gives {X = X} (name_of s) (behind s)) (Err (refusal s)) ≡ Ok (l, rest) → Cut OneName s l rest
    at_test s false e h = cc
    at_test (ends p) true e h = cc
    at_test (breaks f) true e h = cc
    at_test (more t s) true e h = taken {X = X} OneName (t ∷ []) (gives (label_of t) s) (label_of t) l s rest refl h (one_name t (sym e))

-- Steps behind one another, each behind a token that op knows.
pub data Steps {O A : Type 0} (op : Sign → Option O) (item : O → Lexeme → List Lexeme → A → Type 0) : List Lexeme → List A → Type 0 where
  no_steps : Steps op item [] []
  a_step : (t : Lexeme) (o : O) (a b : List Lexeme) (y : A) (ys : List A) → op (sign_of t) ≡ Some o → item o t a y → Steps op item b ys → Steps op item (t ∷ a ++ b) (y ∷ ys)

pub only_is : (m : Mark) (g : Sign) (o : Unit {0}) → only m g ≡ Some o → is g m ≡ true
only_is m g o h = at_test (is g m) refl h
  where
    at_test : (b : Bool) → b ≡ is g m → cond b (Some tt) None ≡ Some o → is g m ≡ true
    at_test true e h = sym e
    at_test false e h = cc

pub steps_items : {A : Type 0} (m : Mark) (L : List Lexeme → A → Type 0) (ts : List Lexeme) (ys : List A) → Steps (only m) (λ o t. L) ts ys → Items m L ts ys
steps_items m L ts ys no_steps = no_items
steps_items m L ts ys (a_step t o a b y zs e l rest) = item_more t a b y zs (only_is m (sign_of t) o e) l (steps_items m L b zs rest)

abbrev pub counted_on : {N A : Type 0} → Carried N (List A) → Carried N A → Turn (Carried N (List A)) (Carried N (List A))
counted_on xs x = goes (xs.0 ++ x.0 ∷ [], x.1)

abbrev pub listed_on : {A : Type 0} → List A → A → Turn (List A) (List A)
listed_on xs x = goes (xs ++ x ∷ [])

abbrev grown : {A B : Type 0} → List A → A → Turn B (List A)
grown xs x = goes (xs ++ x ∷ [])

-- what was read before, and the items behind it
pub record Extends {A : Type 0} (L : List Lexeme → List A → Type 0) (xs : List A) (ts : List Lexeme) (zs : List A) : Type 0 where
  pub more_items : List A
  pub joined : zs ≡ xs ++ more_items
  pub spells : L ts more_items

-- nothing more
extends_none : {A : Type 0} (L : List Lexeme → List A → Type 0) → L [] [] → (xs zs : List A) → xs ≡ zs → Extends L xs [] zs
extends_none L none xs zs e = record { more_items = []; joined = sym e ∙ sym (append-nil xs); spells = none }

module _ {X O N A : Type 0} (op : Sign → Option O) (nothing : None ≡ op signs.Nothing) (r : O → N → Stream → Read X (Carried N A)) (L : O → Lexeme → List Lexeme → A → Type 0) (sound : (o : O) (n : N) (t : Lexeme) → Sound (r o n) (λ ts x. L o t ts x.0)) where
  abbrev Counts : Carried N (List A) → List Lexeme → Carried N (List A) → Type 0
  Counts xs ts zs = Extends (Steps op L) xs.0 ts zs.0

  ended : (xs : Carried N (List A)) (s : Stream) (zs : Carried N (List A)) (rest : Stream) → gives {X = X} xs s ≡ Ok (zs, rest) → Cut (Counts xs) s zs rest
  ended xs s zs rest h = taken {X = X} (Counts xs) [] (gives xs s) xs zs s rest refl h (extends_none (Steps op L) no_steps xs.0 xs.0 refl)

  step : (xs : Carried N (List A)) (t : Lexeme) (o : O) → op (sign_of t) ≡ Some o → (s : Stream) (x : Carried N A) (m : Stream) (zs : Carried N (List A)) (rest : Stream) → Cut (λ ts x. L o t ts x.0) s x m → Cut (Counts (xs.0 ++ x.0 ∷ [], x.1)) m zs rest → Cut (Counts xs) (more t s) zs rest
  step xs t o e s x m zs rest c d = record {
    text = t ∷ c.text ++ d.text;
    is = ap (more t) (c.is ∙ ap (λ n. c.text ++> n) d.is ∙ sym (append_stream c.text d.text rest));
    spells = record { more_items = x.0 ∷ d.spells.more_items; joined = d.spells.joined ∙ append_assoc xs.0 (x.0 ∷ []) d.spells.more_items; spells = a_step t o c.text d.text x.0 d.spells.more_items e c.spells d.spells.spells };
  }

  at_operator : (k : ℕ) → ((xs : Carried N (List A)) (s : Stream) (zs : Carried N (List A)) (rest : Stream) → chain op (counting r) gives k xs s ≡ Ok (zs, rest) → Cut (Counts xs) s zs rest) → (xs : Carried N (List A)) (s : Stream) (zs : Carried N (List A)) (rest : Stream) (p : Option O) → p ≡ op (ahead s)
      → on_operator p (gives {X = X} xs s) (λ o. counting r o (place_of s) xs (behind s) >>= λ y. turned (λ w n. chain op (counting r) gives k w n) y.0 y.1) ≡ Ok (zs, rest) → Cut (Counts xs) s zs rest
  at_operator k again xs s zs rest None e h = ended xs s zs rest h
  at_operator k again xs (ends p) zs rest (Some o) e h = cc
  at_operator k again xs (breaks f) zs rest (Some o) e h = cc
  at_operator k again xs (more t s) zs rest (Some o) e h =
      let p = split (r o xs.1) (λ x m. chain op (counting r) gives k (xs.0 ++ x.0 ∷ [], x.1) m) s zs rest (through h) in
      step xs t o (sym e) s p.value p.middle zs rest (sound o xs.1 t s p.value p.middle p.first) (again (xs.0 ++ p.value.0 ∷ [], p.value.1) p.middle zs rest p.second)
    where
      at_read : (q : Read X (Carried N A)) → ((q >>= λ x. gives {X = X} (counted_on xs x.0) x.1) >>= λ y. turned (λ w n. chain op (counting r) gives k w n) y.0 y.1) ≡ Ok (zs, rest) → (q >>= λ x. chain op (counting r) gives k (xs.0 ++ x.0.0 ∷ [], x.0.1) x.1) ≡ Ok (zs, rest)
      at_read (Ok x) h = h
      at_read (Err f) h = cc

      through : (counting r o t.start xs s >>= λ y. turned (λ w n. chain op (counting r) gives k w n) y.0 y.1) ≡ Ok (zs, rest) → then_reads (r o xs.1) (λ x m. chain op (counting r) gives k (xs.0 ++ x.0 ∷ [], x.1) m) s ≡ Ok (zs, rest)
      through h = at_read (r o xs.1 s) h

  pub counting_sound : (k : ℕ) (xs : Carried N (List A)) → Sound (chain op (counting r) gives k xs) (Counts xs)
  unfolding chain
  counting_sound zero xs s zs rest h = ended xs s zs rest h
  counting_sound (suc k) xs s zs rest h = at_operator k (λ xs s zs rest h. counting_sound k xs s zs rest h) xs s zs rest (op (ahead s)) refl h

-- a list that isn't counted
module _ {X A : Type 0} (mark : Mark) (r : Stream → Read X A) (L : List Lexeme → A → Type 0) (sound : Sound r L) where
  list_ended : (xs : List A) (s : Stream) (zs : List A) (rest : Stream) → gives {X = X} xs s ≡ Ok (zs, rest) → Cut (Extends (Items mark L) xs) s zs rest
  list_ended xs s zs rest h = taken {X = X} (Extends (Items mark L) xs) [] (gives xs s) xs zs s rest refl h (extends_none (Items mark L) no_items xs xs refl)

  list_step : (xs : List A) (t : Lexeme) → Is mark t → (s : Stream) (x : A) (m : Stream) (zs : List A) (rest : Stream) → Cut L s x m → Cut (Extends (Items mark L) (xs ++ x ∷ [])) m zs rest → Cut (Extends (Items mark L) xs) (more t s) zs rest
  list_step xs t e s x m zs rest c d = record {
    text = t ∷ c.text ++ d.text;
    is = ap (more t) (c.is ∙ ap (λ n. c.text ++> n) d.is ∙ sym (append_stream c.text d.text rest));
    spells = record { more_items = x ∷ d.spells.more_items; joined = d.spells.joined ∙ append_assoc xs (x ∷ []) d.spells.more_items; spells = item_more t c.text d.text x d.spells.more_items e c.spells d.spells.spells };
  }

  list_operator : (k : ℕ) → ((xs : List A) (s : Stream) (zs : List A) (rest : Stream) → chain (only mark) (listing r) gives k xs s ≡ Ok (zs, rest) → Cut (Extends (Items mark L) xs) s zs rest) → (xs : List A) (s : Stream) (zs : List A) (rest : Stream) (p : Option (Unit {0})) → p ≡ only mark (ahead s)
      → on_operator p (gives {X = X} xs s) (λ o. listing r o (place_of s) xs (behind s) >>= λ y. turned (λ w n. chain (only mark) (listing r) gives k w n) y.0 y.1) ≡ Ok (zs, rest) → Cut (Extends (Items mark L) xs) s zs rest
  list_operator k again xs s zs rest None e h = list_ended xs s zs rest h
  list_operator k again xs (ends p) zs rest (Some o) e h = cc
  list_operator k again xs (breaks f) zs rest (Some o) e h = cc
  list_operator k again xs (more t s) zs rest (Some o) e h =
      let p = split r (λ x m. chain (only mark) (listing r) gives k (xs ++ x ∷ []) m) s zs rest (through h) in
      list_step xs t (only_is mark (sign_of t) o (sym e)) s p.value p.middle zs rest (sound s p.value p.middle p.first) (again (xs ++ p.value ∷ []) p.middle zs rest p.second)
    where
      at_read : (q : Read X A) → ((q >>= λ x. gives {X = X} (listed_on xs x.0) x.1) >>= λ y. turned (λ w n. chain (only mark) (listing r) gives k w n) y.0 y.1) ≡ Ok (zs, rest) → (q >>= λ x. chain (only mark) (listing r) gives k (xs ++ x.0 ∷ []) x.1) ≡ Ok (zs, rest)
      at_read (Ok x) h = h
      at_read (Err f) h = cc

      through : (listing r o t.start xs s >>= λ y. turned (λ w n. chain (only mark) (listing r) gives k w n) y.0 y.1) ≡ Ok (zs, rest) → then_reads r (λ x m. chain (only mark) (listing r) gives k (xs ++ x ∷ []) m) s ≡ Ok (zs, rest)
      through h = at_read (r s) h

  pub listing_sound : (k : ℕ) (xs : List A) → Sound (chain (only mark) (listing r) gives k xs) (Extends (Items mark L) xs)
  unfolding chain
  listing_sound zero xs s zs rest h = list_ended xs s zs rest h
  listing_sound (suc k) xs s zs rest h = list_operator k (λ xs s zs rest h. listing_sound k xs s zs rest h) xs s zs rest (only mark (ahead s)) refl h

-- A list whose reader puts it together at its end is the list, put together.
module _ {X A B : Type 0} (mark : Mark) (r : Stream → Read X A) (g : List A → B) where
  on_read : (k : ℕ) (again : (xs : List A) (s : Stream) → chain (only mark) (listing r) (λ zs. gives (g zs)) k xs s ≡ then_reads (chain (only mark) (listing r) gives k xs) (λ zs. gives (g zs)) s) (xs : List A) (q : Read X A)
      → ((q >>= λ x. gives {X = X} (grown xs x.0) x.1) >>= λ y. turned (λ w n. chain (only mark) (listing r) (λ zs. gives (g zs)) k w n) y.0 y.1) ≡ (((q >>= λ x. gives {X = X} (listed_on xs x.0) x.1) >>= λ y. turned (λ w n. chain (only mark) (listing r) gives k w n) y.0 y.1) >>= λ z. gives {X = X} (g z.0) z.1)
  on_read k again xs (Ok x) = again (xs ++ x.0 ∷ []) x.1
  on_read k again xs (Err f) = refl

  on_mark : (k : ℕ) (again : (xs : List A) (s : Stream) → chain (only mark) (listing r) (λ zs. gives (g zs)) k xs s ≡ then_reads (chain (only mark) (listing r) gives k xs) (λ zs. gives (g zs)) s) (xs : List A) (s : Stream) (p : Option (Unit {0}))
      → on_operator p (gives {X = X} (g xs) s) (λ o. listing r o (place_of s) xs (behind s) >>= λ y. turned (λ w n. chain (only mark) (listing r) (λ zs. gives (g zs)) k w n) y.0 y.1)
      ≡ (on_operator p (gives {X = X} xs s) (λ o. listing r o (place_of s) xs (behind s) >>= λ y. turned (λ w n. chain (only mark) (listing r) gives k w n) y.0 y.1) >>= λ z. gives {X = X} (g z.0) z.1)
  on_mark k again xs s None = refl
  on_mark k again xs s (Some o) = on_read k again xs (r (behind s))

  pub listing_mapped : (k : ℕ) (xs : List A) (s : Stream) → chain (only mark) (listing r) (λ zs. gives (g zs)) k xs s ≡ then_reads (chain (only mark) (listing r) gives k xs) (λ zs. gives (g zs)) s
  unfolding chain
  listing_mapped zero xs s = refl
  listing_mapped (suc k) xs s = on_mark k (λ xs s. listing_mapped k xs s) xs s (only mark (ahead s))

-- what was read before, and at least one item behind it
pub record Continues {A : Type 0} (L : List Lexeme → List A → Type 0) (xs : List A) (ts : List Lexeme) (zs : List A) : Type 0 where
  pub first : A
  pub others : List A
  pub joined : zs ≡ xs ++ first ∷ others
  pub spells : L ts (first ∷ others)

module _ {X A : Type 0} (mark : Mark) (r : Stream → Read X A) (L : List Lexeme → A → Type 0) (sound : Sound r L) where
  continued : (k : ℕ) (xs : List A) (t : Lexeme) → Is mark t → (s : Stream) (x : A) (m : Stream) (zs : List A) (rest : Stream) → Cut L s x m → Cut (Extends (Items mark L) (xs ++ x ∷ [])) m zs rest → Cut (Continues (Items mark L) xs) (more t s) zs rest
  continued k xs t e s x m zs rest c d = record {
    text = t ∷ c.text ++ d.text;
    is = ap (more t) (c.is ∙ ap (λ n. c.text ++> n) d.is ∙ sym (append_stream c.text d.text rest));
    spells = record { first = x; others = d.spells.more_items; joined = d.spells.joined ∙ append_assoc xs (x ∷ []) d.spells.more_items; spells = item_more t c.text d.text x d.spells.more_items e c.spells d.spells.spells };
  }

  -- where the mark stands ahead, an item is read behind it
  pub listing_continues : (k : ℕ) (xs : List A) (t : Lexeme) (s : Stream) (zs : List A) (rest : Stream) → Is mark t → chain (only mark) (listing r) gives (suc k) xs (more t s) ≡ Ok (zs, rest) → Cut (Continues (Items mark L) xs) (more t s) zs rest
  unfolding chain
  listing_continues k xs t s zs rest e h =
      let p = split r (λ x m. chain (only mark) (listing r) gives k (xs ++ x ∷ []) m) s zs rest (at_read (r s) (on_mark (is (sign_of t) mark) e h)) in
      continued k xs t e s p.value p.middle zs rest (sound s p.value p.middle p.first) (listing_sound mark r L sound k (xs ++ p.value ∷ []) p.middle zs rest p.second)
    where
      at_read : (q : Read X A) → ((q >>= λ x. gives {X = X} (listed_on xs x.0) x.1) >>= λ y. turned (λ w n. chain (only mark) (listing r) gives k w n) y.0 y.1) ≡ Ok (zs, rest) → (q >>= λ x. chain (only mark) (listing r) gives k (xs ++ x.0 ∷ []) x.1) ≡ Ok (zs, rest)
      at_read (Ok x) h = h
      at_read (Err f) h = cc

      on_mark : (b : Bool) → b ≡ true → on_operator (cond b (Some tt) None) (gives {X = X} xs (more t s)) (λ o. listing r o t.start xs s >>= λ y. turned (λ w n. chain (only mark) (listing r) gives k w n) y.0 y.1) ≡ Ok (zs, rest)
          → ((r s >>= λ x. gives {X = X} (listed_on xs x.0) x.1) >>= λ y. turned (λ w n. chain (only mark) (listing r) gives k w n) y.0 y.1) ≡ Ok (zs, rest)
      on_mark true e h = h
      on_mark false e h = cc

-- COUNTED ROWS
module _ {X N A : Type 0} (mark : Mark) (r : N → Stream → Read X (Carried N A)) (L : List Lexeme → A → Type 0) (sound : (n : N) → Sound (r n) (λ ts x. L ts x.0)) where
  -- further items, behind those that were read before
  further_sound : (xs : Carried N (List A)) → Sound (linked mark r xs) (λ ts zs. Extends (Items mark L) xs.0 ts zs.0)
  further_sound xs s zs rest h =
      let c = counting_sound (only mark) refl (λ o. r) (λ o t. L) (λ o n t. sound n) (size s) xs s zs rest h in
      record { text = c.text; is = c.is; spells = record { more_items = c.spells.more_items; joined = c.spells.joined; spells = steps_items mark L c.text c.spells.more_items c.spells.spells } }

  -- an item, and further ones behind the mark
  pub row_sound : (n : N) → Sound (then_reads (r n) (λ x. linked mark r (x.0 ∷ [], x.1))) (λ ts zs. Row mark L ts zs.0)
  row_sound n s zs rest h =
      let p = split (r n) (λ x. linked mark r (x.0 ∷ [], x.1)) s zs rest h in
      let c = sound n s p.value p.middle p.first in
      let d = further_sound (p.value.0 ∷ [], p.value.1) p.middle zs rest p.second in
      record {
        text = c.text ++ d.text;
        is = c.is ∙ ap (λ m. c.text ++> m) d.is ∙ sym (append_stream c.text d.text rest);
        spells = subst (Row mark L (c.text ++ d.text)) (sym d.spells.joined) (row c.text d.text p.value.0 d.spells.more_items c.spells d.spells.spells);
      }

  abbrev behind_first : Carried N A → Stream → Read X (Carried N (List A))
  behind_first x = then_reads (expected mark) (λ m. then_reads (r x.1) (λ y. linked mark r (x.0 ∷ y.0 ∷ [], y.1)))

  -- an item, another one, and further ones
  pub row2_sound : (n : N) → Sound (then_reads (r n) behind_first) (λ ts zs. Row2 mark L ts zs.0)
  row2_sound n s zs rest h =
      let p = split (r n) behind_first s zs rest h in
      let q = split (expected mark) (λ m. then_reads (r p.value.1) (λ y. linked mark r (p.value.0 ∷ y.0 ∷ [], y.1))) p.middle zs rest p.second in
      let w = split (r p.value.1) (λ y. linked mark r (p.value.0 ∷ y.0 ∷ [], y.1)) q.middle zs rest q.second in
      let a = sound n s p.value p.middle p.first in
      let b = sound_expected mark p.middle q.value q.middle q.first in
      let c = sound p.value.1 q.middle w.value w.middle w.first in
      let d = further_sound (p.value.0 ∷ w.value.0 ∷ [], w.value.1) w.middle zs rest w.second in
      record {
        text = a.text ++ (b.text ++ (c.text ++ d.text));
        is = a.is ∙ ap (λ m. a.text ++> m) (b.is ∙ ap (λ m. b.text ++> m) (c.is ∙ ap (λ m. c.text ++> m) d.is ∙ sym (append_stream c.text d.text rest)) ∙ sym (append_stream b.text (c.text ++ d.text) rest)) ∙ sym (append_stream a.text (b.text ++ (c.text ++ d.text)) rest);
        spells = subst (Row2 mark L (a.text ++ (b.text ++ (c.text ++ d.text)))) (sym d.spells.joined) (two a.text b.text q.value c.text d.text p.value.0 w.value.0 d.spells.more_items a.spells b.spells c.spells d.spells.spells);
      }
    where
      two : (a b : List Lexeme) (place : ℕ) (c d : List Lexeme) (x y : A) (ys : List A) → L a x → OneMark mark b place → L c y → Items mark L d ys → Row2 mark L (a ++ (b ++ (c ++ d))) (x ∷ y ∷ ys)
      two a b place c d x y ys la (one_mark t e) lc items = row2 a (t ∷ c ++ d) x y ys la (item_more t c d y ys e lc items)

-- A ROW THAT ISN'T COUNTED, AND WHAT IS READ BEHIND IT
module _ {X A B : Type 0} (mark : Mark) (r : Stream → Read X A) (L : List Lexeme → A → Type 0) (sound : Sound r L) (k : List A → Stream → Read X B) (M : List A → List Lexeme → B → Type 0) (sound2 : (xs : List A) → Sound (k xs) (M xs)) where
  abbrev listed_behind : A → Stream → Read X B
  listed_behind x = then_reads (expected mark) (λ m. then_reads r (λ y. then_reads (further mark r (x ∷ y ∷ [])) k))

  pub row2_then_sound : Sound (then_reads r listed_behind) (Both (Row2 mark L) M)
  row2_then_sound s z rest h =
      let p = split r listed_behind s z rest h in
      let q = split (expected mark) (λ m. then_reads r (λ y. then_reads (further mark r (p.value ∷ y ∷ [])) k)) p.middle z rest p.second in
      let w = split r (λ y. then_reads (further mark r (p.value ∷ y ∷ [])) k) q.middle z rest q.second in
      let v = split (further mark r (p.value ∷ w.value ∷ [])) k w.middle z rest w.second in
      let a = sound s p.value p.middle p.first in
      let b = sound_expected mark p.middle q.value q.middle q.first in
      let c = sound q.middle w.value w.middle w.first in
      let d = listing_sound mark r L sound (size w.middle) (p.value ∷ w.value ∷ []) w.middle v.value v.middle v.first in
      let e = sound2 v.value v.middle z rest v.second in
      record {
        text = (a.text ++ (b.text ++ (c.text ++ d.text))) ++ e.text;
        is = whole s p.middle q.middle w.middle v.middle rest a.text b.text c.text d.text e.text a.is b.is c.is d.is e.is;
        spells = behind_it (a.text ++ (b.text ++ (c.text ++ d.text))) e.text v.value z (subst (Row2 mark L (a.text ++ (b.text ++ (c.text ++ d.text)))) (sym d.spells.joined) (two a.text b.text q.value c.text d.text p.value w.value d.spells.more_items a.spells b.spells c.spells d.spells.spells)) e.spells;
      }
    where
      two : (a b : List Lexeme) (place : ℕ) (c d : List Lexeme) (x y : A) (ys : List A) → L a x → OneMark mark b place → L c y → Items mark L d ys → Row2 mark L (a ++ (b ++ (c ++ d))) (x ∷ y ∷ ys)
      two a b place c d x y ys la (one_mark t e) lc items = row2 a (t ∷ c ++ d) x y ys la (item_more t c d y ys e lc items)

      whole : (s m1 m2 m3 m4 rest : Stream) (a b c d e : List Lexeme) → s ≡ a ++> m1 → m1 ≡ b ++> m2 → m2 ≡ c ++> m3 → m3 ≡ d ++> m4 → m4 ≡ e ++> rest → s ≡ ((a ++ (b ++ (c ++ d))) ++ e) ++> rest
      whole s m1 m2 m3 m4 rest a b c d e h1 h2 h3 h4 h5 =
          h1 ∙ ap (λ m. a ++> m) (h2 ∙ ap (λ m. b ++> m) (h3 ∙ ap (λ m. c ++> m) h4 ∙ sym (append_stream c d m4)) ∙ sym (append_stream b (c ++ d) m4)) ∙ sym (append_stream a (b ++ (c ++ d)) m4)
          ∙ ap (λ m. (a ++ (b ++ (c ++ d))) ++> m) h5 ∙ sym (append_stream (a ++ (b ++ (c ++ d))) e rest)
