-- What is read by parts is spelled by parts.
use Rattle.std.proofs.Common.{◌≡◌, ℕ, zero, suc, ◌≤◌, List, ◌∷◌, ◌++◌, Option, Some, None, Ok, Err, refl, sym, ap, subst, ◌∙◌, arith}
use Rattle.st_tokens.specs.Stream.{◌++>◌, Lexeme, Stream, ends, breaks, more, behind}
use Rattle.st_reading.specs.declared.sign.Sign.{Sign}
use Rattle.st_reading.specs.Sign.{sign_of}
use Rattle.st_reading.specs.declared.sign.Sign.TheVariants as signs
use Rattle.st_reading.specs.Reading.{Read, ◌>>=◌, ahead, size, place_of, then_reads, Turn, leaves, goes, turned, on_operator, chain}
use Rattle.st_reading.specs.Spelling.{Cut, Sound, Links, ended, left, linked, Both, behind_it}
use Rattle.st_reading.proofs.Streams.{append_stream, size_through}

pub record Split {X A B : Type 0} (r : Stream → Read X A) (q : A → Stream → Read X B) (s : Stream) (y : B) (rest : Stream) : Type 0 where
  pub value : A
  pub middle : Stream
  pub first : r s ≡ Ok (value, middle)
  pub second : q value middle ≡ Ok (y, rest)

pub split : {X A B : Type 0} (r : Stream → Read X A) (q : A → Stream → Read X B) (s : Stream) (y : B) (rest : Stream) → then_reads r q s ≡ Ok (y, rest) → Split r q s y rest
split {X} {A} {B} r q s y rest h = at_first (r s) refl h
  where
    at_first : (o : Read X A) → o ≡ r s → (o >>= λ x. q x.0 x.1) ≡ Ok (y, rest) → Split r q s y rest
    at_first (Ok (x, m)) e h = record { value = x; middle = m; first = sym e; second = h }
    at_first (Err f) e h = cc

pub values : {X A : Type 0} (o : Read X A) (x y : A) (s t : Stream) → o ≡ Ok (x, s) → o ≡ Ok (y, t) → (x ≡ y) × (s ≡ t)
values {X} {A} o x y s t g h = let e : (x, s) ≡ (y, t) = cc in (ap (λ (p : A × Stream). p.0) e, ap (λ (p : A × Stream). p.1) e)

-- these tokens were taken
pub taken : {X A : Type 0} (L : List Lexeme → A → Type 0) (ts : List Lexeme) (o : Read X A) (x y : A) (s t : Stream) → o ≡ Ok (x, s) → o ≡ Ok (y, t) → L ts x → Cut L (ts ++> s) y t
taken L ts o x y s t g h p = let e = values o x y s t g h in record { text = ts; is = ap (λ z. ts ++> z) e.1; spells = subst (L ts) e.0 p }

-- a cut behind a cut
pub cut_behind : {A B : Type 0} (L : List Lexeme → A → Type 0) (M : List Lexeme → B → Type 0) (s middle rest : Stream) (x : A) (y : B) → (c : Cut L s x middle) → (d : Cut M middle y rest) → s ≡ (c.text ++ d.text) ++> rest
cut_behind L M s middle rest x y c d = c.is ∙ ap (λ m. c.text ++> m) d.is ∙ sym (append_stream c.text d.text rest)

pub sound_bind : {X A B : Type 0} (r : Stream → Read X A) (q : A → Stream → Read X B) (L : List Lexeme → A → Type 0) (M : A → List Lexeme → B → Type 0) → Sound r L → ((x : A) → Sound (q x) (M x)) → Sound (then_reads r q) (Both L M)
sound_bind r q L M sound sound2 s y rest h =
    let p = split r q s y rest h in
    let c = sound s p.value p.middle p.first in
    let d = sound2 p.value p.middle y rest p.second in
    record { text = c.text ++ d.text; is = cut_behind L (M p.value) s p.middle rest p.value y c d; spells = behind_it c.text d.text p.value y c.spells d.spells }

abbrev pub Shrinks : {X A : Type 0} → (Stream → Read X A) → Type 0
Shrinks {X} {A} r = (s : Stream) (x : A) (rest : Stream) → r s ≡ Ok (x, rest) → size rest ≤ size s

pub sound_shrinks : {X A : Type 0} (r : Stream → Read X A) (L : List Lexeme → A → Type 0) → Sound r L → Shrinks r
sound_shrinks r L sound s x rest h = let c = sound s x rest h in omega (arith, size_through c.text rest, ap size c.is)

module _ {X O B S : Type 0} (op : Sign → Option O) (turn : O → ℕ → S → Stream → Read X (Turn B S)) (finish : S → Stream → Read X B)
    (link : O → ℕ → S → List Lexeme → Turn B S → Type 0) (last : S → List Lexeme → B → Type 0)
    (none : None ≡ op signs.Nothing) (sound_turn : (o : O) (place : ℕ) (x : S) → Sound (turn o place x) (link o place x)) (sound_finish : (x : S) → Sound (finish x) (last x)) where
  finished : (x : S) (s : Stream) (z : B) (rest : Stream) → finish x s ≡ Ok (z, rest) → Cut (Links op link last x) s z rest
  finished x s z rest h = let c = sound_finish x s z rest h in record { text = c.text; is = c.is; spells = ended x c.text z c.spells }

  module _ (k : ℕ) (again : (x : S) (s : Stream) (z : B) (rest : Stream) → chain op turn finish k x s ≡ Ok (z, rest) → Cut (Links op link last x) s z rest) where
    at_turn : (x : S) (t : Lexeme) (o : O) (s m : Stream) (y : Turn B S) (z : B) (rest : Stream) → op (sign_of t) ≡ Some o → turn o t.start x s ≡ Ok (y, m) → turned (λ w n. chain op turn finish k w n) y m ≡ Ok (z, rest) → Cut (Links op link last x) (more t s) z rest
    at_turn x t o s m (leaves b) z rest e first h =
        let c = sound_turn o t.start x s (leaves b) m first in
        let v = values (Ok (b, m)) b z m rest refl h in
        record { text = t ∷ c.text; is = ap (more t) (c.is ∙ ap (λ n. c.text ++> n) v.1); spells = subst (λ w. Links op link last x (t ∷ c.text) w) v.0 (left x t o c.text b e c.spells) }
    at_turn x t o s m (goes y) z rest e first h =
        let c = sound_turn o t.start x s (goes y) m first in
        let d = again y m z rest h in
        record { text = t ∷ c.text ++ d.text; is = ap (more t) (c.is ∙ ap (λ n. c.text ++> n) d.is ∙ sym (append_stream c.text d.text rest)); spells = linked x y t o c.text d.text z e c.spells d.spells }

    at_operator : (x : S) (s : Stream) (z : B) (rest : Stream) (p : Option O) → p ≡ op (ahead s) → on_operator p (finish x s) (λ o. turn o (place_of s) x (behind s) >>= λ y. turned (λ w n. chain op turn finish k w n) y.0 y.1) ≡ Ok (z, rest) → Cut (Links op link last x) s z rest
    at_operator x s z rest None e h = finished x s z rest h
    at_operator x (ends p) z rest (Some o) e h = cc
    at_operator x (breaks f) z rest (Some o) e h = cc
    at_operator x (more t s) z rest (Some o) e h =
        let p = split (turn o t.start x) (λ y. turned (λ w n. chain op turn finish k w n) y) s z rest h in
        at_turn x t o s p.middle p.value z rest (sym e) p.first p.second

  pub chain_sound : (k : ℕ) (x : S) (s : Stream) (z : B) (rest : Stream) → chain op turn finish k x s ≡ Ok (z, rest) → Cut (Links op link last x) s z rest
  unfolding chain
  chain_sound zero x s z rest h = finished x s z rest h
  chain_sound (suc k) x s z rest h = at_operator k (λ x s z rest h. chain_sound k x s z rest h) x s z rest (op (ahead s)) refl h
