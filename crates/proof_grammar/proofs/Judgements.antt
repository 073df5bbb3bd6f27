-- Phrases that are judged: once they are read, before they are read, or by the place where they begin.
use Rattle.std.proofs.Common.{Bool, Err, List, Ok, [], ap, cond, false, refl, subst, sym, true, ℕ, ◌∙◌, ◌≡◌}
use Rattle.st_tokens.specs.Stream.{Lexeme, Stream, ◌++>◌}
use Rattle.st_reading.proofs.ListCompleteness.{Complete}
use Rattle.st_reading.proofs.Soundness.{split, values}
use Rattle.st_reading.specs.Reading.{Read, Stop, ahead, gives, place_of, refusal, then_reads}
use Rattle.st_reading.specs.Spelling.{Cut, Sound}
use Rattle.st_reading.specs.Steady.{Within}
use Rattle.st_reading.specs.declared.sign.Sign.{Sign}
use Rattle.st_reading.proofs.Phrases.{Phrase}

-- what is made of a value that breaks no rule
pub data Judged {A B : Type 0} (broken : A → Bool) (f : A → B) (L : List Lexeme → A → Type 0) : List Lexeme → B → Type 0 where
  judged : (ts : List Lexeme) (x : A) → L ts x → broken x ≡ false → Judged broken f L ts (f x)

passed : {X B : Type 0} (b c : Bool) (fault stop : Stop X) (x y : B) (s rest : Stream) → cond {A = Read X B} b (cond c (Err fault) (Ok (x, s))) (Err stop) ≡ Ok (y, rest) → (c ≡ false) × (x ≡ y) × (s ≡ rest)
passed false c fault stop x y s rest h = absurd cc
passed true true fault stop x y s rest h = absurd cc
passed {X} true false fault stop x y s rest h = let v = values {X = X} (gives x s) x y s rest refl h in (refl, v.0, v.1)

-- it is judged where a token of `ends` comes
module _ {X A B : Type 0} (front next stop : Sign → Bool) (sure : Within next stop) (broken : A → Bool) (fault : A → Stop X) (f : A → B) (p : Phrase X A front next) where
  abbrev pub judging : A → Stream → Read X B
  judging x s = cond (stop (ahead s)) (cond (broken x) (Err (fault x)) (Ok (f x, s))) (Err (refusal s))

  pub judge_sound : Sound (then_reads p.reader judging) (Judged broken f p.language)
  judge_sound s y rest h =
      let a = split p.reader judging s y rest h in
      let c = p.sound s a.value a.middle a.first in
      let v = passed (stop (ahead a.middle)) (broken a.value) (fault a.value) (refusal a.middle) (f a.value) y a.middle rest a.second in
      record { text = c.text; is = c.is ∙ ap (λ m. c.text ++> m) v.2; spells = subst (Judged broken f p.language c.text) v.1 (judged c.text a.value c.spells v.0) }

  pub judge_complete : Complete next (then_reads p.reader judging) (Judged broken f p.language)
  judge_complete ts y (judged us x l e) after h = let r = p.complete us x l after h in let k = sure (ahead after) h in rw (r, k, e) refl

  pub judge_begins : (ts : List Lexeme) (y : B) → Judged broken f p.language ts y → (after : Stream) → next (ahead after) ≡ true → front (ahead (ts ++> after)) ≡ true
  judge_begins ts y (judged us x l e) after h = p.begins us x l after h

  abbrev pub judge_phrase : Phrase X B front next
  judge_phrase = record { reader = then_reads p.reader (λ x s. cond (stop (ahead s)) (cond (broken x) (Err (fault x)) (Ok (f x, s))) (Err (refusal s))); language = Judged broken f p.language; sound = judge_sound; complete = judge_complete; begins = judge_begins }

-- a value, unless it breaks a rule
pub data Admitted {A : Type 0} (broken : Bool) (x : A) : List Lexeme → A → Type 0 where
  admits : broken ≡ false → Admitted broken x [] x

module _ {X A : Type 0} (next : Sign → Bool) (broken : Bool) (fault : Stop X) (x : A) where
  abbrev pub admitting : Stream → Read X A
  admitting s = cond broken (Err fault) (Ok (x, s))

  pub admit_sound : Sound admitting (Admitted broken x)
  admit_sound s y rest h =
      let v = passed true broken fault fault x y s rest h in
      record { text = []; is = v.2; spells = subst (Admitted broken x []) v.1 (admits v.0) }

  pub admit_complete : Complete next admitting (Admitted broken x)
  admit_complete ts y (admits e) after h = rw e refl

  pub admit_begins : (ts : List Lexeme) (y : A) → Admitted broken x ts y → (after : Stream) → next (ahead after) ≡ true → next (ahead (ts ++> after)) ≡ true
  admit_begins ts y (admits e) after h = h

  abbrev pub admit_phrase : Phrase X A next next
  admit_phrase = record { reader = λ s. cond broken (Err fault) (Ok (x, s)); language = Admitted broken x; sound = admit_sound; complete = admit_complete; begins = admit_begins }

-- a phrase, where a rule isn't broken, and where there is room
abbrev pub If : {A : Type 0} → Bool → Bool → (List Lexeme → A → Type 0) → List Lexeme → A → Type 0
If b wanted L ts x = (b ≡ wanted) × L ts x

module _ {X A : Type 0} (front next : Sign → Bool) (b : Bool) (fault : Stop X) (p : Phrase X A front next) where
  unbroken_at : (c : Bool) → c ≡ b → (s : Stream) (x : A) (rest : Stream) → cond c (Err fault) (p.reader s) ≡ Ok (x, rest) → Cut (If b false p.language) s x rest
  unbroken_at true e s x rest h = absurd cc
  unbroken_at false e s x rest h = let c = p.sound s x rest h in record { text = c.text; is = c.is; spells = (sym e, c.spells) }

  pub unbroken_sound : Sound (λ s. cond b (Err fault) (p.reader s)) (If b false p.language)
  unbroken_sound s x rest h = unbroken_at b refl s x rest h

  pub unbroken_complete : Complete next (λ s. cond b (Err fault) (p.reader s)) (If b false p.language)
  unbroken_complete ts x l after h = let e = l.0 in let r = p.complete ts x l.1 after h in rw (e, r) refl

  abbrev pub unbroken_phrase : Phrase X A front next
  unbroken_phrase = record { reader = λ s. cond b (Err fault) (p.reader s); language = If b false p.language; sound = unbroken_sound; complete = unbroken_complete; begins = λ ts x l after h. p.begins ts x l.1 after h }

  roomy_at : (c : Bool) → c ≡ b → (s : Stream) (x : A) (rest : Stream) → cond c (p.reader s) (Err fault) ≡ Ok (x, rest) → Cut (If b true p.language) s x rest
  roomy_at false e s x rest h = absurd cc
  roomy_at true e s x rest h = let c = p.sound s x rest h in record { text = c.text; is = c.is; spells = (sym e, c.spells) }

  pub roomy_sound : Sound (λ s. cond b (p.reader s) (Err fault)) (If b true p.language)
  roomy_sound s x rest h = roomy_at b refl s x rest h

  pub roomy_complete : Complete next (λ s. cond b (p.reader s) (Err fault)) (If b true p.language)
  roomy_complete ts x l after h = let e = l.0 in let r = p.complete ts x l.1 after h in rw (e, r) refl

  abbrev pub roomy_phrase : Phrase X A front next
  roomy_phrase = record { reader = λ s. cond b (p.reader s) (Err fault); language = If b true p.language; sound = roomy_sound; complete = roomy_complete; begins = λ ts x l after h. p.begins ts x l.1 after h }

-- a reader that knows the place where it begins, which only its faults name
module _ {X A : Type 0} (front next : Sign → Bool) (L : List Lexeme → A → Type 0) (p : ℕ → Phrase X A front next) (to : (place : ℕ) (ts : List Lexeme) (x : A) → (p place).language ts x → L ts x) (from : (place : ℕ) (ts : List Lexeme) (x : A) → L ts x → (p place).language ts x) where
  pub placed_sound : Sound (λ s. (p (place_of s)).reader s) L
  placed_sound s x rest h = let c = (p (place_of s)).sound s x rest h in record { text = c.text; is = c.is; spells = to (place_of s) c.text x c.spells }

  abbrev pub placed_phrase : Phrase X A front next
  placed_phrase = record {
    reader = λ s. (p (place_of s)).reader s;
    language = L;
    sound = placed_sound;
    complete = λ ts x l after h. (p (place_of (ts ++> after))).complete ts x (from (place_of (ts ++> after)) ts x l) after h;
    begins = λ ts x l after h. (p 0).begins ts x (from 0 ts x l) after h;
  }
