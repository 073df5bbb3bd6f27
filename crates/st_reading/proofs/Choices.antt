-- Phrases that may be left out, and phrases that are chosen by the token ahead.
use Rattle.std.proofs.Common.{Bool, Err, List, None, Ok, Option, Some, [], ap, cond, false, refl, subst, sym, true, ◌||◌, ◌∙◌, ◌∷◌, ◌≡◌}
use Rattle.st_tokens.specs.Stream.{Lexeme, Stream, behind, breaks, ends, more, ◌++>◌}
use Rattle.st_reading.proofs.ListCompleteness.{Complete}
use Rattle.st_reading.proofs.Soundness.{split, taken, values}
use Rattle.st_reading.specs.Reading.{Read, ahead, gives, on_operator, refusal, then_reads}
use Rattle.st_reading.specs.Sign.{is, sign_of}
use Rattle.st_reading.specs.Spelling.{Cut, Is, Sound}
use Rattle.st_reading.specs.Steady.{Within, anything}
use Rattle.st_reading.specs.declared.mark.Mark.{Mark}
use Rattle.st_reading.specs.declared.sign.Sign.{Sign}
use Rattle.st_reading.specs.declared.sign.Sign.TheVariants as signs
use Rattle.st_reading.specs.Phrases.{Optional, left_out, put_in}
use Rattle.st_reading.proofs.Phrases.{Phrase}
use Rattle.st_reading.proofs.Tokens.{but, not_that}

-- what may stand behind a mark, before tokens that aren't the mark
module _ {X A : Type 0} (mark : Mark) (front inner next : Sign → Bool) (clear : Within next (but mark)) (fewer : Within next inner) (p : Phrase X A front inner) where
  abbrev pub perhaps : Stream → Read X (Option A)
  perhaps s = cond (is (ahead s) mark) (then_reads p.reader (λ x. gives (Some x)) (behind s)) (Ok (None, s))

  begun : (s : Stream) (o : Option A) (rest : Stream) (b : Bool) → b ≡ is (ahead s) mark → cond b (then_reads p.reader (λ x. gives (Some x)) (behind s)) (Ok (None, s)) ≡ Ok (o, rest) → Cut (Optional mark p.language) s o rest
  begun s o rest false e h = taken {X = X} (Optional mark p.language) [] (gives None s) None o s rest refl h left_out
  begun (ends place) o rest true e h = absurd cc
  begun (breaks f) o rest true e h = absurd cc
  begun (more t s) o rest true e h =
      let a = split p.reader (λ x. gives (Some x)) s o rest h in
      let c = p.sound s a.value a.middle a.first in
      let v = values {X = X} (gives (Some a.value) a.middle) (Some a.value) o a.middle rest refl a.second in
      record { text = t ∷ c.text; is = ap (more t) (c.is ∙ ap (λ m. c.text ++> m) v.1); spells = subst (Optional mark p.language (t ∷ c.text)) v.0 (put_in t c.text a.value (sym e) c.spells) }

  pub optional_sound : Sound perhaps (Optional mark p.language)
  optional_sound s o rest h = begun s o rest (is (ahead s) mark) refl h

  pub optional_complete : Complete next perhaps (Optional mark p.language)
  optional_complete ts o left_out after h = let e = not_that mark (ahead after) (clear (ahead after) h) in rw e refl
  optional_complete ts o (put_in t us x e l) after h = let r = p.complete us x l after (fewer (ahead after) h) in rw (e, r) refl

  abbrev pub marked_or : Sign → Bool
  marked_or g = is g mark || next g

  pub optional_begins : (ts : List Lexeme) (o : Option A) → Optional mark p.language ts o → (after : Stream) → next (ahead after) ≡ true → marked_or (ahead (ts ++> after)) ≡ true
  optional_begins ts o left_out after h = let e = not_that mark (ahead after) (clear (ahead after) h) in rw (e, h) refl
  optional_begins ts o (put_in t us x e l) after h = rw e refl

  abbrev pub optional_phrase : Phrase X (Option A) marked_or next
  optional_phrase = record { reader = λ s. cond (is (ahead s) mark) (then_reads p.reader (λ x. gives (Some x)) (behind s)) (Ok (None, s)); language = Optional mark p.language; sound = optional_sound; complete = optional_complete; begins = optional_begins }

-- one of two: behind a mark, or without it
pub data Either {A : Type 0} (mark : Mark) (L M : List Lexeme → A → Type 0) : List Lexeme → A → Type 0 where
  behind_mark : (t : Lexeme) (ts : List Lexeme) (x : A) → Is mark t → L ts x → Either mark L M (t ∷ ts) x
  without_mark : (ts : List Lexeme) (x : A) → M ts x → Either mark L M ts x

module _ {X A : Type 0} (mark : Mark) (front front2 next : Sign → Bool) (clear : Within front2 (but mark)) (p : Phrase X A front next) (q : Phrase X A front2 next) where
  either_at : (s : Stream) (x : A) (rest : Stream) (b : Bool) → b ≡ is (ahead s) mark → cond b (p.reader (behind s)) (q.reader s) ≡ Ok (x, rest) → Cut (Either mark p.language q.language) s x rest
  either_at s x rest false e h = let c = q.sound s x rest h in record { text = c.text; is = c.is; spells = without_mark c.text x c.spells }
  either_at (ends place) x rest true e h = absurd cc
  either_at (breaks f) x rest true e h = absurd cc
  either_at (more t s) x rest true e h = let c = p.sound s x rest h in record { text = t ∷ c.text; is = ap (more t) c.is; spells = behind_mark t c.text x (sym e) c.spells }

  abbrev pub either_reader : Stream → Read X A
  either_reader s = cond (is (ahead s) mark) (p.reader (behind s)) (q.reader s)

  pub either_sound : Sound either_reader (Either mark p.language q.language)
  either_sound s x rest h = either_at s x rest (is (ahead s) mark) refl h

  pub either_complete : Complete next either_reader (Either mark p.language q.language)
  either_complete ts x (behind_mark t us y e l) after h = let r = p.complete us y l after h in rw (e, r) refl
  either_complete ts x (without_mark us y l) after h = let e = not_that mark (ahead (us ++> after)) (clear (ahead (us ++> after)) (q.begins us y l after h)) in let r = q.complete us y l after h in rw (e, r) refl

  abbrev pub either_front : Sign → Bool
  either_front g = is g mark || front2 g

  in_second : (a b : Bool) → b ≡ true → (a || b) ≡ true
  in_second true b h = refl
  in_second false b h = h

  pub either_begins : (ts : List Lexeme) (x : A) → Either mark p.language q.language ts x → (after : Stream) → next (ahead after) ≡ true → either_front (ahead (ts ++> after)) ≡ true
  either_begins ts x (behind_mark t us y e l) after h = rw e refl
  either_begins ts x (without_mark us y l) after h = in_second (is (ahead (us ++> after)) mark) (front2 (ahead (us ++> after))) (q.begins us y l after h)

  abbrev pub either_phrase : Phrase X A either_front next
  either_phrase = record { reader = λ s. cond (is (ahead s) mark) (p.reader (behind s)) (q.reader s); language = Either mark p.language q.language; sound = either_sound; complete = either_complete; begins = either_begins }

-- by the token that says which
pub data Chosen {O A : Type 0} (op : Sign → Option O) (L : O → List Lexeme → A → Type 0) : List Lexeme → A → Type 0 where
  chosen : (o : O) (t : Lexeme) (ts : List Lexeme) (x : A) → op (sign_of t) ≡ Some o → L o ts x → Chosen op L (t ∷ ts) x

module _ {X O A : Type 0} (op : Sign → Option O) (nothing : None ≡ op signs.Nothing) (next : Sign → Bool) (r : O → Stream → Read X A) (L : O → List Lexeme → A → Type 0) (sound : (o : O) → Sound (r o) (L o)) (complete : (o : O) → Complete next (r o) (L o)) where
  abbrev pub choice : Stream → Read X A
  choice s = on_operator (op (ahead s)) (Err (refusal s)) (λ o. r o (behind s))

  chosen_at : (s : Stream) (x : A) (rest : Stream) (o : Option O) → o ≡ op (ahead s) → on_operator o (Err (refusal s)) (λ o. r o (behind s)) ≡ Ok (x, rest) → Cut (Chosen op L) s x rest
  chosen_at s x rest None e h = absurd cc
  chosen_at (ends place) x rest (Some o) e h = absurd (none_some o (nothing ∙ sym e))
    where
      none_some : (o : O) → None ≡ Some o → ⊥
      none_some o h = cc
  chosen_at (breaks f) x rest (Some o) e h = absurd (none_some o (nothing ∙ sym e))
    where
      none_some : (o : O) → None ≡ Some o → ⊥
      none_some o h = cc
  chosen_at (more t s) x rest (Some o) e h = let c = sound o s x rest h in record { text = t ∷ c.text; is = ap (more t) c.is; spells = chosen o t c.text x (sym e) c.spells }

  pub choice_sound : Sound choice (Chosen op L)
  choice_sound s x rest h = chosen_at s x rest (op (ahead s)) refl h

  pub choice_complete : Complete next choice (Chosen op L)
  choice_complete ts x (chosen o t us y e l) after h = ap (λ z. on_operator z (Err (refusal (more t (us ++> after)))) (λ o. r o (us ++> after))) e ∙ complete o us y l after h

  abbrev pub choice_phrase : Phrase X A anything next
  choice_phrase = record { reader = λ s. on_operator (op (ahead s)) (Err (refusal s)) (λ o. r o (behind s)); language = Chosen op L; sound = choice_sound; complete = choice_complete; begins = λ ts x l after h. refl }

-- what a token chooses, of several in their order
pub first_of : {O : Type 0} (Q : O → Type 0) (b : Bool) (x y : O) (others : Option O) → (b ≡ true → Q x) → (others ≡ Some y → Q y) → cond b (Some x) others ≡ Some y → Q y
first_of Q true x y others this that h = subst Q (same x y h) (this refl)
  where
    same : {O : Type 0} (x y : O) → Some x ≡ Some y → x ≡ y
    same x y h = cc
first_of Q false x y others this that h = that h

pub none_chosen : {O : Type 0} (Q : Type 0) (o : O) → None ≡ Some o → Q
none_chosen Q o h = absurd cc
