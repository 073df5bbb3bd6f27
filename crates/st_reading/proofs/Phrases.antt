-- Readers with the languages that they read, put together as the readers are.
use Rattle.std.proofs.Common.{Bool, List, [], ap, refl, subst, true, ℕ, ◌∙◌, ◌∷◌, ◌≡◌}
use Rattle.st_tokens.specs.Stream.{Lexeme, Stream, ◌++>◌}
use Rattle.st_reading.proofs.ListCompleteness.{Complete, expected_is}
use Rattle.st_reading.proofs.ListSoundness.{Given, OneMark, given, one_mark, sound_expected, sound_gives}
use Rattle.st_reading.proofs.Soundness.{sound_bind, split, values}
use Rattle.st_reading.proofs.Steadiness.{bind_ok}
use Rattle.st_reading.proofs.Streams.{append_stream}
use Rattle.st_reading.specs.Reading.{Read, ahead, expected, gives, then_reads}
use Rattle.st_reading.specs.Spelling.{Both, Sound, behind_it}
use Rattle.st_reading.specs.Steady.{Within, anything}
use Rattle.st_reading.specs.declared.mark.Mark.{Mark}
use Rattle.st_reading.specs.declared.sign.Sign.{Sign}
use Rattle.st_reading.specs.Phrases.{After, after_mark}
use Rattle.st_reading.proofs.Tokens.{among}

-- The reader reads exactly the language, where a token of `next` follows. With what follows, each text begins with a token of
-- `front`.
pub record Phrase (X A : Type 0) (front next : Sign → Bool) : Type 1 where
  pub reader : Stream → Read X A
  pub language : List Lexeme → A → Type 0
  pub sound : Sound reader language
  pub complete : Complete next reader language
  pub begins : (ts : List Lexeme) (x : A) → language ts x → (after : Stream) → next (ahead after) ≡ true → front (ahead (ts ++> after)) ≡ true

-- one behind another
module _ {X A B : Type 0} (front mid front2 next : Sign → Bool) (meets : Within front2 mid) (p : Phrase X A front mid) (q : A → Phrase X B front2 next) where
  abbrev pub follows : A → Stream → Read X B
  follows x = (q x).reader

  abbrev pub Follows : A → List Lexeme → B → Type 0
  Follows x = (q x).language

  pub both_sound : Sound (then_reads p.reader follows) (Both p.language Follows)
  both_sound = sound_bind p.reader follows p.language Follows p.sound (λ x. (q x).sound)

  pub both_complete : Complete next (then_reads p.reader follows) (Both p.language Follows)
  both_complete ts z (behind_it a b x y l m) after h =
      ap (then_reads p.reader follows) (append_stream a b after)
      ∙ bind_ok p.reader follows (a ++> (b ++> after)) x (b ++> after) (p.complete a x l (b ++> after) (meets (ahead (b ++> after)) ((q x).begins b y m after h)))
      ∙ (q x).complete b y m after h

  pub both_begins : (ts : List Lexeme) (z : B) → Both p.language Follows ts z → (after : Stream) → next (ahead after) ≡ true → front (ahead (ts ++> after)) ≡ true
  both_begins ts z (behind_it a b x y l m) after h = ap (λ s. front (ahead s)) (append_stream a b after) ∙ p.begins a x l (b ++> after) (meets (ahead (b ++> after)) ((q x).begins b y m after h))

  abbrev pub then_phrase : Phrase X B front next
  then_phrase = record { reader = then_reads p.reader (λ x. (q x).reader); language = Both p.language (λ x. (q x).language); sound = both_sound; complete = both_complete; begins = both_begins }

-- a mark
pub mark_complete : {X : Type 0} (m : Mark) → Complete {X = X} anything (expected m) (OneMark m)
mark_complete m ts x (one_mark t e) after h = expected_is m t after e

pub mark_begins : (m : Mark) (ts : List Lexeme) (x : ℕ) → OneMark m ts x → (after : Stream) → anything (ahead after) ≡ true → among (m ∷ []) (ahead (ts ++> after)) ≡ true
mark_begins m ts x (one_mark t e) after h = rw e refl

abbrev pub the_mark : {X : Type 0} (m : Mark) → Phrase X ℕ (among (m ∷ [])) anything
the_mark {X} m = record { reader = expected m; language = OneMark m; sound = sound_expected m; complete = mark_complete m; begins = mark_begins m }

-- a value
pub gives_complete : {X A : Type 0} (next : Sign → Bool) (x : A) → Complete {X = X} next (gives x) (Given x)
gives_complete next x ts y given after h = refl

pub gives_begins : {A : Type 0} (next : Sign → Bool) (x : A) (ts : List Lexeme) (y : A) → Given x ts y → (after : Stream) → next (ahead after) ≡ true → next (ahead (ts ++> after)) ≡ true
gives_begins next x ts y given after h = h

abbrev pub the_value : {X A : Type 0} (next : Sign → Bool) (x : A) → Phrase X A next next
the_value {X} next x = record { reader = gives x; language = Given x; sound = sound_gives x; complete = gives_complete next x; begins = gives_begins next x }

-- what is made of a value
pub data Made {A B : Type 0} (f : A → B) (L : List Lexeme → A → Type 0) : List Lexeme → B → Type 0 where
  made : (ts : List Lexeme) (x : A) → L ts x → Made f L ts (f x)

module _ {X A B : Type 0} (front next : Sign → Bool) (f : A → B) (p : Phrase X A front next) where
  abbrev pub mapped : Stream → Read X B
  mapped = then_reads p.reader (λ x. gives (f x))

  pub made_sound : Sound mapped (Made f p.language)
  made_sound s y rest h =
      let a = split p.reader (λ x. gives (f x)) s y rest h in
      let c = p.sound s a.value a.middle a.first in
      let v = values {X = X} (gives (f a.value) a.middle) (f a.value) y a.middle rest refl a.second in
      record { text = c.text; is = c.is ∙ ap (λ m. c.text ++> m) v.1; spells = subst (Made f p.language c.text) v.0 (made c.text a.value c.spells) }

  pub made_complete : Complete next mapped (Made f p.language)
  made_complete ts y (made us x l) after h = let r = p.complete us x l after h in rw r refl

  pub made_begins : (ts : List Lexeme) (y : B) → Made f p.language ts y → (after : Stream) → next (ahead after) ≡ true → front (ahead (ts ++> after)) ≡ true
  made_begins ts y (made us x l) after h = p.begins us x l after h

  abbrev pub map_phrase : Phrase X B front next
  map_phrase = record { reader = then_reads p.reader (λ x. gives (f x)); language = Made f p.language; sound = made_sound; complete = made_complete; begins = made_begins }

-- the same language in other words
module _ {X A : Type 0} (front next : Sign → Bool) (p : Phrase X A front next) (L : List Lexeme → A → Type 0) (to : (ts : List Lexeme) (x : A) → p.language ts x → L ts x) (from : (ts : List Lexeme) (x : A) → L ts x → p.language ts x) where
  pub as_sound : Sound p.reader L
  as_sound s x rest h = let c = p.sound s x rest h in record { text = c.text; is = c.is; spells = to c.text x c.spells }

  abbrev pub as_phrase : Phrase X A front next
  as_phrase = record {
    reader = p.reader;
    language = L;
    sound = as_sound;
    complete = λ ts x l after h. p.complete ts x (from ts x l) after h;
    begins = λ ts x l after h. p.begins ts x (from ts x l) after h;
  }

-- the same before fewer tokens, said with more that may begin
module _ {X A : Type 0} (front next front2 next2 : Sign → Bool) (wider : Within front front2) (fewer : Within next2 next) (p : Phrase X A front next) where
  abbrev pub within_phrase : Phrase X A front2 next2
  within_phrase = record {
    reader = p.reader;
    language = p.language;
    sound = p.sound;
    complete = λ ts x l after h. p.complete ts x l after (fewer (ahead after) h);
    begins = λ ts x l after h. wider (ahead (ts ++> after)) (p.begins ts x l after (fewer (ahead after) h));
  }

-- what stands behind a mark
module _ {X A : Type 0} (mark : Mark) (front next : Sign → Bool) (p : Phrase X A front next) where
  abbrev pub behind_it_all : Phrase X A (among (mark ∷ [])) next
  behind_it_all = then_phrase (among (mark ∷ [])) anything front next (λ g h. refl) (the_mark mark) (λ m. p)

  pub to_after : (ts : List Lexeme) (x : A) → behind_it_all.language ts x → After mark p.language ts x
  to_after ts x (behind_it a b m y (one_mark t e) l) = after_mark t b y e l

  pub from_after : (ts : List Lexeme) (x : A) → After mark p.language ts x → behind_it_all.language ts x
  from_after ts x (after_mark t us y e l) = behind_it (t ∷ []) us t.start y (one_mark t e) l

  abbrev pub after_phrase : Phrase X A (among (mark ∷ [])) next
  after_phrase = as_phrase (among (mark ∷ [])) next behind_it_all (After mark p.language) to_after from_after
