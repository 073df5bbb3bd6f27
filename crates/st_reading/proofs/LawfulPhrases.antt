-- Phrases whose readers have their law as well: what is put together from them stops at its first fault.
use Rattle.std.proofs.Common.{◌≡◌, ℕ, Bool, true, List, [], ◌∷◌, ◌++◌, Option, Some, None, Err, refl, sym}
use Rattle.st_tokens.specs.Stream.{◌++>◌, Lexeme, Stream, ends, IsSpelled}
use Rattle.st_reading.specs.declared.mark.Mark.{Mark}
use Rattle.st_reading.specs.declared.sign.Sign.{Sign}
use Rattle.st_reading.specs.declared.sign.Sign.TheVariants as signs
use Rattle.st_reading.specs.Sign.{sign_of, is}
use Rattle.st_reading.specs.Reading.{Stop, Label, ahead, is_name, named, gives, then_reads, whole, only, listing, goes, further}
use Rattle.st_reading.specs.Spelling.{Sound, OneName, one_name}
use Rattle.st_reading.specs.Steady.{Viable, Within, Parts, calmer, Wide, wider, anything}
use Rattle.st_reading.specs.Theorem.{IsFirst}
use Rattle.st_reading.proofs.ListCompleteness.{Complete}
use Rattle.st_reading.proofs.ListSoundness.{sound_named}
use Rattle.st_reading.proofs.Lawful.{lawful_bind, lawful_map, lawful_gives, lawful_expected, lawful_named, lawful_weak, lawful_if, lawful_chain, viable_of}
use Rattle.st_reading.proofs.Branches.{lawful_calmer, lawful_fork, lawful_pick, completes_wider}
use Rattle.st_reading.proofs.Theorems.{whole_first, first_as}
use Rattle.st_reading.proofs.Tokens.{among, but, not_that}
use Rattle.st_reading.proofs.Phrases.{Phrase, then_phrase, the_mark, the_value, map_phrase, as_phrase, within_phrase}
use Rattle.st_reading.proofs.Choices.{marked_or, optional_phrase, either_front, either_phrase, choice_phrase}
use Rattle.st_reading.proofs.Rows.{row_phrase}
use Rattle.st_reading.proofs.Judging.{Reader}
use Rattle.st_reading.proofs.FairReaders.{Fair}

-- a phrase that judges nothing: with `lawful`, the law of steadiness, beside `sound`, `complete` and `begins`
pub record LawfulPhrase (X A : Type 0) (front next : Sign → Bool) : Type 1 where
  pub phrase : Phrase X A front next
  pub lawful : Fair front next phrase.reader

-- one behind another
abbrev pub then_lawful : {X A B : Type 0} (front mid front2 next : Sign → Bool) (meets : Within front2 mid) (p : LawfulPhrase X A front mid) (q : A → LawfulPhrase X B front2 next)
    → ((x : A) → Wide front2 next next (q x).phrase.reader) → Wide front front2 mid p.phrase.reader → Parts mid next (λ x. (q x).phrase.reader) → LawfulPhrase X B front next
then_lawful front mid front2 next meets p q fits wide parts = record {
  phrase = then_phrase front mid front2 next meets p.phrase (λ x. (q x).phrase);
  lawful = lawful_bind front mid front2 next meets p.phrase.reader (λ i. p.phrase.reader) (λ x. (q x).phrase.reader) (λ i x. (q x).phrase.reader) fits wide parts p.lawful (λ x. (q x).lawful);
}

-- a mark; the token is one that texts have
abbrev pub mark_lawful : {X : Type 0} (m : Mark) (w : Lexeme) → IsSpelled w → is (sign_of w) m ≡ true → among (m ∷ []) (sign_of w) ≡ true → LawfulPhrase X ℕ (among (m ∷ [])) anything
mark_lawful m w spelled e f = record { phrase = the_mark m; lawful = lawful_expected (among (m ∷ [])) anything m w spelled e f }

-- a name
pub name_complete : {X : Type 0} → Complete {X = X} anything named OneName
name_complete ts l (one_name t e) after h = rw e refl

pub name_begins : (ts : List Lexeme) (l : Label) → OneName ts l → (after : Stream) → anything (ahead after) ≡ true → is_name (ahead (ts ++> after)) ≡ true
name_begins ts l (one_name t e) after h = e

abbrev pub the_name : {X : Type 0} → Phrase X Label is_name anything
the_name = record { reader = named; language = OneName; sound = sound_named; complete = name_complete; begins = name_begins }

abbrev pub name_lawful : {X : Type 0} (w : Lexeme) → IsSpelled w → is_name (sign_of w) ≡ true → LawfulPhrase X Label is_name anything
name_lawful w spelled e = record { phrase = the_name; lawful = lawful_named is_name anything w spelled e e }

-- a value
abbrev pub value_lawful : {X A : Type 0} (next : Sign → Bool) (x : A) → LawfulPhrase X A next next
value_lawful next x = record { phrase = the_value next x; lawful = lawful_gives next next x }

-- what is made of a value
abbrev pub map_lawful : {X A B : Type 0} (front next : Sign → Bool) (fits : Within next front) (f : A → B) (p : LawfulPhrase X A front next) → LawfulPhrase X B front next
map_lawful front next fits f p = record { phrase = map_phrase front next f p.phrase; lawful = lawful_map front next fits f p.phrase.reader (λ i. p.phrase.reader) p.lawful }

-- the same language in other words
abbrev pub as_lawful : {X A : Type 0} (front next : Sign → Bool) (p : LawfulPhrase X A front next) (L : List Lexeme → A → Type 0) → ((ts : List Lexeme) (x : A) → p.phrase.language ts x → L ts x) → ((ts : List Lexeme) (x : A) → L ts x → p.phrase.language ts x) → LawfulPhrase X A front next
as_lawful front next p L to from = record { phrase = as_phrase front next p.phrase L to from; lawful = p.lawful }

-- the same before fewer tokens, said with more that may begin
abbrev pub within_lawful : {X A : Type 0} (front next front2 next2 : Sign → Bool) (wide : Within front front2) (fewer : Within next2 next) (p : LawfulPhrase X A front next) → LawfulPhrase X A front2 next2
within_lawful front next front2 next2 wide fewer p = record {
  phrase = within_phrase front next front2 next2 wide fewer p.phrase;
  lawful = lawful_weak front front2 next2 wide p.phrase.reader (λ i. p.phrase.reader) (lawful_calmer front next next2 fewer p.phrase.reader (λ i. p.phrase.reader) p.lawful);
}

-- what may stand behind a mark
module _ {X A : Type 0} (mark : Mark) (front inner next : Sign → Bool) (clear : Within next (but mark)) (fewer : Within next inner) (p : LawfulPhrase X A front inner) (nothing : next signs.Nothing ≡ true) where
  pub some_there : Fair anything next (then_reads {X = X} p.phrase.reader (λ x. gives (Some x)))
  some_there =
      lawful_map anything next (λ g h. refl) (λ x. Some x) p.phrase.reader (λ i. p.phrase.reader)
      (within_lawful front inner anything next (λ g h. refl) fewer p).lawful

  pub perhaps_there : Fair next next (optional_phrase mark front inner next clear fewer p.phrase).reader
  perhaps_there =
      lawful_if next next (λ g h. h) (λ g. is g mark) refl (λ n l. then_reads p.phrase.reader (λ x. gives (Some x))) (λ i n l. then_reads p.phrase.reader (λ x. gives (Some x))) (gives None) (λ i. gives None)
      (λ n l. some_there) (lawful_gives next next None) (λ g h. not_that mark g (clear g h))

  abbrev pub optional_front : Sign → Bool
  optional_front = marked_or mark front inner next clear fewer p.phrase

  pub or_next : (g : Sign) → next g ≡ true → optional_front g ≡ true
  or_next g h = let e = not_that mark g (clear g h) in rw (e, h) refl

  abbrev pub optional_lawful : LawfulPhrase X (Option A) optional_front next
  optional_lawful = record {
    phrase = optional_phrase mark front inner next clear fewer p.phrase;
    lawful = lawful_weak next optional_front next or_next (optional_phrase mark front inner next clear fewer p.phrase).reader (λ i. (optional_phrase mark front inner next clear fewer p.phrase).reader) perhaps_there;
  }

-- one of two: behind a mark, as w is, or without it
module _ {X A : Type 0} (mark : Mark) (w : Lexeme) (w_spelled : IsSpelled w) (w_is : is (sign_of w) mark ≡ true) (front front2 next : Sign → Bool) (clear : Within front2 (but mark)) (quiet : next signs.Nothing ≡ true)
    (p : LawfulPhrase X A front next) (q : LawfulPhrase X A front2 next) (fits : Wide front next next p.phrase.reader) (fault : Stop X) (begins_so : q.phrase.reader (ends 0) ≡ Err fault) where
  abbrev pub one_front : Sign → Bool
  one_front = either_front mark front front2 next clear p.phrase q.phrase

  first_completed : Viable anything next p.phrase.reader []
  first_completed = completes_wider front anything next (λ g h. refl) p.phrase.reader (viable_of front next p.phrase.reader fits (λ i. p.phrase.reader) p.lawful tt)

  pub either_fair : Fair one_front next (either_phrase mark front front2 next clear p.phrase q.phrase).reader
  either_fair =
      lawful_fork one_front front2 next quiet (λ g. is g mark) refl (λ n l. p.phrase.reader) (λ i n l. p.phrase.reader) q.phrase.reader (λ i. q.phrase.reader) w w_spelled w_is (rw w_is refl)
      (λ i. first_completed) (λ n l. lawful_weak front anything next (λ g h. refl) p.phrase.reader (λ i. p.phrase.reader) p.lawful) fault begins_so q.lawful

  abbrev pub either_lawful : LawfulPhrase X A one_front next
  either_lawful = record { phrase = either_phrase mark front front2 next clear p.phrase q.phrase; lawful = either_fair }

-- by the token that says which; w says o0
module _ {X O A : Type 0} (op : Sign → Option O) (nothing : None ≡ op signs.Nothing) (next : Sign → Bool) (r : O → Reader X A) (L : O → List Lexeme → A → Type 0) (sound : (o : O) → Sound (r o) (L o)) (complete : (o : O) → Complete next (r o) (L o))
    (w : Lexeme) (w_spelled : IsSpelled w) (o0 : O) (w_op : op (sign_of w) ≡ Some o0) (fair : (o : O) → Fair anything next (r o)) where
  chosen_completed : Viable anything next (r o0) []
  chosen_completed = viable_of anything next (r o0) (wider (λ g h. refl)) (λ i. r o0) (fair o0) tt

  pub choice_fair : Fair anything next (choice_phrase op nothing next r L sound complete).reader
  choice_fair = lawful_pick anything next op (sym nothing) (λ o n l. r o) (λ i o n l. r o) w w_spelled o0 w_op refl (λ i. chosen_completed) (λ o n l. fair o)

  abbrev pub choice_lawful : LawfulPhrase X A anything next
  choice_lawful = record { phrase = choice_phrase op nothing next r L sound complete; lawful = choice_fair }

-- items with marks between them
module _ {X A : Type 0} (mark : Mark) (front inner next : Sign → Bool) (marked : inner (signs.Marked mark) ≡ true) (clear : Within next (but mark)) (fewer : Within next inner) (p : LawfulPhrase X A front inner) (fits : Within inner front) where
  further_fair : (xs : List A) → Fair next next (further mark p.phrase.reader xs)
  further_fair xs =
      lawful_chain next next inner (λ g h. h) fewer (only mark) (λ g h. let e = not_that mark g (clear g h) in rw e refl) refl (listing p.phrase.reader) (λ i. listing p.phrase.reader) gives (λ i. gives)
      (λ o n ys. lawful_map anything inner (λ g h. refl) (λ x. goes (ys ++ x ∷ [])) p.phrase.reader (λ i. p.phrase.reader) (lawful_weak front anything inner (λ g h. refl) p.phrase.reader (λ i. p.phrase.reader) p.lawful))
      (λ ys. lawful_gives next next ys) xs

  pub row_fair : Fair front next (row_phrase mark front inner next marked clear fewer p.phrase).reader
  row_fair =
      lawful_bind front inner next next fewer p.phrase.reader (λ i. p.phrase.reader) (λ x. further mark p.phrase.reader (x ∷ [])) (λ i x. further mark p.phrase.reader (x ∷ []))
      (λ x. wider (λ g h. h)) (wider (λ g h. fits g (fewer g h))) (calmer fewer) p.lawful (λ x. further_fair (x ∷ []))

  abbrev pub row_lawful : LawfulPhrase X (List A) front next
  row_lawful = record { phrase = row_phrase mark front inner next marked clear fewer p.phrase; lawful = row_fair }

-- A whole text is refused at the first fault of the language.
pub phrase_first : {X A : Type 0} (front next : Sign → Bool) → next signs.Nothing ≡ true → (p : LawfulPhrase X A front next) (s : Stream) (f : Stop X) → whole p.phrase.reader s ≡ Err f → IsFirst p.phrase.language s f
phrase_first front next quiet p s f h =
    first_as (λ ts x. (i : Unit {0}) × p.phrase.language ts x) p.phrase.language (λ ts x l. l.1) (λ ts x l. (tt, l)) s f
    (whole_first front next quiet p.phrase.reader (λ i. p.phrase.reader) tt (λ i. p.phrase.language) (λ i. p.phrase.sound) (λ i ts x q l. p.phrase.complete ts x l (ends q) quiet) s f (p.lawful.law s) h)
