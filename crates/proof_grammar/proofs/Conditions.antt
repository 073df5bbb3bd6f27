-- Phrases that stand only where something is so.
use Rattle.std.proofs.Common.{Bool, List, None, Ok, Option, Some, [], ap, cond, false, refl, sym, true, ◌&&◌, ◌∙◌, ◌≡◌}
use Rattle.st_tokens.specs.Stream.{Lexeme, Stream, behind, ◌++>◌}
use Rattle.st_reading.proofs.ListCompleteness.{Complete}
use Rattle.st_reading.proofs.Soundness.{taken}
use Rattle.st_reading.specs.Reading.{Read, ahead, gives, then_reads}
use Rattle.st_reading.specs.Sign.{is}
use Rattle.st_reading.specs.Spelling.{Cut, Sound}
use Rattle.st_reading.specs.Steady.{Within}
use Rattle.st_reading.specs.declared.mark.Mark.{Mark}
use Rattle.st_reading.specs.declared.sign.Sign.{Sign}
use Rattle.st_reading.specs.Phrases.{Optional, left_out}
use Rattle.st_reading.proofs.Choices.{marked_or, optional_begins, optional_complete, optional_sound}
use Rattle.st_reading.proofs.Phrases.{Phrase}
use Rattle.st_reading.proofs.Tokens.{but}

-- a phrase where something is so, and else a value
pub data Where {A : Type 0} (b : Bool) (L : List Lexeme → A → Type 0) (x : A) : List Lexeme → A → Type 0 where
  where_so : (ts : List Lexeme) (y : A) → b ≡ true → L ts y → Where b L x ts y
  where_not : b ≡ false → Where b L x [] x

module _ {X A : Type 0} (front next : Sign → Bool) (b : Bool) (x : A) (wide : Within next front) (p : Phrase X A front next) where
  where_at : (c : Bool) → c ≡ b → (s : Stream) (y : A) (rest : Stream) → cond c (p.reader s) (Ok (x, s)) ≡ Ok (y, rest) → Cut (Where b p.language x) s y rest
  where_at true e s y rest h = let c = p.sound s y rest h in record { text = c.text; is = c.is; spells = where_so c.text y (sym e) c.spells }
  where_at false e s y rest h = taken {X = X} (Where b p.language x) [] (gives x s) x y s rest refl h (where_not (sym e))

  pub where_sound : Sound (λ s. cond b (p.reader s) (Ok (x, s))) (Where b p.language x)
  where_sound s y rest h = where_at b refl s y rest h

  pub where_complete : Complete next (λ s. cond b (p.reader s) (Ok (x, s))) (Where b p.language x)
  where_complete ts y (where_so us z e l) after h = let r = p.complete us z l after h in rw (e, r) refl
  where_complete ts y (where_not e) after h = rw e refl

  pub where_begins : (ts : List Lexeme) (y : A) → Where b p.language x ts y → (after : Stream) → next (ahead after) ≡ true → front (ahead (ts ++> after)) ≡ true
  where_begins ts y (where_so us z e l) after h = p.begins us z l after h
  where_begins ts y (where_not e) after h = wide (ahead after) h

  abbrev pub where_phrase : Phrase X A front next
  where_phrase = record { reader = λ s. cond b (p.reader s) (Ok (x, s)); language = Where b p.language x; sound = where_sound; complete = where_complete; begins = where_begins }

-- what may stand behind a mark, where something is so
module _ {X A : Type 0} (b : Bool) (mark : Mark) (front inner next : Sign → Bool) (clear : Within next (but mark)) (fewer : Within next inner) (p : Phrase X A front inner) where
  abbrev pub allowed : Bool → Stream → Read X (Option A)
  allowed c s = cond (c && is (ahead s) mark) (then_reads p.reader (λ x. gives (Some x)) (behind s)) (Ok (None, s))

  allowed_at : (c : Bool) → c ≡ b → (s : Stream) (o : Option A) (rest : Stream) → allowed c s ≡ Ok (o, rest) → Cut (Where b (Optional mark p.language) None) s o rest
  allowed_at true e s o rest h = let c = optional_sound mark front inner next clear fewer p s o rest h in record { text = c.text; is = c.is; spells = where_so c.text o (sym e) c.spells }
  allowed_at false e s o rest h = taken {X = X} (Where b (Optional mark p.language) None) [] (gives None s) None o s rest refl h (where_not (sym e))

  pub allowed_sound : Sound (allowed b) (Where b (Optional mark p.language) None)
  allowed_sound s o rest h = allowed_at b refl s o rest h

  pub allowed_complete : Complete next (allowed b) (Where b (Optional mark p.language) None)
  allowed_complete ts o (where_so us z e l) after h = ap (λ c. allowed c (us ++> after)) e ∙ optional_complete mark front inner next clear fewer p us z l after h
  allowed_complete ts o (where_not e) after h = ap (λ c. allowed c after) e

  pub allowed_begins : (ts : List Lexeme) (o : Option A) → Where b (Optional mark p.language) None ts o → (after : Stream) → next (ahead after) ≡ true → marked_or mark front inner next clear fewer p (ahead (ts ++> after)) ≡ true
  allowed_begins ts o (where_so us z e l) after h = optional_begins mark front inner next clear fewer p us z l after h
  allowed_begins ts o (where_not e) after h = optional_begins mark front inner next clear fewer p [] None left_out after h

  abbrev pub allowed_phrase : Phrase X (Option A) (marked_or mark front inner next clear fewer p) next
  allowed_phrase = record { reader = λ s. cond (b && is (ahead s) mark) (then_reads p.reader (λ x. gives (Some x)) (behind s)) (Ok (None, s)); language = Where b (Optional mark p.language) None; sound = allowed_sound; complete = allowed_complete; begins = allowed_begins }
