-- Items with marks between them, and links behind one another, as phrases.
use Rattle.std.proofs.Common.{Bool, List, None, Ok, Option, Some, [], ap, refl, subst, sym, true, ℕ, ◌++◌, ◌∙◌, ◌∷◌, ◌≡◌}
use Rattle.st_tokens.specs.Stream.{Lexeme, Stream, ◌++>◌}
use Rattle.st_reading.proofs.Chains.{chain_none, chain_of, chain_step}
use Rattle.st_reading.proofs.ListCompleteness.{Complete, row_complete}
use Rattle.st_reading.proofs.ListSoundness.{listing_sound}
use Rattle.st_reading.proofs.Numbers.{is_marked}
use Rattle.st_reading.proofs.Soundness.{Shrinks, chain_sound, sound_shrinks, split}
use Rattle.st_reading.proofs.Steadiness.{bind_ok}
use Rattle.st_reading.proofs.Streams.{append_stream}
use Rattle.st_reading.specs.Reading.{Read, Turn, ahead, chain, further, goes, leaves, only, size, then_reads, turned}
use Rattle.st_reading.specs.Sign.{is, sign_of}
use Rattle.st_reading.specs.Spelling.{Items, Links, Row, Sound, ended, item_more, left, linked, no_items, row}
use Rattle.st_reading.specs.Steady.{Within}
use Rattle.st_reading.specs.declared.mark.Mark.{Mark}
use Rattle.st_reading.specs.declared.sign.Sign.{Sign}
use Rattle.st_reading.specs.declared.sign.Sign.TheVariants as signs
use Rattle.st_reading.proofs.Phrases.{Phrase}
use Rattle.st_reading.proofs.Tokens.{but, not_that}

-- items with marks between them
module _ {X A : Type 0} (mark : Mark) (front inner next : Sign → Bool) (marked : inner (signs.Marked mark) ≡ true) (clear : Within next (but mark)) (fewer : Within next inner) (p : Phrase X A front inner) where
  abbrev pub rows : Stream → Read X (List A)
  rows = then_reads p.reader (λ x. further mark p.reader (x ∷ []))

  pub row_sound : Sound rows (Row mark p.language)
  row_sound s zs rest h =
      let a = split p.reader (λ x. further mark p.reader (x ∷ [])) s zs rest h in
      let c = p.sound s a.value a.middle a.first in
      let d = listing_sound mark p.reader p.language p.sound (size a.middle) (a.value ∷ []) a.middle zs rest a.second in
      record {
        text = c.text ++ d.text;
        is = c.is ∙ ap (λ m. c.text ++> m) d.is ∙ sym (append_stream c.text d.text rest);
        spells = subst (Row mark p.language (c.text ++ d.text)) (sym d.spells.joined) (row c.text d.text a.value d.spells.more_items c.spells d.spells.spells);
      }

  pub stops : (g : Sign) → next g ≡ true → only mark g ≡ None
  stops g h = let e = not_that mark g (clear g h) in rw e refl

  pub known : (g : Sign) → is g mark ≡ true → inner g ≡ true
  known g e = ap inner (is_marked g mark e) ∙ marked

  pub rows_complete : Complete next rows (Row mark p.language)
  rows_complete ts xs l after h = row_complete mark p.reader (sound_shrinks p.reader p.language p.sound) p.language inner next known fewer stops p.complete ts xs l after h

  pub between : (b : List Lexeme) (ys : List A) → Items mark p.language b ys → (after : Stream) → next (ahead after) ≡ true → inner (ahead (b ++> after)) ≡ true
  between b ys no_items after h = fewer (ahead after) h
  between b ys (item_more t a c y zs e l rest) after h = known (sign_of t) e

  pub rows_begin : (ts : List Lexeme) (xs : List A) → Row mark p.language ts xs → (after : Stream) → next (ahead after) ≡ true → front (ahead (ts ++> after)) ≡ true
  rows_begin ts zs (row a b x xs l items) after h = ap (λ s. front (ahead s)) (append_stream a b after) ∙ p.begins a x l (b ++> after) (between b xs items after h)

  abbrev pub row_phrase : Phrase X (List A) front next
  row_phrase = record { reader = then_reads p.reader (λ x. further mark p.reader (x ∷ [])); language = Row mark p.language; sound = row_sound; complete = rows_complete; begins = rows_begin }

-- links behind one another, with what was read before
module _ {X O B S : Type 0} (front last inner next : Sign → Bool) (op : Sign → Option O) (nothing : None ≡ op signs.Nothing) (stops : (g : Sign) → last g ≡ true → op g ≡ None) (ends_inner : Within last inner) (links_inner : (g : Sign) (o : O) → op g ≡ Some o → inner g ≡ true) (fewer : Within next inner)
    (turn : O → ℕ → S → Phrase X (Turn B S) front inner) (finish : S → Phrase X B last next) where
  abbrev pub turns : O → ℕ → S → Stream → Read X (Turn B S)
  turns o place x = (turn o place x).reader

  abbrev pub finishes : S → Stream → Read X B
  finishes x = (finish x).reader

  abbrev pub Linked : S → List Lexeme → B → Type 0
  Linked = Links op (λ o place x. (turn o place x).language) (λ x. (finish x).language)

  abbrev pub chained : S → Stream → Read X B
  chained x s = chain op turns finishes (size s) x s

  pub chained_sound : (x : S) → Sound (chained x) (Linked x)
  chained_sound x s z rest h = chain_sound op turns finishes (λ o place x. (turn o place x).language) (λ x. (finish x).language) nothing (λ o place x. (turn o place x).sound) (λ x. (finish x).sound) (size s) x s z rest h

  shrink : (o : O) (place : ℕ) (x : S) → Shrinks (turns o place x)
  shrink o place x = sound_shrinks (turns o place x) (turn o place x).language (turn o place x).sound

  follows_inner : (x : S) (ts : List Lexeme) (z : B) → Linked x ts z → (after : Stream) → next (ahead after) ≡ true → inner (ahead (ts ++> after)) ≡ true
  follows_inner x ts z (ended y us w l) after h = ends_inner (ahead (us ++> after)) ((finish y).begins us w l after h)
  follows_inner x ts z (left y t o us w e l) after h = links_inner (sign_of t) o e
  follows_inner x ts z (linked y w t o a b v e l rest) after h = links_inner (sign_of t) o e

  pub chained_complete : (x : S) (ts : List Lexeme) (z : B) → Linked x ts z → (after : Stream) → next (ahead after) ≡ true → chained x (ts ++> after) ≡ Ok (z, after)
  chained_complete x ts z (ended y us w l) after h =
      chain_none op turns finishes (size (us ++> after)) y (us ++> after) (sym (stops (ahead (us ++> after)) ((finish y).begins us w l after h))) ∙ (finish y).complete us w l after h
  chained_complete x ts z (left y t o us w e l) after h =
      chain_step op nothing turns finishes shrink t o y (us ++> after) e
      ∙ bind_ok (turns o t.start y) (turned (chain_of op nothing turns finishes shrink)) (us ++> after) (leaves w) after ((turn o t.start y).complete us (leaves w) l after (fewer (ahead after) h))
  chained_complete x ts z (linked y w t o a b v e l rest) after h =
      chain_step op nothing turns finishes shrink t o y ((a ++ b) ++> after) e
      ∙ ap (then_reads (turns o t.start y) (turned (chain_of op nothing turns finishes shrink))) (append_stream a b after)
      ∙ bind_ok (turns o t.start y) (turned (chain_of op nothing turns finishes shrink)) (a ++> (b ++> after)) (goes w) (b ++> after) ((turn o t.start y).complete a (goes w) l (b ++> after) (follows_inner w b v rest after h))
      ∙ chained_complete w b v rest after h

  pub chained_begins : (x : S) (ts : List Lexeme) (z : B) → Linked x ts z → (after : Stream) → next (ahead after) ≡ true → inner (ahead (ts ++> after)) ≡ true
  chained_begins x ts z l after h = follows_inner x ts z l after h

  abbrev pub chain_phrase : S → Phrase X B inner next
  chain_phrase x = record { reader = λ s. chain op turns finishes (size s) x s; language = Linked x; sound = chained_sound x; complete = chained_complete x; begins = chained_begins x }
