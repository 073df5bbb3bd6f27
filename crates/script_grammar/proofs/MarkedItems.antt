-- Items that each stand behind a mark, read plainly: with their law, and turn by turn.
use Rattle.std.proofs.Common.{◌≡◌, ℕ, zero, suc, ◌+◌, ◌≤◌, Bool, true, false, List, [], ◌∷◌, ◌++◌, Option, Some, None, Ok, Err, refl, sym, ap, subst, ◌∙◌, arith, append_assoc}
use Rattle.std.specs.Prelude.{◌||◌}
use Rattle.st_tokens.specs.Stream.{◌++>◌, Lexeme, Stream, ends, breaks, more}
use Rattle.st_reading.specs.declared.mark.Mark.{Mark}
use Rattle.st_reading.specs.declared.sign.Sign.{Sign}
use Rattle.st_reading.specs.declared.sign.Sign.TheVariants as signs
use Rattle.st_reading.specs.Sign.{sign_of, is}
use Rattle.st_reading.specs.Reading.{Read, ◌>>=◌, ahead, size, expected, gives, then_reads, Turn, goes, turned, chain, only, listing, further}
use Rattle.st_reading.specs.Breaches.{Breach, Reader}
use Rattle.st_reading.specs.Spelling.{Items, no_items, item_more, Sound}
use Rattle.st_reading.specs.Steady.{Within, anything}
use Rattle.st_reading.proofs.Numbers.{is_marked}
use Rattle.st_reading.proofs.Soundness.{Shrinks}
use Rattle.st_reading.proofs.Shrinking.{shrinks_map}
use Rattle.st_reading.proofs.Chains.{chain_none, chain_of, chain_step}
use Rattle.st_reading.proofs.Lawful.{lawful_chain, lawful_map, lawful_weak, lawful_gives}
use Rattle.st_reading.proofs.ListSoundness.{listing_sound}
use Rattle.st_reading.proofs.ListCompleteness.{Complete, items_complete, list_between}
use Rattle.st_reading.proofs.Tokens.{but, not_that}
use Rattle.st_reading.proofs.FairReaders.{Fair}
use Rattle.st_reading.proofs.LawfulPhrases.{LawfulPhrase}

-- a further item is read behind those that were read
module _ {A : Type 0} (mark : Mark) (r : Reader A) (shrinks : Shrinks r) where
  abbrev pub further_of : List A → Reader (List A)
  further_of xs = further mark r xs

  abbrev grown : List A → A → Turn (List A) (List A)
  grown xs x = goes (xs ++ x ∷ [])

  grows : (o : Unit {0}) (place : ℕ) (xs : List A) → Shrinks {A = Turn (List A) (List A)} (listing r o place xs)
  grows o place xs = shrinks_map (grown xs) r shrinks

  pub further_none : (xs : List A) (s : Stream) → is (ahead s) mark ≡ false → further_of xs s ≡ Ok (xs, s)
  further_none xs s e = chain_none (only mark) (listing r) gives (size s) xs s (rw e refl)

  pub further_step : (xs : List A) (t : Lexeme) (s : Stream) → is (sign_of t) mark ≡ true → further_of xs (more t s) ≡ then_reads r (λ x. further_of (xs ++ x ∷ [])) s
  further_step xs t s e = chain_step (only mark) refl (listing r) gives grows t tt xs s (rw e refl) ∙ at_read (r s)
    where
      at_read : (o : Read Breach A) → ((o >>= λ x. gives {X = Breach} (grown xs x.0) x.1) >>= λ y. turned (chain_of (only mark) refl (listing r) gives grows) y.0 y.1) ≡ (o >>= λ x. further_of (xs ++ x.0 ∷ []) x.1)
      at_read (Ok x) = refl
      at_read (Err f) = refl

  -- those read before are carried along
  abbrev behind_all : List A → List A → List A
  behind_all xs ys = xs ++ ys

  abbrev carried : List A → List A → Reader (List A)
  carried xs ys = then_reads (further_of ys) (λ zs. gives (behind_all xs zs))

  extended : (n : ℕ) (xs ys : List A) (s : Stream) → size s ≤ n → further_of (xs ++ ys) s ≡ carried xs ys s
  extended n xs ys (ends p) le = further_none (xs ++ ys) (ends p) refl ∙ sym (ap (λ (o : Read Breach (List A)). o >>= λ z. gives {X = Breach} (behind_all xs z.0) z.1) (further_none ys (ends p) refl))
  extended n xs ys (breaks f) le = further_none (xs ++ ys) (breaks f) refl ∙ sym (ap (λ (o : Read Breach (List A)). o >>= λ z. gives {X = Breach} (behind_all xs z.0) z.1) (further_none ys (breaks f) refl))
  extended zero xs ys (more t s) le = absurd (omega arith)
  extended (suc n) xs ys (more t s) le = at_test (λ us m h. extended n xs us m h) (is (sign_of t) mark) refl
    where
      at_read : ((us : List A) (m : Stream) → size m ≤ n → further_of (xs ++ us) m ≡ carried xs us m) → (o : Read Breach A) → r s ≡ o
          → (o >>= λ x. further_of ((xs ++ ys) ++ x.0 ∷ []) x.1) ≡ ((o >>= λ x. further_of (ys ++ x.0 ∷ []) x.1) >>= λ z. gives {X = Breach} (behind_all xs z.0) z.1)
      at_read again (Ok (x, m)) e =
          let less = shrinks s x m e in
          ap (λ (zs : List A). further_of zs m) (append_assoc xs ys (x ∷ [])) ∙ again (ys ++ x ∷ []) m (omega (arith, le, less))
      at_read again (Err f) e = refl

      at_test : ((us : List A) (m : Stream) → size m ≤ n → further_of (xs ++ us) m ≡ carried xs us m) → (b : Bool) → is (sign_of t) mark ≡ b → further_of (xs ++ ys) (more t s) ≡ carried xs ys (more t s)
      at_test again false e = further_none (xs ++ ys) (more t s) e ∙ sym (ap (λ (o : Read Breach (List A)). o >>= λ z. gives {X = Breach} (behind_all xs z.0) z.1) (further_none ys (more t s) e))
      at_test again true e = further_step (xs ++ ys) t s e ∙ at_read again (r s) refl ∙ sym (ap (λ (o : Read Breach (List A)). o >>= λ z. gives {X = Breach} (behind_all xs z.0) z.1) (further_step ys t s e))

  abbrev pub one_marked : Reader A
  one_marked = then_reads (expected mark) (λ m. r)

  abbrev pub with_others : A → Reader (List A)
  with_others x = then_reads (further_of []) (λ xs. gives (x ∷ xs))

  -- the first of them, and the others
  pub items_step : (t : Lexeme) (s : Stream) → is (sign_of t) mark ≡ true → further_of [] (more t s) ≡ then_reads one_marked with_others (more t s)
  items_step t s e = further_step [] t s e ∙ at_read (r s) refl ∙ sym (ap (λ (o : Read Breach ℕ). (o >>= λ m. r m.1) >>= λ x. with_others x.0 x.1) (let k : expected {X = Breach} mark (more t s) ≡ Ok (t.start, s) = rw e refl in k))
    where
      at_read : (o : Read Breach A) → r s ≡ o → (o >>= λ x. further_of (x.0 ∷ []) x.1) ≡ (o >>= λ x. with_others x.0 x.1)
      at_read (Ok (x, m)) k = extended (size m) (x ∷ []) [] m (omega arith)
      at_read (Err f) k = refl

-- as a phrase
module _ {A : Type 0} (mark : Mark) (front inner next : Sign → Bool) (marked : inner (signs.Marked mark) ≡ true) (clear : Within next (but mark)) (fewer : Within next inner) (p : LawfulPhrase Breach A front inner) where
  abbrev pub items : Reader (List A)
  items = further_of mark p.phrase.reader p.lawful.one []

  abbrev pub items_front : Sign → Bool
  items_front g = is g mark || next g

  pub items_or_next : (g : Sign) → next g ≡ true → items_front g ≡ true
  items_or_next g h = let e = not_that mark g (clear g h) in rw (e, h) refl

  stops : (g : Sign) → next g ≡ true → only mark g ≡ None
  stops g h = let e = not_that mark g (clear g h) in rw e refl

  known : (g : Sign) → is g mark ≡ true → inner g ≡ true
  known g e = ap inner (is_marked g mark e) ∙ marked

  pub items_sound : Sound items (Items mark p.phrase.language)
  items_sound s zs rest h =
      let d = listing_sound mark p.phrase.reader p.phrase.language p.phrase.sound (size s) [] s zs rest h in
      record { text = d.text; is = d.is; spells = subst (Items mark p.phrase.language d.text) (sym d.spells.joined) d.spells.spells }

  pub items_are_complete : Complete next items (Items mark p.phrase.language)
  items_are_complete ts xs l after h = items_complete mark p.phrase.reader p.lawful.one p.phrase.language inner next known fewer stops p.phrase.complete ts xs l [] after h

  pub items_begin : (ts : List Lexeme) (xs : List A) → Items mark p.phrase.language ts xs → (after : Stream) → next (ahead after) ≡ true → items_front (ahead (ts ++> after)) ≡ true
  items_begin ts xs no_items after h = items_or_next (ahead after) h
  items_begin ts xs (item_more t a c y zs e l rest) after h = rw e refl

  pub items_fair : Fair next next items
  items_fair =
      lawful_chain next next inner (λ g h. h) fewer (only mark) stops refl (listing p.phrase.reader) (λ i. listing p.phrase.reader) gives (λ i. gives)
      (λ o n ys. lawful_map anything inner (λ g h. refl) (λ x. goes (ys ++ x ∷ [])) p.phrase.reader (λ i. p.phrase.reader) (lawful_weak front anything inner (λ g h. refl) p.phrase.reader (λ i. p.phrase.reader) p.lawful))
      (λ ys. lawful_gives next next ys) []

  abbrev pub items_lawful : LawfulPhrase Breach (List A) items_front next
  items_lawful = record {
    phrase = record { reader = items; language = Items mark p.phrase.language; sound = items_sound; complete = items_are_complete; begins = items_begin };
    lawful = lawful_weak next items_front next items_or_next items (λ i. items) items_fair;
  }
