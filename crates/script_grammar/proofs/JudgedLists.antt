-- Lists of items behind marks, judged: items that know how many stand before them, and others.
use Rattle.std.proofs.Common.{◌≡◌, ℕ, suc, ◌+◌, Bool, true, false, cond, List, [], ◌∷◌, ◌++◌, length, length-append, Ok, Err, refl, sym, ap, subst, ◌∙◌, arith}
use Rattle.std.specs.Prelude.{nat_lt}
use Rattle.st_tokens.specs.Stream.{◌++>◌, Lexeme, Stream, more}
use Rattle.st_reading.specs.declared.mark.Mark.{Mark}
use Rattle.st_reading.specs.declared.sign.Sign.{Sign}
use Rattle.st_reading.specs.declared.sign.Sign.TheVariants as signs
use Rattle.st_reading.specs.Sign.{sign_of, is}
use Rattle.st_reading.specs.Reading.{Read, ◌>>=◌, ahead, size, expected, gives, then_reads, Turn, goes, turned, chain, only, further}
use Rattle.st_reading.specs.Breaches.{Breach, Reader}
use Rattle.st_reading.specs.BrokenRules.{Broken}
use Rattle.st_reading.specs.Steady.{Within, Wide}
use Rattle.st_reading.proofs.Soundness.{Shrinks}
use Rattle.st_reading.proofs.Shrinking.{shrinks_map}
use Rattle.st_reading.proofs.Chains.{chain_none, chain_of, chain_step}
use Rattle.st_reading.proofs.Tokens.{but}
use Rattle.st_reading.proofs.LawfulPhrases.{LawfulPhrase}
use Rattle.st_reading.proofs.Judging.{JudgedAt}
use Rattle.st_reading.proofs.JudgedParts.{Turns}
use Rattle.proof_script.specs.Listing.{counted, further_counted}
use Rattle.script_grammar.specs.RawScripts.{RawUnit}
use Rattle.script_grammar.specs.Sizes.{marked_size}
use Rattle.script_grammar.specs.Breaking.{marked_rules, listed_rules, one_too_many_rules}
use Rattle.script_grammar.specs.FirstFaults.{IsSyntactic}
use Rattle.script_grammar.proofs.Judges.{Judges, Whatever, made_so, after_so, shrinks_so}
use Rattle.script_grammar.proofs.MarkedItems.{further_none, further_step, items, one_marked}
use Rattle.script_grammar.proofs.JudgedRows.{judged_items}

-- one item more is made
abbrev pub Grows : {A R : Type 0} → List A → R → List A → Type 0
Grows {A} xs r ys = (a : A) × (ys ≡ xs ++ a ∷ [])

pub turns_length : {A R : Type 0} (xs : List A) (rs : List R) (ys : List A) → Turns Grows xs rs ys → length ys ≡ length xs + length rs
turns_length xs [] ys e = omega (arith, ap length e)
turns_length xs (r ∷ rs) ys (zs, one, t) =
    let grown = one in
    omega (arith, turns_length zs rs ys t, ap length grown.1, length-append xs (grown.0 ∷ []))

module _ {A R : Type 0} (mark : Mark) (front inner next : Sign → Bool) (marked : inner (signs.Marked mark) ≡ true) (clear : Within next (but mark)) (fewer : Within next inner) (p : LawfulPhrase Breach R front inner) (fits : Wide front inner inner p.phrase.reader) (count : R → ℕ) (rules : ℕ → R → List (Broken Breach)) where
  abbrev pub adding : List A → A → List A
  adding xs x = xs ++ x ∷ []

  abbrev turn : Reader A → List A → Reader (List A)
  turn r xs = then_reads (expected mark) (λ m. then_reads r (λ x. gives (adding xs x)))

  turn_so : (r : Reader A) (xs : List A) (rules2 : ℕ → R → List (Broken Breach)) (makes : R → A → Type 0) → Judges inner r p.phrase.reader count rules2 makes
      → Judges inner (turn r xs) (one_marked mark p.phrase.reader p.lawful.one) (λ a. 1 + count a) (λ at a. rules2 (at + 1) a) (Grows xs)
  turn_so r xs rules2 makes j = after_so mark p fits (made_so (adding xs) (Grows xs) (λ b a m. (a, refl)) j)

  -- ITEMS THAT ARE ALIKE
  module _ (r : Reader A) (makes : R → A → Type 0) (item : Judges inner r p.phrase.reader count rules makes) where
    loop_step : (xs : List A) (t : Lexeme) (s : Stream) → is (sign_of t) mark ≡ true → further mark r xs (more t s) ≡ then_reads (turn r xs) (further mark r) (more t s)
    loop_step xs t s e = further_step mark r (shrinks_so item) xs t s e ∙ at_read (r s) ∙ sym (ap (λ (o : Read Breach ℕ). (o >>= λ m. then_reads r (λ x. gives (adding xs x)) m.1) >>= λ y. further mark r y.0 y.1) (let k : expected {X = Breach} mark (more t s) ≡ Ok (t.start, s) = rw e refl in k))
      where
        at_read : (o : Read Breach A) → (o >>= λ x. further mark r (xs ++ x.0 ∷ []) x.1) ≡ ((o >>= λ x. gives {X = Breach} (adding xs x.0) x.1) >>= λ y. further mark r y.0 y.1)
        at_read (Ok x) = refl
        at_read (Err f) = refl

    abbrev Anything : List A → Unit {0} → Type 0
    Anything xs k = Unit {0}

    pub alike_so : (xs : List A) → Judges next (further mark r xs) (items mark front inner next marked clear fewer p) (marked_size count) (marked_rules count rules) (Turns Grows xs)
    alike_so xs = record {
      judged = λ at s. judged_items mark front inner next marked clear fewer p (further mark r) (turn r) (λ x m e. further_none mark r (shrinks_so item) x m e) loop_step count Grows Anything (λ k a. k) (λ x y k a e m. tt)
          (λ k n a. rules (n + 1) a) (λ k n bs. marked_rules count rules n bs) (λ k n. refl) (λ k n a bs. refl) (λ x k n e m. (turn_so r x rules makes item).judged n m) xs tt at tt s;
    }

  -- ITEMS THAT KNOW HOW MANY STAND BEFORE THEM
  module _ (form : R → RawUnit) (r : ℕ → Reader A) where
    abbrev pub item_rules : ℕ → ℕ → R → List (Broken Breach)
    item_rules before at x = cond (nat_lt before 64) (rules at x) (one_too_many_rules at (form x))

    module _ (item : (before : ℕ) → Judges inner (r before) p.phrase.reader count (item_rules before) Whatever) where
      abbrev loop : List A → Reader (List A)
      loop xs = further_counted mark r xs

      abbrev grown : List A → A → Turn (List A) (List A)
      grown xs x = goes (xs ++ x ∷ [])

      counted_shrinks : (o : Unit {0}) (place : ℕ) (xs : List A) → Shrinks {A = Turn (List A) (List A)} (counted r o place xs)
      counted_shrinks o place xs = shrinks_map (grown xs) (r (length xs)) (shrinks_so (item (length xs)))

      counted_none : (xs : List A) (s : Stream) → is (ahead s) mark ≡ false → loop xs s ≡ Ok (xs, s)
      counted_none xs s e = chain_none (only mark) (counted r) gives (size s) xs s (rw e refl)

      counted_step : (xs : List A) (t : Lexeme) (s : Stream) → is (sign_of t) mark ≡ true → loop xs (more t s) ≡ then_reads (turn (r (length xs)) xs) loop (more t s)
      counted_step xs t s e =
          chain_step (only mark) refl (counted r) gives counted_shrinks t tt xs s (rw e refl) ∙ at_read (r (length xs) s)
          ∙ sym (ap (λ (o : Read Breach ℕ). (o >>= λ m. then_reads (r (length xs)) (λ x. gives (adding xs x)) m.1) >>= λ y. loop y.0 y.1) (let k : expected {X = Breach} mark (more t s) ≡ Ok (t.start, s) = rw e refl in k))
        where
          at_read : (o : Read Breach A) → ((o >>= λ x. gives {X = Breach} (grown xs x.0) x.1) >>= λ y. turned (chain_of (only mark) refl (counted r) gives counted_shrinks) y.0 y.1) ≡ ((o >>= λ x. gives {X = Breach} (adding xs x.0) x.1) >>= λ y. loop y.0 y.1)
          at_read (Ok x) = refl
          at_read (Err f) = refl

      abbrev Counts : List A → ℕ → Type 0
      Counts xs k = length xs ≡ k

      counted_item : (xs : List A) (k at : ℕ) → length xs ≡ k → (s : Stream) → JudgedAt IsSyntactic inner at (turn (r (length xs)) xs) (one_marked mark p.phrase.reader p.lawful.one) (λ a. 1 + count a) (item_rules k (at + 1)) (Grows xs) s
      counted_item xs k at e s =
          subst (λ n. JudgedAt IsSyntactic inner at (turn (r (length xs)) xs) (one_marked mark p.phrase.reader p.lawful.one) (λ a. 1 + count a) (item_rules n (at + 1)) (Grows xs) s) e
          ((turn_so (r (length xs)) xs (item_rules (length xs)) Whatever (item (length xs))).judged at s)

      pub counted_so : (xs : List A) (k : ℕ) → length xs ≡ k → Judges next (further_counted mark r xs) (items mark front inner next marked clear fewer p) (marked_size count) (listed_rules form count rules k) (Turns Grows xs)
      counted_so xs k e = record {
        judged = λ at s. judged_items mark front inner next marked clear fewer p loop (λ x. turn (r (length x)) x) counted_none counted_step count Grows Counts (λ k a. suc k) (λ x y k a e m. omega (arith, ap length m.1, length-append x (m.0 ∷ []), e))
            (λ k n a. item_rules k (n + 1) a) (λ k n bs. listed_rules form count rules k n bs) (λ k n. refl) (λ k n a bs. refl) (λ x k n e m. counted_item x k n e m) xs k at e s;
      }
