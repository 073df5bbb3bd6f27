-- Texts behind one another, and behind marks: read plainly, with their law, and judged beside that.
use Rattle.std.proofs.Common.{◌≡◌, ℕ, ◌+◌, Bool, true, false, List, [], ◌∷◌, ◌++◌, All, Ok, Err, refl, sym, ap, ◌∙◌}
use Rattle.st_tokens.specs.Stream.{◌++>◌, Lexeme, Stream, ends, more, IsSpelled}
use Rattle.st_reading.specs.declared.mark.Mark.{Mark}
use Rattle.st_reading.specs.declared.sign.Sign.{Sign}
use Rattle.st_reading.specs.declared.sign.Sign.TheVariants as signs
use Rattle.st_reading.specs.Sign.{sign_of, is}
use Rattle.st_reading.specs.Reading.{syntax, ahead, expected, gives, then_reads}
use Rattle.st_reading.specs.Breaches.{Breach, Reader}
use Rattle.st_reading.specs.BrokenRules.{Broken}
use Rattle.st_reading.specs.Phrases.{After}
use Rattle.st_reading.specs.Steady.{Short, Within, Wide, wider, moves, Parts, calmer, takes, anything}
use Rattle.st_reading.proofs.Soundness.{split, values}
use Rattle.st_reading.proofs.Steadiness.{bind_ok, bind_err}
use Rattle.st_reading.proofs.Tokens.{among}
use Rattle.st_reading.proofs.Lawful.{lawful_bind, lawful_gives, viable_of}
use Rattle.st_reading.proofs.Phrases.{map_phrase, to_after, from_after}
use Rattle.st_reading.proofs.LawfulPhrases.{LawfulPhrase, then_lawful, mark_lawful, as_lawful}
use Rattle.st_reading.proofs.Judging.{JudgedAt, good, bad, alike, judged_bind}
use Rattle.st_reading.proofs.JudgedParts.{judged_map, judged_expected}
use Rattle.script_grammar.specs.FirstFaults.{IsSyntactic}
use Rattle.script_grammar.proofs.JudgedReferences.{refusal_syntactic}

-- READ PLAINLY
abbrev pub both_of : {A B : Type 0} → A → B → A × B
both_of x y = (x, y)

abbrev pub pairs : {A B : Type 0} → Reader A → Reader B → Reader (A × B)
pairs r q = then_reads r (λ x. then_reads q (λ y. gives (both_of x y)))

-- what is made of a value, where a token is needed or what may follow may begin
abbrev pub made_lawful : {A B : Type 0} (front next : Sign → Bool) (f : A → B) (p : LawfulPhrase Breach A front next) → Wide front next next p.phrase.reader → LawfulPhrase Breach B front next
made_lawful front next f p wide = record {
  phrase = map_phrase front next f p.phrase;
  lawful = lawful_bind front next next next (λ g h. h) p.phrase.reader (λ i. p.phrase.reader) (λ x. gives (f x)) (λ i x. gives (f x)) (λ x. wider (λ g h. h)) wide (calmer (λ g h. h)) p.lawful (λ x. lawful_gives next next (f x));
}

-- one text and another behind it, which needs a token
module _ {A B : Type 0} (front mid front2 next : Sign → Bool) (meets : Within front2 mid) (quiet : next signs.Nothing ≡ true) (p : LawfulPhrase Breach A front mid) (wide : Wide front front2 mid p.phrase.reader) (q : LawfulPhrase Breach B front2 next)
    (needs : q.phrase.reader (ends 0) ≡ Err (syntax 0)) where
  pub needs_too : (x : A) → then_reads q.phrase.reader (λ y. gives (both_of x y)) (ends 0) ≡ Err (syntax 0)
  needs_too x = bind_err q.phrase.reader (λ y. gives (both_of x y)) (ends 0) (syntax 0) needs

  abbrev pub pair_lawful : LawfulPhrase Breach (A × B) front next
  pair_lawful =
      then_lawful front mid front2 next meets p (λ x. made_lawful front2 next (both_of x) q (moves quiet (syntax 0) needs))
      (λ x. moves quiet (syntax 0) (needs_too x)) wide (takes quiet (λ x. syntax 0) needs_too)

-- the second completes the first, whatever that read
pub short_pair : {A B : Type 0} (mid front2 next : Sign → Bool) (meets : Within front2 mid) (q : LawfulPhrase Breach B front2 next) → Wide front2 next next q.phrase.reader → Short {A = A} mid next (λ b. then_reads q.phrase.reader (λ c. gives (both_of b c)))
short_pair mid front2 next meets q fits =
    let v = viable_of front2 next q.phrase.reader fits (λ i. q.phrase.reader) q.lawful tt in
    record {
      text = λ b. v.others;
      spelled = λ b. v.spelled;
      value = λ b. both_of b v.value;
      begins = λ b after h. meets (ahead (v.others ++> after)) (v.begins refl after h);
      reads = λ b after h. bind_ok q.phrase.reader (λ c. gives (both_of b c)) (v.others ++> after) v.value after (v.reads after h);
    }

-- the same of what stands behind a mark
pub short_after : {B : Type 0} (front next : Sign → Bool) (q : LawfulPhrase Breach B front next) → Wide front next next q.phrase.reader → Short {A = ℕ} anything next (λ m. q.phrase.reader)
short_after front next q fits =
    let v = viable_of front next q.phrase.reader fits (λ i. q.phrase.reader) q.lawful tt in
    record { text = λ b. v.others; spelled = λ b. v.spelled; value = λ b. v.value; begins = λ b after h. refl; reads = λ b after h. v.reads after h }

-- behind a mark, as w is
module _ {A : Type 0} (mark : Mark) (w : Lexeme) (w_spelled : IsSpelled w) (w_is : is (sign_of w) mark ≡ true) (front next : Sign → Bool) (p : LawfulPhrase Breach A front next) (fits : Wide front next next p.phrase.reader) where
  pub begins_so : among (mark ∷ []) (sign_of w) ≡ true
  begins_so = rw w_is refl

  abbrev pub after_lawful : LawfulPhrase Breach A (among (mark ∷ [])) next
  after_lawful =
      as_lawful (among (mark ∷ [])) next
      (then_lawful (among (mark ∷ [])) anything front next (λ g h. refl) (mark_lawful mark w w_spelled w_is begins_so) (λ m. p) (λ m. fits) (moves refl (syntax 0) refl) (calmer (λ g h. refl)))
      (After mark p.phrase.language) (to_after mark front next p.phrase) (from_after mark front next p.phrase)

-- JUDGED
-- what is made of what is judged
pub judge_map : {A B C : Type 0} (calm : Sign → Bool) (at : ℕ) (judge : Reader A) (plain : Reader B) (count : B → ℕ) (rules : B → List (Broken Breach)) (makes : B → A → Type 0) (k : A → C) (makes2 : B → C → Type 0) → ((b : B) (a : A) → makes b a → makes2 b (k a))
    → (s : Stream) → JudgedAt IsSyntactic calm at judge plain count rules makes s → JudgedAt IsSyntactic calm at (then_reads judge (λ a. gives (k a))) plain count rules makes2 s
judge_map calm at judge plain count rules makes k makes2 to s (good ts b a rest is go go2 many none made) =
    good ts b (k a) rest is go (λ after h. bind_ok judge (λ a. gives (k a)) (ts ++> after) a after (go2 after h)) many none (to b a made)
judge_map calm at judge plain count rules makes k makes2 to s (bad t ts rest first open_to is found settles stops told v onward) =
    bad t ts rest first open_to is found settles (λ after h. bind_err judge (λ a. gives (k a)) (more t (ts ++> after)) _ (stops after h)) told v onward
judge_map calm at judge plain count rules makes k makes2 to s (alike f plain_f stop stop2) = alike f plain_f (bind_err judge (λ a. gives (k a)) s f stop) stop2

-- one behind another, each with its count and its rules
module _ {A1 B1 A B2 : Type 0} (calm1 calm : Sign → Bool) (judge1 : Reader A1) (plain1 : Reader B1) (count1 : B1 → ℕ) (rules1 : ℕ → B1 → List (Broken Breach)) (makes1 : B1 → A1 → Type 0)
    (judge2 : A1 → Reader A) (plain2 : Reader B2) (count2 : B2 → ℕ) (rules2 : ℕ → B2 → List (Broken Breach)) (makes : B1 × B2 → A → Type 0) (short : Short {A = B1} calm1 calm (λ b. then_reads plain2 (λ c. gives (both_of b c)))) where
  abbrev pub pair_count : B1 × B2 → ℕ
  pair_count p = count1 p.0 + count2 p.1

  abbrev pub pair_rules : ℕ → B1 × B2 → List (Broken Breach)
  pair_rules at p = rules1 at p.0 ++ rules2 (at + count1 p.0) p.1

  first_by : (b : B1) (p : B1 × B2) (s rest : Stream) → then_reads plain2 (λ c. gives (both_of b c)) s ≡ Ok (p, rest) → p.0 ≡ b
  first_by b p s rest h =
      let q = split plain2 (λ c. gives (both_of b c)) s p rest h in
      let v = values {X = Breach} (gives (both_of b q.value) q.middle) (both_of b q.value) p q.middle rest refl q.second in
      ap (λ (z : B1 × B2). z.0) (sym v.0)

  pub judged_pair : (at : ℕ) (s : Stream) → JudgedAt IsSyntactic calm1 at judge1 plain1 count1 (rules1 at) makes1 s
      → ((b : B1) (a : A1) → makes1 b a → (at2 : ℕ) (m : Stream) → JudgedAt IsSyntactic calm at2 (judge2 a) plain2 count2 (rules2 at2) (λ c x. makes (both_of b c) x) m)
      → JudgedAt IsSyntactic calm at (then_reads judge1 judge2) (pairs plain1 plain2) pair_count (pair_rules at) makes s
  judged_pair at s first second =
      judged_bind IsSyntactic calm1 calm at judge1 plain1 count1 (rules1 at) makes1 judge2 (λ b. then_reads plain2 (λ c. gives (both_of b c))) pair_count (pair_rules at) makes (λ b p. count2 p.1) (λ b p. rules2 (at + count1 b) p.1)
      (λ b p m rest h. ap (λ z. count1 z + count2 p.1) (first_by b p m rest h))
      (λ b p m rest h. ap (λ z. rules1 at z ++ rules2 (at + count1 z) p.1) (first_by b p m rest h))
      short s first
      (λ ts b a rest is many made. judged_map IsSyntactic calm (at + count1 b) (judge2 a) plain2 count2 (rules2 (at + count1 b)) (λ c x. makes (both_of b c) x) (both_of b) (λ p. count2 p.1) (λ p. rules2 (at + count1 b) p.1) makes (λ c. refl) (λ c. refl) (λ c x m. m) rest (second b a made (at + count1 b) rest))

-- behind a mark
module _ {A B : Type 0} (mark : Mark) (calm : Sign → Bool) (judge : Reader A) (plain : Reader B) (count : B → ℕ) (rules : ℕ → B → List (Broken Breach)) (makes : B → A → Type 0) (short : Short {A = ℕ} anything calm (λ m. plain)) where
  pub judged_after : (at : ℕ) → ((m : Stream) → JudgedAt IsSyntactic calm (at + 1) judge plain count (rules (at + 1)) makes m)
      → (s : Stream) → JudgedAt IsSyntactic calm at (then_reads (expected mark) (λ m. judge)) (then_reads (expected mark) (λ m. plain)) (λ b. 1 + count b) (λ b. rules (at + 1) b) makes s
  judged_after at judged s =
      judged_bind IsSyntactic anything calm at (expected mark) (expected mark) (λ n. 1) (λ n. []) (λ n k. k ≡ n) (λ m. judge) (λ m. plain) (λ b. 1 + count b) (λ b. rules (at + 1) b) makes (λ n b. count b) (λ n b. rules (at + 1) b)
      (λ n b m rest h. refl) (λ n b m rest h. refl) short s
      (judged_expected IsSyntactic refusal_syntactic anything at mark s) (λ ts n k rest is many made. judged rest)
