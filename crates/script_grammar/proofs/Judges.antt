-- Readers that judge beside plain ones, as they are put together: each with how many tokens it takes and its rules.
use Rattle.std.proofs.Common.{◌≡◌, ℕ, ◌+◌, ◌≤◌, Bool, true, false, cond, List, [], ◌∷◌, ◌++◌, Ok, Err, refl, sym, ap, ◌∙◌, arith}
use Rattle.st_tokens.specs.Stream.{◌++>◌, Lexeme, Stream, ends, breaks, more}
use Rattle.st_reading.specs.declared.mark.Mark.{Mark}
use Rattle.st_reading.specs.declared.sign.Sign.{Sign}
use Rattle.st_reading.specs.Sign.{sign_of, is}
use Rattle.st_reading.specs.Reading.{Read, ◌>>=◌, Stop, other, refusal, size, expected, gives, then_reads}
use Rattle.st_reading.specs.Breaches.{Breach, Reader, crowded, unless}
use Rattle.st_reading.specs.BrokenRules.{Broken}
use Rattle.st_reading.specs.Steady.{Within, Wide, anything}
use Rattle.st_reading.proofs.Streams.{size_through}
use Rattle.st_reading.proofs.Spelled.{none_spelled}
use Rattle.st_reading.proofs.Soundness.{Shrinks, split, values}
use Rattle.st_reading.proofs.LawfulPhrases.{LawfulPhrase}
use Rattle.st_reading.proofs.Judging.{closed, JudgedAt, good, bad, alike, judged_bind}
use Rattle.st_reading.proofs.JudgedParts.{judged_as, judged_map, judged_expected, judged_gives}
use Rattle.proof_script.specs.Listing.{optional}
use Rattle.script_grammar.specs.Sizes.{optional_size}
use Rattle.script_grammar.specs.Breaking.{found_at, broken_where, optional_rules}
use Rattle.script_grammar.specs.FirstFaults.{IsSyntactic}
use Rattle.script_grammar.proofs.JudgedReferences.{refusal_syntactic, closed_settles}
use Rattle.script_grammar.proofs.JudgedPairs.{both_of, pairs, short_pair, short_after, judge_map, judged_after}
use Rattle.script_grammar.proofs.JudgedOptions.{SameThere, judged_calmer, judged_option}

pub record Judges {A B : Type 0} (next : Sign → Bool) (judge : Reader A) (plain : Reader B) (count : B → ℕ) (rules : ℕ → B → List (Broken Breach)) (makes : B → A → Type 0) : Type 0 where
  pub judged : (at : ℕ) (s : Stream) → JudgedAt IsSyntactic next at judge plain count (rules at) makes s

-- nothing is known of what is made
abbrev pub Whatever : {A B : Type 0} → B → A → Type 0
Whatever b a = Unit {0}

pub first_of_pair : {B1 B2 : Type 0} (plain : Reader B2) (b : B1) (p : B1 × B2) (s rest : Stream) → then_reads plain (λ c. gives (both_of b c)) s ≡ Ok (p, rest) → p.0 ≡ b
first_of_pair {B1} {B2} plain b p s rest h =
    let q = split plain (λ c. gives (both_of b c)) s p rest h in
    let v = values {X = Breach} (gives (both_of b q.value) q.middle) (both_of b q.value) p q.middle rest refl q.second in
    ap (λ (z : B1 × B2). z.0) (sym v.0)

-- one behind another, whose rules may hang on what the first read
module _ {A1 B1 A B2 : Type 0} {calm1 calm front2 : Sign → Bool} {judge1 : Reader A1} {plain1 : Reader B1} {count1 : B1 → ℕ} {rules1 : ℕ → B1 → List (Broken Breach)} {makes1 : B1 → A1 → Type 0}
    {judge2 : A1 → Reader A} {count2 : B2 → ℕ} {rules2 : B1 → ℕ → B2 → List (Broken Breach)} {makes : B1 × B2 → A → Type 0} where
  pub pair_so : (meets : Within front2 calm1) (q : LawfulPhrase Breach B2 front2 calm) → Wide front2 calm calm q.phrase.reader → Judges calm1 judge1 plain1 count1 rules1 makes1
      → ((b : B1) (a : A1) → makes1 b a → Judges calm (judge2 a) q.phrase.reader count2 (rules2 b) (λ c x. makes (both_of b c) x))
      → Judges calm (then_reads judge1 judge2) (pairs plain1 q.phrase.reader) (λ p. count1 p.0 + count2 p.1) (λ at p. rules1 at p.0 ++ rules2 p.0 (at + count1 p.0) p.1) makes
  pair_so meets q fits first second = record {
    judged = λ at s. judged_bind IsSyntactic calm1 calm at judge1 plain1 count1 (rules1 at) makes1 judge2 (λ b. then_reads q.phrase.reader (λ c. gives (both_of b c))) (λ p. count1 p.0 + count2 p.1) (λ p. rules1 at p.0 ++ rules2 p.0 (at + count1 p.0) p.1) makes
        (λ b p. count2 p.1) (λ b p. rules2 b (at + count1 b) p.1)
        (λ b p m rest h. ap (λ z. count1 z + count2 p.1) (first_of_pair q.phrase.reader b p m rest h))
        (λ b p m rest h. ap (λ z. rules1 at z ++ rules2 z (at + count1 z) p.1) (first_of_pair q.phrase.reader b p m rest h))
        (short_pair calm1 front2 calm meets q fits) s (first.judged at s)
        (λ ts b a rest is many made.
        judged_map IsSyntactic calm (at + count1 b) (judge2 a) q.phrase.reader count2 (rules2 b (at + count1 b)) (λ c x. makes (both_of b c) x) (both_of b) (λ p. count2 p.1) (λ p. rules2 b (at + count1 b) p.1) makes (λ c. refl) (λ c. refl) (λ c x m. m) rest
        ((second b a made).judged (at + count1 b) rest));
  }

module _ {A B : Type 0} {next : Sign → Bool} {judge : Reader A} {plain : Reader B} {count : B → ℕ} {rules : ℕ → B → List (Broken Breach)} {makes : B → A → Type 0} where
  -- what is made of what is judged, and of what is read plainly
  pub made_so : {C : Type 0} (k : A → C) (makes2 : B → C → Type 0) → ((b : B) (a : A) → makes b a → makes2 b (k a)) → Judges next judge plain count rules makes → Judges next (then_reads judge (λ a. gives (k a))) plain count rules makes2
  made_so k makes2 to j = record { judged = λ at s. judge_map next at judge plain count (rules at) makes k makes2 to s (j.judged at s) }

  pub seen_so : {C : Type 0} (f : B → C) (count2 : C → ℕ) (rules2 : ℕ → C → List (Broken Breach)) (makes2 : C → A → Type 0) → ((b : B) → count2 (f b) ≡ count b) → ((at : ℕ) (b : B) → rules2 at (f b) ≡ rules at b) → ((b : B) (a : A) → makes b a → makes2 (f b) a)
      → Judges next judge plain count rules makes → Judges next judge (then_reads plain (λ b. gives (f b))) count2 rules2 makes2
  seen_so f count2 rules2 makes2 same same2 to j = record { judged = λ at s. judged_map IsSyntactic next at judge plain count (rules at) makes f count2 (rules2 at) makes2 same (λ b. same2 at b) to s (j.judged at s) }

  -- the same readers in other words
  pub as_so : (judge2 : Reader A) (plain2 : Reader B) → ((s : Stream) → judge2 s ≡ judge s) → ((s : Stream) → plain2 s ≡ plain s) → Judges next judge plain count rules makes → Judges next judge2 plain2 count rules makes
  as_so judge2 plain2 same same2 j = record { judged = λ at s. judged_as IsSyntactic next at judge plain count (rules at) makes judge2 plain2 s (λ after h. same after) (λ after h. same2 after) (j.judged at s) }

  -- less is told of what is made
  pub weaker_so : (makes2 : B → A → Type 0) → ((b : B) (a : A) → makes b a → makes2 b a) → Judges next judge plain count rules makes → Judges next judge plain count rules makes2
  weaker_so makes2 to j = record { judged = λ at s. weaker_at at s (j.judged at s) }
    where
      weaker_at : (at : ℕ) (s : Stream) → JudgedAt IsSyntactic next at judge plain count (rules at) makes s → JudgedAt IsSyntactic next at judge plain count (rules at) makes2 s
      weaker_at at s (good ts b a rest is_cut go go2 many none made) = good ts b a rest is_cut go go2 many none (to b a made)
      weaker_at at s (bad t ts rest first open_to is_cut found settles stops told v onward) = bad t ts rest first open_to is_cut found settles stops told v onward
      weaker_at at s (alike f p e k) = alike f p e k

  -- with its count and its rules said otherwise
  pub same_so : (count2 : B → ℕ) (rules2 : ℕ → B → List (Broken Breach)) → ((b : B) → count2 b ≡ count b) → ((at : ℕ) (b : B) → rules2 at b ≡ rules at b) → Judges next judge plain count rules makes → Judges next judge plain count2 rules2 makes
  same_so count2 rules2 counts ruled j = record { judged = λ at s. same_at at s (j.judged at s) }
    where
      same_at : (at : ℕ) (s : Stream) → JudgedAt IsSyntactic next at judge plain count (rules at) makes s → JudgedAt IsSyntactic next at judge plain count2 (rules2 at) makes s
      same_at at s (good ts b a rest is_cut go go2 many none made) = good ts b a rest is_cut go go2 (counts b ∙ many) (ruled at b ∙ none) made
      same_at at s (bad t ts rest first open_to is_cut found settles stops told v onward) = bad t ts rest first open_to is_cut found settles stops (λ after b m h r. let k = told after b m h r in (k.0, ruled at b ∙ k.1)) v onward
      same_at at s (alike f p e k) = alike f p e k

  -- before fewer tokens
  pub calmer_so : (fewer : Sign → Bool) → Within fewer next → Judges next judge plain count rules makes → Judges fewer judge plain count rules makes
  calmer_so fewer within j = record { judged = λ at s. judged_calmer next fewer within at judge plain count (rules at) makes s (j.judged at s) }

-- no more is left than there was
pub shrinks_so : {A B : Type 0} {next : Sign → Bool} {judge : Reader A} {plain : Reader B} {count : B → ℕ} {rules : ℕ → B → List (Broken Breach)} {makes : B → A → Type 0} → Judges next judge plain count rules makes → Shrinks judge
shrinks_so {A} {B} {next} {judge} {plain} {count} {rules} {makes} j s a rest h = at_judged (j.judged 0 s)
  where
    at_judged : JudgedAt IsSyntactic next 0 judge plain count (rules 0) makes s → size rest ≤ size s
    at_judged (good ts b x m is_cut go go2 many none made) = let v = values (judge s) x a m rest (ap judge is_cut ∙ go2 m refl) h in omega (arith, size_through ts m, ap size is_cut, ap size v.1)
    at_judged (bad t ts m first open_to is_cut found settles stops told v onward) = let e : judge s ≡ Err (other first.fault) = ap judge is_cut ∙ stops m settles in absurd cc
    at_judged (alike f p e k) = absurd cc

module _ {A B : Type 0} {front calm : Sign → Bool} {judge : Reader A} {count : B → ℕ} {rules : ℕ → B → List (Broken Breach)} {makes : B → A → Type 0} where
  -- behind a mark
  pub after_so : (mark : Mark) (q : LawfulPhrase Breach B front calm) → Wide front calm calm q.phrase.reader → Judges calm judge q.phrase.reader count rules makes
      → Judges calm (then_reads (expected mark) (λ m. judge)) (then_reads (expected mark) (λ m. q.phrase.reader)) (λ b. 1 + count b) (λ at b. rules (at + 1) b) makes
  after_so mark q fits j = record { judged = λ at s. judged_after mark calm judge q.phrase.reader count rules makes (short_after front calm q fits) at (λ m. j.judged (at + 1) m) s }

  -- what may stand behind a mark
  pub optional_so : (mark : Mark) (next : Sign → Bool) → Within next calm → (q : LawfulPhrase Breach B front calm) → Wide front calm calm q.phrase.reader → Judges calm judge q.phrase.reader count rules makes
      → Judges next (optional mark judge) (optional mark q.phrase.reader) (optional_size count) (optional_rules rules) SameThere
  optional_so mark next fewer q fits j = record { judged = λ at s. judged_option mark calm next fewer judge q.phrase.reader count rules makes (short_after front calm q fits) at (λ m. j.judged (at + 1) m) s }

-- a mark, with a verdict on what stands before it
module _ {A : Type 0} (mark : Mark) (wrong : Bool) (breach : ℕ → Breach) (x : A) where
  abbrev pub marked : Reader A
  marked = then_reads (expected mark) (λ place. unless wrong (breach place) x)

  abbrev JudgedMark : ℕ → Stream → Type 0
  JudgedMark at s = JudgedAt IsSyntactic anything at marked (expected mark) (λ n. 1) (λ n. broken_where wrong (at + 1) (breach n)) (λ n a. a ≡ x) s

  at_wrong : (at : ℕ) (t : Lexeme) (s : Stream) → is (sign_of t) mark ≡ true → (b : Bool) → wrong ≡ b → JudgedMark at (more t s)
  at_wrong at t s e false w = good (t ∷ []) t.start x s refl (λ after h. rw e refl) (λ after h. rw (e, w) refl) refl (rw w refl) refl
  at_wrong at t s e true w =
      bad t [] s (found_at (at + 1) (breach t.start)) closed refl refl (closed_settles s) (λ after h. rw (e, w) refl)
      (λ after c m h r. let v = values (expected {X = Breach} mark (more t after)) t.start c after m (rw e refl) r in ([], ap (λ n. broken_where wrong (at + 1) (breach n)) (sym v.0) ∙ rw w refl))
      (record { others = []; spelled = none_spelled; value = t.start; reads = λ after h. rw e refl; settled = λ after h. closed_settles after }) (λ d g. absurd cc)

  judged_mark : (at : ℕ) (s : Stream) → JudgedMark at s
  judged_mark at (ends p) = alike (refusal (ends p)) (refusal_syntactic (ends p)) refl refl
  judged_mark at (breaks f) = alike (refusal (breaks f)) (refusal_syntactic (breaks f)) refl refl
  judged_mark at (more t s) = at_test (is (sign_of t) mark) refl
    where
      at_test : (b : Bool) → is (sign_of t) mark ≡ b → JudgedMark at (more t s)
      at_test true e = at_wrong at t s e wrong refl
      at_test false e = alike (refusal (more t s)) (refusal_syntactic (more t s)) (rw e refl) (rw e refl)

  pub mark_so : Judges anything marked (expected mark) (λ n. 1) (λ at n. broken_where wrong (at + 1) (breach n)) (λ n a. a ≡ x)
  mark_so = record { judged = λ at s. judged_mark at s }

-- a mark alone
pub plain_mark_so : {A : Type 0} (mark : Mark) (x : A) → Judges anything (then_reads (expected mark) (λ m. gives x)) (expected mark) (λ n. 1) (λ at n. []) (λ n a. a ≡ x)
plain_mark_so mark x = mark_so mark false (λ n. no_breach n) x
  where
    no_breach : ℕ → Breach
    no_breach n = crowded n

-- a value that is there
pub value_so : {A B : Type 0} {next : Sign → Bool} {count : B → ℕ} {rules : ℕ → B → List (Broken Breach)} {makes : B → A → Type 0} (a : A) (b : B) → count b ≡ 0 → ((at : ℕ) → rules at b ≡ []) → makes b a → Judges next (gives a) (gives b) count rules makes
value_so {A} {B} {next} {count} {rules} {makes} a b none lawful m = record { judged = λ at s. judged_gives IsSyntactic next at a b count (rules at) makes none (lawful at) m s }

-- a mark, and its place
pub place_so : (mark : Mark) → Judges anything (expected mark) (expected mark) (λ n. 1) (λ at n. []) (λ n k. k ≡ n)
place_so mark = record { judged = λ at s. judged_expected IsSyntactic refusal_syntactic anything at mark s }

-- what stands in parentheses or not reads the same
pub regroup : {A B C : Type 0} (r : Reader A) (q : A → Reader B) (k : B → Reader C) (s : Stream) → then_reads (then_reads r q) k s ≡ then_reads r (λ x. then_reads (q x) k) s
regroup {A} r q k s = at_read (r s)
  where
    at_read : (o : Read Breach A) → ((o >>= λ x. q x.0 x.1) >>= λ y. k y.0 y.1) ≡ (o >>= λ x. q x.0 x.1 >>= λ y. k y.0 y.1)
    at_read (Ok x) = refl
    at_read (Err f) = refl
