-- What may stand behind a mark, judged beside its plain reader.
use Rattle.std.proofs.Common.{◌≡◌, ℕ, ◌+◌, Bool, true, false, cond, List, [], ◌∷◌, Option, Some, None, Ok, Err, refl, sym, ap, ◌∙◌}
use Rattle.std.specs.Prelude.{is_none}
use Rattle.st_tokens.specs.Stream.{Lexeme, Stream, ends, breaks, more, behind}
use Rattle.st_reading.specs.declared.mark.Mark.{Mark}
use Rattle.st_reading.specs.declared.sign.Sign.{Sign}
use Rattle.st_reading.specs.declared.sign.Sign.TheVariants as signs
use Rattle.st_reading.specs.Sign.{sign_of, is}
use Rattle.st_reading.specs.Reading.{ahead, expected, gives, then_reads}
use Rattle.st_reading.specs.Breaches.{Breach, Reader}
use Rattle.st_reading.specs.BrokenRules.{Broken}
use Rattle.st_reading.specs.Steady.{head, Within, Wide, wider, calmer, anything, Short}
use Rattle.st_reading.proofs.Streams.{ahead_same}
use Rattle.st_reading.proofs.Tokens.{but}
use Rattle.st_reading.proofs.LawfulPhrases.{LawfulPhrase, then_lawful, optional_lawful, optional_front, or_next}
use Rattle.st_reading.proofs.Judging.{JudgedAt, good, bad, alike}
use Rattle.st_reading.proofs.JudgedParts.{judged_as, judged_map}
use Rattle.proof_script.specs.Listing.{optional}
use Rattle.script_grammar.specs.Sizes.{optional_size}
use Rattle.script_grammar.specs.Breaking.{optional_rules}
use Rattle.script_grammar.specs.FirstFaults.{IsSyntactic}
use Rattle.script_grammar.proofs.JudgedPairs.{both_of, made_lawful, judge_map, judged_after}

-- both are there, or neither is
abbrev pub SameThere : {A B : Type 0} → Option B → Option A → Type 0
SameThere o x = is_none x ≡ is_none o

-- judged before fewer tokens
pub judged_calmer : {A B : Type 0} (inner next : Sign → Bool) (fewer : Within next inner) (at : ℕ) (judge : Reader A) (plain : Reader B) (count : B → ℕ) (rules : B → List (Broken Breach)) (makes : B → A → Type 0) (s : Stream)
    → JudgedAt IsSyntactic inner at judge plain count rules makes s → JudgedAt IsSyntactic next at judge plain count rules makes s
judged_calmer inner next fewer at judge plain count rules makes s (good ts b a rest is go go2 many none made) = good ts b a rest is go go2 many none made
judged_calmer inner next fewer at judge plain count rules makes s (bad t ts rest first open_to is found settles stops told v onward) =
    bad t ts rest first open_to is found settles stops told (record { others = v.others; spelled = v.spelled; value = v.value; reads = λ after h. v.reads after (fewer (ahead after) h); settled = λ after h. v.settled after (fewer (ahead after) h) })
    (λ d g. let c = onward d g in record { others = c.others; spelled = c.spelled; value = c.value; reads = λ after h. c.reads after (fewer (ahead after) h); settled = λ after h. c.settled after (fewer (ahead after) h) })
judged_calmer inner next fewer at judge plain count rules makes s (alike f plain_f stop stop2) = alike f plain_f stop stop2

module _ {A B : Type 0} (mark : Mark) (inner next : Sign → Bool) (fewer : Within next inner) (judge : Reader A) (plain : Reader B) (count : B → ℕ) (rules : ℕ → B → List (Broken Breach)) (makes : B → A → Type 0) (short : Short {A = ℕ} anything inner (λ m. plain))
    (at : ℕ) (judged : (m : Stream) → JudgedAt IsSyntactic inner (at + 1) judge plain count (rules (at + 1)) makes m) where
  abbrev JudgedOption : Stream → Type 0
  JudgedOption s = JudgedAt IsSyntactic next at (optional mark judge) (optional mark plain) (optional_size count) (optional_rules rules at) SameThere s

  abbrev marked : {C : Type 0} → Reader C → Reader (Option C)
  marked r = then_reads (then_reads (expected mark) (λ m. r)) (λ x. gives (Some x))

  option_is : {C : Type 0} (r : Reader C) (t : Lexeme) (s : Stream) → is (sign_of t) mark ≡ true → (after : Stream) → head after ≡ head (more t s) → optional mark r after ≡ marked r after
  option_is r t s e (ends p) h = absurd cc
  option_is r t s e (breaks f) h = absurd cc
  option_is r t s e (more u m) h = let same : u ≡ t = cc in let k : is (sign_of u) mark ≡ true = ap (λ (v : Lexeme). is (sign_of v) mark) same ∙ e in rw k refl

  at_mark : (t : Lexeme) (s : Stream) → is (sign_of t) mark ≡ true → JudgedOption (more t s)
  at_mark t s e =
      judged_calmer inner next fewer at (optional mark judge) (optional mark plain) (optional_size count) (optional_rules rules at) SameThere (more t s)
      (judged_as IsSyntactic inner at (marked judge) (marked plain) (optional_size count) (optional_rules rules at) SameThere (optional mark judge) (optional mark plain) (more t s) (option_is judge t s e) (option_is plain t s e)
      (judged_map IsSyntactic inner at (marked judge) (then_reads (expected mark) (λ m. plain)) (λ b. 1 + count b) (λ b. rules (at + 1) b) (λ b x. is_none x ≡ false) (λ b. Some b) (optional_size count) (optional_rules rules at) SameThere (λ b. refl) (λ b. refl) (λ b x m. m) (more t s)
      (judge_map inner at (then_reads (expected mark) (λ m. judge)) (then_reads (expected mark) (λ m. plain)) (λ b. 1 + count b) (λ b. rules (at + 1) b) makes (λ a. Some a) (λ b x. is_none x ≡ false) (λ b a m. refl) (more t s)
      (judged_after mark inner judge plain count rules makes short at judged (more t s)))))

  at_none : (s : Stream) → is (ahead s) mark ≡ false → JudgedOption s
  at_none s e =
      good [] None None s refl
      (λ after h. let k : is (ahead after) mark ≡ false = ap (λ g. is g mark) (ahead_same s after h) ∙ e in rw k refl)
      (λ after h. let k : is (ahead after) mark ≡ false = ap (λ g. is g mark) (ahead_same s after h) ∙ e in rw k refl) refl refl refl

  pub judged_option : (s : Stream) → JudgedOption s
  judged_option (ends p) = at_none (ends p) refl
  judged_option (breaks f) = at_none (breaks f) refl
  judged_option (more t s) = at_test (is (sign_of t) mark) refl
    where
      at_test : (b : Bool) → is (sign_of t) mark ≡ b → JudgedOption (more t s)
      at_test true e = at_mark t s e
      at_test false e = at_none (more t s) e

-- one text, and behind it what may stand behind a mark
module _ {A B : Type 0} (mid : Sign → Bool) (mark : Mark) (front inner next : Sign → Bool) (clear : Within next (but mark)) (fewer : Within next inner) (closes : Within next mid) (p : LawfulPhrase Breach A anything mid) (q : LawfulPhrase Breach B front inner) (nothing : next signs.Nothing ≡ true)
    (meets : Within (optional_front mark front inner next clear fewer q nothing) mid) where
  abbrev pub open_lawful : LawfulPhrase Breach (A × Option B) anything next
  open_lawful =
      then_lawful anything mid (optional_front mark front inner next clear fewer q nothing) next meets p
      (λ x. made_lawful (optional_front mark front inner next clear fewer q nothing) next (both_of x) (optional_lawful mark front inner next clear fewer q nothing) (wider (or_next mark front inner next clear fewer q nothing)))
      (λ x. wider (or_next mark front inner next clear fewer q nothing)) (wider (λ g h. refl)) (calmer closes)
