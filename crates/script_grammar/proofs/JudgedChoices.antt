-- Readers that are chosen by the next token, judged beside their plain readers; and a verdict at a mark on what stands before it.
use Rattle.std.proofs.Common.{◌≡◌, ℕ, ◌+◌, Bool, true, false, cond, List, [], ◌∷◌, ◌++◌, Option, Some, None, Err, refl, sym, ap, subst, ◌∙◌}
use Rattle.st_tokens.specs.Stream.{Stream, ends, breaks, more, behind}
use Rattle.st_reading.specs.declared.mark.Mark.{Mark}
use Rattle.st_reading.specs.declared.sign.Sign.{Sign}
use Rattle.st_reading.specs.declared.sign.Sign.TheVariants as signs
use Rattle.st_reading.specs.Sign.{sign_of, is}
use Rattle.st_reading.specs.Reading.{Read, ◌>>=◌, ahead, refusal, expected, gives, then_reads, on_operator}
use Rattle.st_reading.specs.Breaches.{Breach, Reader}
use Rattle.st_reading.specs.BrokenRules.{Broken}
use Rattle.st_reading.specs.Steady.{Short, Wide, anything}
use Rattle.st_reading.proofs.Streams.{ahead_same}
use Rattle.st_reading.proofs.LawfulPhrases.{LawfulPhrase}
use Rattle.st_reading.proofs.Judging.{JudgedAt, good, alike, judged_bind}
use Rattle.st_reading.proofs.JudgedParts.{judged_as}
use Rattle.script_grammar.specs.Breaking.{broken_where}
use Rattle.script_grammar.specs.FirstFaults.{IsSyntactic}
use Rattle.script_grammar.proofs.JudgedReferences.{refusal_syntactic}
use Rattle.script_grammar.proofs.JudgedPairs.{short_after}
use Rattle.script_grammar.proofs.Judges.{Judges, marked, mark_so}

-- by the token that says which
abbrev pub choosing : {O C : Type 0} → (Sign → Option O) → (O → Reader C) → Reader C
choosing op r s = on_operator (op (ahead s)) (Err (refusal s)) (λ o. r o (behind s))

module _ {O A B : Type 0} (op : Sign → Option O) (nothing : op signs.Nothing ≡ None) (next : Sign → Bool) (judge : O → Reader A) (plain : O → Reader B) (short : Short {A = O} anything next plain) (count inner : B → ℕ) (counted : (b : B) → count b ≡ 1 + inner b)
    (rules inner_rules : ℕ → B → List (Broken Breach)) (ruled : (at : ℕ) (b : B) → rules at b ≡ inner_rules (at + 1) b) (makes : B → A → Type 0) (chosen : (o : O) → Judges next (judge o) (plain o) inner inner_rules makes) where
  abbrev which : Reader O
  which = choosing op (λ o. gives o)

  choosing_is : {C : Type 0} (r : O → Reader C) (s : Stream) → choosing op r s ≡ then_reads which r s
  choosing_is {C} r s = at_op (op (ahead s))
    where
      at_op : (c : Option O) → on_operator {A = Read Breach C} c (Err (refusal s)) (λ o. r o (behind s)) ≡ (on_operator {A = Read Breach O} c (Err (refusal s)) (λ o. gives o (behind s)) >>= λ x. r x.0 x.1)
      at_op None = refl
      at_op (Some o) = refl

  abbrev JudgedWhich : ℕ → Stream → Type 0
  JudgedWhich at s = JudgedAt IsSyntactic anything at which which (λ o. 1) (λ o. []) (λ o p. p ≡ o) s

  judged_which : (at : ℕ) (s : Stream) → JudgedWhich at s
  judged_which at (ends p) = alike (refusal (ends p)) (refusal_syntactic (ends p)) (rw nothing refl) (rw nothing refl)
  judged_which at (breaks f) = alike (refusal (breaks f)) (refusal_syntactic (breaks f)) (rw nothing refl) (rw nothing refl)
  judged_which at (more t s) = at_op (op (sign_of t)) refl
    where
      at_op : (c : Option O) → op (sign_of t) ≡ c → JudgedWhich at (more t s)
      at_op None e = alike (refusal (more t s)) (refusal_syntactic (more t s)) (rw e refl) (rw e refl)
      at_op (Some o) e = good (t ∷ []) o o s refl (λ after h. rw e refl) (λ after h. rw e refl) refl refl refl

  pub choice_so : Judges next (choosing op judge) (choosing op plain) count rules makes
  choice_so = record {
    judged = λ at s.
        judged_as IsSyntactic next at (then_reads which judge) (then_reads which plain) count (rules at) makes (choosing op judge) (choosing op plain) s (λ after h. choosing_is judge after) (λ after h. choosing_is plain after)
        (judged_bind IsSyntactic anything next at which which (λ o. 1) (λ o. []) (λ o p. p ≡ o) judge plain count (rules at) makes (λ o b. inner b) (λ o b. inner_rules (at + 1) b) (λ o b m rest h. counted b) (λ o b m rest h. ruled at b) short s (judged_which at s)
        (λ ts o p rest is_cut many made. subst (λ q. JudgedAt IsSyntactic next (at + 1) (judge q) (plain o) inner (inner_rules (at + 1)) makes rest) (sym made) ((chosen o).judged (at + 1) rest)));
  }

-- behind a mark, or without it
abbrev pub either : {C : Type 0} → Mark → Reader C → Reader C → Reader C
either mark r q s = cond (is (ahead s) mark) (r (behind s)) (q s)

pub with_mark : {C : Type 0} (mark : Mark) (r q : Reader C) (s : Stream) → is (ahead s) mark ≡ true → either mark r q s ≡ then_reads (expected mark) (λ m. r) s
with_mark mark r q s e = rw e refl

pub without_mark : {C : Type 0} (mark : Mark) (r q : Reader C) (s : Stream) → is (ahead s) mark ≡ false → either mark r q s ≡ q s
without_mark mark r q s e = rw e refl

module _ {A B : Type 0} (mark : Mark) (judge : Reader A) (plain : Reader B) {next : Sign → Bool} {judge2 : Reader A} {plain2 : Reader B} {count : B → ℕ} {rules : ℕ → B → List (Broken Breach)} {makes : B → A → Type 0} where
  pub either_so : Judges next (then_reads (expected mark) (λ m. judge)) (then_reads (expected mark) (λ m. plain)) count rules makes → Judges next judge2 plain2 count rules makes → Judges next (either mark judge judge2) (either mark plain plain2) count rules makes
  either_so first second = record { judged = λ at s. at_test at s (is (ahead s) mark) refl }
    where
      at_test : (at : ℕ) (s : Stream) (b : Bool) → is (ahead s) mark ≡ b → JudgedAt IsSyntactic next at (either mark judge judge2) (either mark plain plain2) count (rules at) makes s
      at_test at s true e =
          judged_as IsSyntactic next at (then_reads (expected mark) (λ m. judge)) (then_reads (expected mark) (λ m. plain)) count (rules at) makes (either mark judge judge2) (either mark plain plain2) s
          (λ after h. with_mark mark judge judge2 after (ap (λ u. is u mark) (ahead_same s after h) ∙ e)) (λ after h. with_mark mark plain plain2 after (ap (λ u. is u mark) (ahead_same s after h) ∙ e)) (first.judged at s)
      at_test at s false e =
          judged_as IsSyntactic next at judge2 plain2 count (rules at) makes (either mark judge judge2) (either mark plain plain2) s
          (λ after h. without_mark mark judge judge2 after (ap (λ u. is u mark) (ahead_same s after h) ∙ e)) (λ after h. without_mark mark plain plain2 after (ap (λ u. is u mark) (ahead_same s after h) ∙ e)) (second.judged at s)

-- behind a mark at which what stands before it is judged
module _ {A B C : Type 0} {front calm : Sign → Bool} (mark : Mark) (wrong : Bool) (breach : Breach) (x : C) (judge : C → Reader A) (count : B → ℕ) (rules : ℕ → B → List (Broken Breach)) (makes : B → A → Type 0) (q : LawfulPhrase Breach B front calm) (fits : Wide front calm calm q.phrase.reader) where
  pub verdict_so : Judges calm (judge x) q.phrase.reader count rules makes
      → Judges calm (then_reads (marked mark wrong (λ n. breach) x) judge) (then_reads (expected mark) (λ m. q.phrase.reader)) (λ b. 1 + count b) (λ at b. broken_where wrong (at + 1) breach ++ rules (at + 1) b) makes
  verdict_so j = record {
    judged = λ at s.
        judged_bind IsSyntactic anything calm at (marked mark wrong (λ n. breach) x) (expected mark) (λ n. 1) (λ n. broken_where wrong (at + 1) breach) (λ n a. a ≡ x) judge (λ m. q.phrase.reader) (λ b. 1 + count b) (λ b. broken_where wrong (at + 1) breach ++ rules (at + 1) b) makes
        (λ n b. count b) (λ n b. rules (at + 1) b) (λ n b m rest h. refl) (λ n b m rest h. refl) (short_after front calm q fits) s ((mark_so mark wrong (λ n. breach) x).judged at s)
        (λ ts n a rest is_cut many made. subst (λ y. JudgedAt IsSyntactic calm (at + 1) (judge y) q.phrase.reader count (rules (at + 1)) makes rest) (sym made) (j.judged (at + 1) rest));
  }
