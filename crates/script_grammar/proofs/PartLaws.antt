-- A reader that is judged beside a plain one stops exactly at the first fault.
use Rattle.std.proofs.Common.{◌≡◌, ℕ, Bool, true, List, Ok, Err, sym, subst}
use Rattle.st_tokens.specs.Stream.{◌++>◌, Lexeme, Stream, ends}
use Rattle.st_reading.specs.declared.sign.Sign.{Sign}
use Rattle.st_reading.specs.declared.sign.Sign.TheVariants as signs
use Rattle.st_reading.specs.Reading.{Stop, other, at_end, gives, then_reads, whole}
use Rattle.st_reading.specs.Breaches.{Breach, Reader}
use Rattle.st_reading.specs.BrokenRules.{Broken, BreaksAt}
use Rattle.st_reading.specs.Theorem.{IsFirst}
use Rattle.st_reading.proofs.Steadiness.{bind_err}
use Rattle.st_reading.proofs.Judging.{JudgedAt}
use Rattle.st_reading.proofs.LawfulPhrases.{LawfulPhrase, phrase_first}
use Rattle.st_reading.proofs.Refusing.{same_stop, Stopped, by_rule, by_stop, stopped_so, breaks_stop, stops_stop}
use Rattle.script_grammar.specs.FirstFaults.{IsSyntactic, IsFirstFault, breaks_rule, goes_no_further, StopsAtFirst}
use Rattle.script_grammar.proofs.JudgedReferences.{refusal_syntactic, no_breach}

module _ {A B : Type 0} (front calm : Sign → Bool) (quiet : calm signs.Nothing ≡ true) (p : LawfulPhrase Breach A front calm) (rules : A → List (Broken Breach)) (judge : Reader B) (count : A → ℕ) (makes : A → B → Type 0)
    (judged : (s : Stream) → JudgedAt IsSyntactic calm 0 judge p.phrase.reader count rules makes s) where
  abbrev L : List Lexeme → A → Type 0
  L = p.phrase.language

  complete : (ts : List Lexeme) (x : A) → L ts x → p.phrase.reader (ts ++> ends 0) ≡ Ok (x, ends 0)
  complete ts x l = p.phrase.complete ts x l (ends 0) quiet

  plain_first : (s : Stream) (f : Stop Breach) → whole p.phrase.reader s ≡ Err f → IsFirst L s f
  plain_first s f h = phrase_first front calm quiet p s f h

  rule_stops : (s : Stream) (breach : Breach) → BreaksAt L rules s breach → whole judge s ≡ Err (other breach)
  rule_stops s breach b =
      bind_err judge (λ x. then_reads at_end (λ e. gives x)) s (other breach) (breaks_stop IsSyntactic refusal_syntactic calm quiet L judge p.phrase.reader count rules makes p.phrase.sound complete plain_first judged s breach b)

  to_first : (s : Stream) (f : Stop Breach) → whole judge s ≡ Err f → IsFirstFault L rules s f
  to_first s f h = at_stopped (stopped_so IsSyntactic refusal_syntactic calm quiet L judge p.phrase.reader count rules makes p.phrase.sound complete plain_first judged s f h)
    where
      at_stopped : Stopped IsSyntactic refusal_syntactic calm quiet L judge p.phrase.reader count rules makes p.phrase.sound complete plain_first judged s f → IsFirstFault L rules s f
      at_stopped (by_rule fault e b) = subst (IsFirstFault L rules s) (sym e) (breaks_rule fault b)
      at_stopped (by_stop plain first) = goes_no_further f (record { plain = plain; first = first; sound = λ fault b. no_breach f plain fault (same_stop (whole judge s) f (other fault) h (rule_stops s fault b)) })

  from_first : (s : Stream) (f : Stop Breach) → IsFirstFault L rules s f → whole judge s ≡ Err f
  from_first s f (breaks_rule breach b) = rule_stops s breach b
  from_first s f (goes_no_further g stop) = stops_stop IsSyntactic refusal_syntactic calm quiet L judge p.phrase.reader count rules makes p.phrase.sound complete plain_first judged no_breach s g stop

  pub stops_at_first : StopsAtFirst L rules judge
  stops_at_first s f = (to_first s f, from_first s f)
