-- Phrases that a mark doesn't begin; and no formula begins with "diagram".
use Rattle.std.proofs.Common.{◌≡◌, Bool, true, false, not, List, [], ◌∷◌, ◌++◌, Ok, Err, refl, sym, ap, ◌∙◌}
use Rattle.st_tokens.specs.Stream.{◌++>◌, Lexeme, Stream, ends}
use Rattle.st_reading.specs.declared.mark.Mark.{Mark}
use Rattle.st_reading.specs.declared.mark.Mark.TheVariants as marks
use Rattle.st_reading.specs.declared.sign.Sign.{Sign}
use Rattle.st_reading.specs.Mark.{number}
use Rattle.st_reading.specs.Sign.{is}
use Rattle.st_reading.specs.Reading.{Stop, syntax, ahead, chain, gives, refusal, size}
use Rattle.st_reading.specs.Breaches.{Breach}
use Rattle.st_reading.specs.Steady.{Viable, Cause, refused, over, SteadyAt, both, stops, anything}
use Rattle.st_reading.proofs.Numbers.{is_marked}
use Rattle.st_reading.proofs.Steadiness.{bind_err}
use Rattle.st_reading.proofs.Tokens.{but}
use Rattle.st_reading.proofs.LawfulPhrases.{LawfulPhrase}
use Rattle.expression_parser.specs.Calm.{calm}
use Rattle.expression_parser.specs.ExpressionTree.{all, any}
use Rattle.expression_parser.specs.Reading.{Down, atom_at, atom_of, below, chained, compared, comparison_of, conjunction_of, disjunction_of, expression_of, grouping, implied, negation_at, negation_of, product_of, sum_of as tree_sum_of, unary_at, unary_of}
use Rattle.expression_parser.specs.Signs.{front, product_sign, sum_sign}
use Rattle.expression_parser.specs.declared.sign.Front.TheVariants as fronts
use Rattle.expression_parser.proofs.FormulaTheorems.{quiet}
use Rattle.script_grammar.proofs.Unlimited.{unlimited_is}
use Rattle.script_grammar.proofs.Greedy.{not_both}
use Rattle.script_grammar.proofs.RawUnits.{raw, raw_err}
use Rattle.script_grammar.proofs.UnitLaws.{forms}

-- Neither begins with "diagram": the reader refuses that token.
module _ (places : Bool) (down : Down) (s : Stream) (e : front places (ahead s) ≡ fronts.Other) where
  atom_refused : atom_of places down s ≡ Err (refusal s)
  unfolding atom_of
  atom_refused = ap (atom_at down s) e

  unary_refused : unary_of places down s ≡ Err (refusal s)
  unfolding unary_of
  unary_refused = ap (unary_at places down s) e ∙ atom_refused

  product_refused : product_of places down s ≡ Err (refusal s)
  unfolding product_of
  product_refused = bind_err (unary_of places down) (λ x s. chain product_sign (grouping (unary_of places down)) gives (size s) x s) s (refusal s) unary_refused

  sum_refused : tree_sum_of places down s ≡ Err (refusal s)
  unfolding tree_sum_of
  sum_refused = bind_err (product_of places down) (λ x s. chain sum_sign (grouping (product_of places down)) gives (size s) x s) s (refusal s) product_refused

  comparison_refused : comparison_of places down s ≡ Err (refusal s)
  unfolding comparison_of
  comparison_refused = bind_err (tree_sum_of places down) (compared (tree_sum_of places down)) s (refusal s) sum_refused

  negation_refused : negation_of places down s ≡ Err (refusal s)
  unfolding negation_of
  negation_refused = ap (negation_at places down s) e ∙ comparison_refused

  conjunction_refused : conjunction_of places down s ≡ Err (refusal s)
  unfolding conjunction_of
  conjunction_refused = bind_err (negation_of places down) (chained all marks.And (negation_of places down)) s (refusal s) negation_refused

  disjunction_refused : disjunction_of places down s ≡ Err (refusal s)
  unfolding disjunction_of
  disjunction_refused = bind_err (conjunction_of places down) (chained any marks.Or (conjunction_of places down)) s (refusal s) conjunction_refused

  pub expression_refused : expression_of places down s ≡ Err (refusal s)
  unfolding expression_of
  expression_refused = bind_err (disjunction_of places down) (implied down) s (refusal s) disjunction_refused

pub no_front : (g : Sign) → is g marks.Diagram ≡ true → front true g ≡ fronts.Other
unfolding number
no_front g h = ap (front true) (is_marked g marks.Diagram h)

module _ {A : Type 0} (mark : Mark) (next : Sign → Bool) (p : LawfulPhrase Breach A anything next) (refuses : (s : Stream) → is (ahead s) mark ≡ true → p.phrase.reader s ≡ Err (refusal s)) where
  unmarked : (s : Stream) (x : A) (rest : Stream) → p.phrase.reader s ≡ Ok (x, rest) → but mark (ahead s) ≡ true
  unmarked s x rest h = at_test (is (ahead s) mark) refl
    where
      at_test : (b : Bool) → is (ahead s) mark ≡ b → not (is (ahead s) mark) ≡ true
      at_test false e = ap not e
      at_test true e = absurd (not_both (p.phrase.reader s) (x, rest) (refusal s) h (refuses s e))

  pub unmarked_begins : (ts : List Lexeme) (x : A) → p.phrase.language ts x → (after : Stream) → next (ahead after) ≡ true → but mark (ahead (ts ++> after)) ≡ true
  unmarked_begins ts x l after h = unmarked (ts ++> after) x after (p.phrase.complete ts x l after h)

  viable : (ts : List Lexeme) → Viable anything next p.phrase.reader ts → Viable (but mark) next p.phrase.reader ts
  viable ts v = record {
    others = v.others;
    spelled = v.spelled;
    value = v.value;
    begins = λ n after h. unmarked (v.others ++> after) v.value after (ap (λ (z : List Lexeme). p.phrase.reader (z ++> (v.others ++> after))) (sym n) ∙ v.reads after h);
    reads = v.reads;
  }

  cause : (ts : List Lexeme) (f : Stop Breach) (rest : Stream) → Cause {I = Unit {0}} anything next (λ i. p.phrase.reader) ts f rest → Cause {I = Unit {0}} (but mark) next (λ i. p.phrase.reader) ts f rest
  cause ts f rest (refused e same) = refused e same
  cause ts f rest (over y t after e next_is v) = over y t after e next_is (λ i. viable (ts ++ t ∷ []) (v i))

  pub law : (s : Stream) → SteadyAt {I = Unit {0}} anything next p.phrase.reader (λ i. p.phrase.reader) s → SteadyAt {I = Unit {0}} (but mark) next p.phrase.reader (λ i. p.phrase.reader) s
  law s (both ts x rest e go go2) = both ts x rest e go go2
  law s (stops ts f rest e same v c) = stops ts f rest e same (λ i. viable ts (v i)) (cause ts f rest c)

  abbrev pub unmarked_lawful : LawfulPhrase Breach A (but mark) next
  unmarked_lawful = record {
    phrase = record { reader = p.phrase.reader; language = p.phrase.language; sound = p.phrase.sound; complete = p.phrase.complete; begins = unmarked_begins };
    lawful = record { law = λ s. law s (p.lawful.law s); one = p.lawful.one; each = p.lawful.each };
  }

pub form_refuses : (s : Stream) → is (ahead s) marks.Diagram ≡ true → raw forms s ≡ Err (refusal s)
form_refuses s e = raw_err forms s s (unlimited_is calm calm quiet forms.reader forms.law s ∙ expression_refused true (below true (size s)) s (no_front (ahead s) e))

pub form_ends : raw forms (ends 0) ≡ Err (syntax 0)
form_ends = raw_err forms (ends 0) (ends 0) (unlimited_is calm calm quiet forms.reader forms.law (ends 0) ∙ expression_refused true (below true 0) (ends 0) refl)
