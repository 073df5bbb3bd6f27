-- Readers with room for so many levels, each beside those with more: the longest text, the first fault and the limit, for
-- formulas and sums alike.
use Rattle.std.proofs.Common.{◌≡◌, ℕ, zero, suc, ◌+◌, ◌≤◌, List, [], ◌∷◌, ◌++◌, Ok, Err, sym, subst, append_assoc, arith}
use Rattle.st_tokens.specs.Stream.{◌++>◌, Lexeme, Stream, ends}
use Rattle.st_reading.specs.Reading.{Stop, other, then_reads, gives, at_end}
use Rattle.st_reading.specs.Faults.{Passed}
use Rattle.st_reading.specs.Spelling.{Sound}
use Rattle.st_reading.specs.Theorem.{IsFirst, IsMet}
use Rattle.st_reading.proofs.Streams.{same_text}
use Rattle.st_reading.proofs.Soundness.{values}
use Rattle.st_reading.proofs.Steadiness.{bind_err}
use Rattle.st_reading.proofs.Lawful.{Lawful}
use Rattle.st_reading.proofs.ListCompleteness.{Complete}
use Rattle.st_reading.proofs.Theorems.{first_fault, longest, limit_met, first_as, met_as}
use Rattle.expression_parser.specs.ExpressionTree.{Expr}
use Rattle.expression_parser.specs.Calm.{calm}
use Rattle.expression_parser.specs.Reading.{Reader}
use Rattle.expression_parser.proofs.ExpressionLaw.{larger}
use Rattle.expression_parser.proofs.FormulaTheorems.{quiet}
use Rattle.assertion_grammar.specs.Standing.{Language, Stands}

larger_is : (n i : ℕ) → larger n i ≡ suc (n + i)
larger_is zero i = omega arith
larger_is (suc n) i = omega (arith, larger_is n i)

module _ (R : ℕ → Reader Expr) (F : ℕ → Language) (sound : (room : ℕ) → Sound (R room) (F room)) (complete : (n room : ℕ) → n ≤ room → Complete calm (R room) (F n)) (lawful : (room : ℕ) → Lawful calm calm (R room) (λ i. R (larger room i))) where
  abbrev pub Deep : Language
  Deep ts x = (n : ℕ) × F n ts x

  whole : (n room : ℕ) → n ≤ room → (ts : List Lexeme) (x : Expr) (q : ℕ) → F n ts x → R room (ts ++> ends q) ≡ Ok (x, ends q)
  whole n room le ts x q l = complete n room le ts x l (ends q) quiet

  pub read_once : (ts : List Lexeme) (x y : Expr) → Deep ts x → Deep ts y → x ≡ y
  read_once ts x y a b = (values (R (a.0 + b.0) (ts ++> ends 0)) x y (ends 0) (ends 0) (whole a.0 (a.0 + b.0) (omega arith) ts x 0 a.1) (whole b.0 (a.0 + b.0) (omega arith) ts y 0 b.1)).0

  module _ (room : ℕ) where
    abbrev Deeper : ℕ → Language
    Deeper i ts x = F (larger room i) ts x

    abbrev SomeDeeper : Language
    SomeDeeper ts x = (i : ℕ) × Deeper i ts x

    deeper_whole : (i : ℕ) (ts : List Lexeme) (x : Expr) (q : ℕ) → Deeper i ts x → R (larger room i) (ts ++> ends q) ≡ Ok (x, ends q)
    deeper_whole i ts x q l = whole (larger room i) (larger room i) (omega arith) ts x q l

    to : (ts : List Lexeme) (x : Expr) → SomeDeeper ts x → Deep ts x
    to ts x l = (larger room l.0, l.1)

    from : (ts : List Lexeme) (x : Expr) → Deep ts x → SomeDeeper ts x
    from ts x l =
        let c = sound (larger room l.0) (ts ++> ends 0) x (ends 0) (whole l.0 (larger room l.0) (omega (arith, larger_is room l.0)) ts x 0 l.1) in
        (l.0, subst (λ (z : List Lexeme). F (larger room l.0) z x) (sym (same_text ts c.text 0 c.is)) c.spells)

    pub stands : (s : Stream) (x : Expr) (rest : Stream) → R room s ≡ Ok (x, rest) → Stands (F room) Deep s x rest
    stands s x rest h =
        let c = sound room s x rest h in
        record {
          text = c.text;
          is = c.is;
          spells = c.spells;
          longest = λ t after next b.
              longest calm calm quiet (R room) (λ i. R (larger room i)) 0 Deeper (λ i. sound (larger room i)) deeper_whole s x rest ((lawful room).law s) h c.text c.is t after b.0 b.1 next
              (from (c.text ++ t ∷ b.0) b.1 (subst (λ (z : List Lexeme). Deep z b.1) (append_assoc c.text (t ∷ []) b.0) b.2));
        }

    pub first : (s : Stream) (f : Stop Passed) → R room s ≡ Err f → IsFirst Deep s f
    first s f h =
        first_as SomeDeeper Deep to from s f
        (first_fault calm calm quiet (R room) (λ i. R (larger room i)) 0 Deeper (λ i. sound (larger room i)) deeper_whole s f ((lawful room).law s) h)

    -- nothing that fits is refused
    fits : (y : Passed) (ts : List Lexeme) (x : Expr) → F room ts x → R room (ts ++> ends 0) ≡ Err (other y) → ⊥
    fits y ts x l h = let read = whole room room (omega arith) ts x 0 l in absurd cc

    pub met : (s : Stream) (y : Passed) → R room s ≡ Err (other y) → IsMet Deep (F room) s
    met s y h =
        met_as SomeDeeper Deep to from (F room) s
        (limit_met calm calm quiet (R room) (λ i. R (larger room i)) 0 Deeper (λ i. sound (larger room i)) deeper_whole (λ z. F room) fits s y ((lawful room).law s)
        (bind_err (R room) (λ x. then_reads at_end (λ e. gives x)) s (other y) h))
