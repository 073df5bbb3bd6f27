-- Texts that are typed as a whole, and tokens with which no formula begins.
use Rattle.std.proofs.Common.{Bool, Err, List, Ok, Result, ap, arith, refl, sym, true, ◌∙◌, ◌≡◌}
use Rattle.std.proofs.lemmas.Bool.Decides.{nat_tests}
use Rattle.st_reading.specs.Breaches.{Breach}
use Rattle.st_tokens.specs.Stream.{Lexeme, Stream, ◌++>◌}
use Rattle.st_reading.proofs.ListCompleteness.{Complete}
use Rattle.st_reading.proofs.Numbers.{is_marked}
use Rattle.st_reading.proofs.Steadiness.{bind_err}
use Rattle.st_reading.specs.Faults.{Passed}
use Rattle.st_reading.specs.Mark.{number}
use Rattle.st_reading.specs.Reading.{Read, Stop, ahead, chain, gives, refusal, size}
use Rattle.st_reading.specs.Sign.{is}
use Rattle.st_reading.specs.Spelling.{Cut, Sound}
use Rattle.st_reading.specs.declared.mark.Mark.TheVariants as marks
use Rattle.st_reading.specs.declared.sign.Sign.{Sign}
use Rattle.expression_parser.proofs.ExpressionCompleteness.{above}
use Rattle.expression_parser.specs.ExpressionTree.{Expr, all, any}
use Rattle.expression_parser.specs.Reading.{Down, atom_at, atom_of, chained, compared, comparison_of, conjunction_of, disjunction_of, expression_of, grouping, implied, negation_at, negation_of, product_of, sum_of as tree_sum_of, unary_at, unary_of}
use Rattle.expression_parser.specs.Signs.{front, product_sign, sum_sign}
use Rattle.expression_parser.specs.declared.sign.Front.TheVariants as fronts
use Rattle.expression_typer.specs.declared.fault.TypeFault.{TypeFault}
use Rattle.assertions.specs.Reading.{before, typed_behind}
use Rattle.st_reading.proofs.Tokens.{but}

-- WHAT IS TYPED AS A WHOLE
-- the tokens spell an expression that is typed so
pub record Typed {A : Type 0} (spelled : List Lexeme → Expr → Type 0) (typing : Expr → Result A TypeFault) (ts : List Lexeme) (x : A) : Type 0 where
  pub tree : Expr
  pub spells : spelled ts tree
  pub typed : typing tree ≡ Ok x

abbrev pub read_to : {A : Type 0} → A → Stream → Read Breach A
read_to x s = Ok (x, s)

same_read : {A : Type 0} (x y : A) (s t : Stream) → read_to x s ≡ Ok (y, t) → (x ≡ y) × (s ≡ t)
same_read {A} x y s t h = let e : (x, s) ≡ (y, t) = cc in (ap (λ (p : A × Stream). p.0) e, ap (λ (p : A × Stream). p.1) e)

module _ {A : Type 0} (r : Stream → Read Passed Expr) (L : List Lexeme → Expr → Type 0) (typing : Expr → Result A TypeFault) where
  abbrev pub answer : Stream → Read Breach A
  answer s = typed_behind typing (r s)

  module _ (sound : Sound r L) where
    at_type : (s : Stream) (e : Expr) (m : Stream) → r s ≡ Ok (e, m) → (v : Result A TypeFault) → v ≡ typing e → (x : A) (rest : Stream) → before m v ≡ Ok (x, rest) → Cut (Typed L typing) s x rest
    at_type s e m is (Ok y) f x rest h =
        let c = sound s e m is in
        let v = same_read y x m rest h in
        record { text = c.text; is = c.is ∙ ap (λ z. c.text ++> z) v.1; spells = record { tree = e; spells = c.spells; typed = sym f ∙ ap Ok v.0 } }
    at_type s e m is (Err b) f x rest h = absurd cc

    at_tree : (s : Stream) (o : Read Passed Expr) → o ≡ r s → (x : A) (rest : Stream) → typed_behind typing o ≡ Ok (x, rest) → Cut (Typed L typing) s x rest
    at_tree s (Ok p) f x rest h = at_type s p.0 p.1 (sym f) (typing p.0) refl x rest h
    at_tree s (Err b) f x rest h = absurd cc

    pub typed_cut : (s : Stream) (x : A) (rest : Stream) → answer s ≡ Ok (x, rest) → Cut (Typed L typing) s x rest
    typed_cut s x rest h = at_tree s (r s) refl x rest h

  pub typed_complete : (set : Sign → Bool) → Complete set r L → (ts : List Lexeme) (x : A) → Typed L typing ts x → (after : Stream) → set (ahead after) ≡ true → answer (ts ++> after) ≡ Ok (x, after)
  typed_complete set complete ts x l after h = let a = complete ts l.tree l.spells after h in rw (a, l.typed) refl

pub above_two : (g : Sign) → above 6 g ≡ true → above 2 g ≡ true
above_two g h = grind (arith, nat_tests)

-- Neither begins with "diagram": the reader refuses that token.
module _ (places : Bool) (down : Down) (s : Stream) (e : front places (ahead s) ≡ fronts.Other) where
  atom_refused : atom_of places down s ≡ Err (refusal s)
  unfolding atom_of
  atom_refused = ap (atom_at down s) e

  unary_refused : unary_of places down s ≡ Err (refusal s)
  unfolding unary_of
  unary_refused = ap (unary_at places down s) e ∙ atom_refused

  product_refused : product_of places down s ≡ Err (refusal s)
  unfolding product_of
  product_refused = bind_err (unary_of places down) (λ x s. chain product_sign (grouping (unary_of places down)) gives (size s) x s) s (refusal s) unary_refused

  sum_refused : tree_sum_of places down s ≡ Err (refusal s)
  unfolding tree_sum_of
  sum_refused = bind_err (product_of places down) (λ x s. chain sum_sign (grouping (product_of places down)) gives (size s) x s) s (refusal s) product_refused

  comparison_refused : comparison_of places down s ≡ Err (refusal s)
  unfolding comparison_of
  comparison_refused = bind_err (tree_sum_of places down) (compared (tree_sum_of places down)) s (refusal s) sum_refused

  negation_refused : negation_of places down s ≡ Err (refusal s)
  unfolding negation_of
  negation_refused = ap (negation_at places down s) e ∙ comparison_refused

  conjunction_refused : conjunction_of places down s ≡ Err (refusal s)
  unfolding conjunction_of
  conjunction_refused = bind_err (negation_of places down) (chained all marks.And (negation_of places down)) s (refusal s) negation_refused

  disjunction_refused : disjunction_of places down s ≡ Err (refusal s)
  unfolding disjunction_of
  disjunction_refused = bind_err (conjunction_of places down) (chained any marks.Or (conjunction_of places down)) s (refusal s) conjunction_refused

  pub refused : expression_of places down s ≡ Err (refusal s)
  unfolding expression_of
  refused = bind_err (disjunction_of places down) (implied down) s (refusal s) disjunction_refused

pub no_front : (g : Sign) → is g marks.Diagram ≡ true → front true g ≡ fronts.Other
unfolding number
no_front g h = ap (front true) (is_marked g marks.Diagram h)

pub not_both : (r : Read Passed Expr) (x : Expr) (rest : Stream) (f : Stop Passed) → r ≡ Ok (x, rest) → r ≡ Err f → ⊥
not_both r x rest f g h = cc

-- anything but "diagram"
abbrev pub undrawn : Sign → Bool
undrawn = but marks.Diagram
