-- What is typed speaks of what its names stand for, by types, and has small numbers.
use Rattle.std.proofs.Common.{◌≡◌, ℕ, suc, ◌^◌, ◌<◌, Bool, true, false, cond, List, refl, ap, subst, pos, negsuc, Option, Some, None, Result, Ok, Err}
use Rattle.st_linear.specs.Linear.{Linear}
use Rattle.st_linear.specs.Linear as linear
use Rattle.st_linear.specs.Simple.{negated}
use Rattle.st_form.specs.Formula.{Formula}
use Rattle.st_form.specs.declared.variables.Variable.{Variable}
use Rattle.st_tokens.specs.Stream.{Stream}
use Rattle.st_reading.specs.Reading.{Read}
use Rattle.st_reading.specs.Faults.{Passed}
use Rattle.st_program.specs.Tree.{Term, number, truth}
use Rattle.st_program.specs.Types.{type_of, LinearFits}
use Rattle.expression_parser.specs.declared.raw.Operator.{Operator}
use Rattle.expression_parser.specs.declared.raw.Operator.TheVariants as operators
use Rattle.expression_parser.specs.ExpressionTree.{Expr, Kind, Exprs, start_of}
use Rattle.expression_parser.specs.ExpressionTree as raw
use Rattle.expression_typer.specs.declared.fault.TypeFault.{TypeFault}
use Rattle.expression_typer.specs.Answers.{◌>>=◌}
use Rattle.expression_typer.specs.Scope.{Names}
use Rattle.expression_typer.specs.Written.{limited, difference, lowered, product}
use Rattle.expression_typer.specs.Typing.{typed_by, kind_typed_by, all_typed_by, as_number, as_truth, combine, is_implication, named_by, placed_by, variable_term}
use Rattle.expression_typer.proofs.Holding.{Holds, bound}
use Rattle.expression_typer.proofs.Fits.{Compared, IsWord, fits_word, sum_word, less_word, negative_word, product_word, difference_fits, lowered_fits}
use Rattle.expression_typer.proofs.Numerals.{numeral_word, variable_word}
use Rattle.expression_typer.specs.Naming.{NamesOver}
use Rattle.assertions.specs.Over.{FormulaOver, FormulasOver}
use Rattle.st_reading.specs.Breaches.{Breach}
use Rattle.assertions.specs.Reading.{truth_of, number_of, before, typed_behind}
use Rattle.expression_typer.proofs.Terms.{either}

module _ (vs : List Variable) (locations : ℕ) where
  abbrev Over : Term → Type 0
  Over (number f) = IsWord vs f
  Over (truth f) = FormulaOver vs locations f

  then_truth : {B : Type 0} (Q : B → Type 0) (r : Result Term TypeFault) (p : ℕ) (k : Formula → Result B TypeFault) → Holds Over r → ((f : Formula) → FormulaOver vs locations f → Holds Q (k f)) → Holds Q (r >>= λ x. as_truth p x >>= k)
  then_truth Q (Ok (truth f)) p k h go = go f h
  then_truth Q (Ok (number f)) p k h go = tt
  then_truth Q (Err e) p k h go = tt

  then_number : {B : Type 0} (Q : B → Type 0) (r : Result Term TypeFault) (p : ℕ) (k : Linear → Result B TypeFault) → Holds Over r → ((f : Linear) → IsWord vs f → Holds Q (k f)) → Holds Q (r >>= λ x. as_number p x >>= k)
  then_number Q (Ok (truth f)) p k h go = tt
  then_number Q (Ok (number f)) p k h go = go f h
  then_number Q (Err e) p k h go = tt

  variable_over : (v : ℕ) (b : Bool) → type_of vs v ≡ Some b → Over (variable_term (v, b))
  variable_over v true e = e
  variable_over v false e = variable_word vs v e

  named_over : (place : ℕ) (o : Option (ℕ × Bool)) → ((v : ℕ) (b : Bool) → o ≡ Some (v, b) → type_of vs v ≡ Some b) → Holds Over (named_by place o)
  named_over place None h = tt
  named_over place (Some x) h = variable_over x.0 x.1 (h x.0 x.1 refl)

  placed_over : (place : ℕ) (o : Option ℕ) → ((l : ℕ) → o ≡ Some l → l < locations) → Holds Over (placed_by place o)
  placed_over place None h = tt
  placed_over place (Some l) h = h l refl

  combine_over : (o : Operator) (at : ℕ) (f g : Linear) → IsWord vs f → IsWord vs g → Holds Over (combine o at f g)
  combine_over operators.Implies at f g h k = tt
  combine_over operators.Equal at f g h k = bound (Compared vs) Over (difference at f g) _ (difference_fits vs at f g h k) (λ d p. p)
  combine_over operators.Unequal at f g h k = bound (Compared vs) Over (difference at f g) _ (difference_fits vs at f g h k) (λ d p. p)
  combine_over operators.Less at f g h k = bound (Compared vs) Over (lowered at g f) _ (lowered_fits vs at g f k h) (λ d p. p)
  combine_over operators.AtMost at f g h k = bound (Compared vs) Over (difference at g f) _ (difference_fits vs at g f k h) (λ d p. p)
  combine_over operators.Greater at f g h k = bound (Compared vs) Over (lowered at f g) _ (lowered_fits vs at f g h k) (λ d p. p)
  combine_over operators.AtLeast at f g h k = bound (Compared vs) Over (difference at f g) _ (difference_fits vs at f g h k) (λ d p. p)
  combine_over operators.Plus at f g h k = bound (IsWord vs) Over (limited at (linear.sum_of f g)) _ (sum_word vs at f g h k) (λ d p. p)
  combine_over operators.Minus at f g h k = bound (IsWord vs) Over (limited at (linear.sum_of f (negated g))) _ (less_word vs at f g h k) (λ d p. p)
  combine_over operators.Times at f g h k = bound (IsWord vs) Over (product at f g) _ (product_word vs at f g h k) (λ d p. p)

  module _ (s : Names) (names : NamesOver vs locations s) where
    mutual
      typed_over : (e : Expr) → Holds Over (typed_by s e)
      typed_over (raw.node p k) = kind_over k

      kind_over : (k : Kind) → Holds Over (kind_typed_by s k)
      kind_over (raw.numeral n) = bound (IsWord vs) Over (limited 0 (linear.number (pos n))) _ (numeral_word vs n) (λ f p. p)
      kind_over (raw.truth b) = tt
      kind_over (raw.name n) = named_over n.place (s.variable n.text) (names.variables n.text)
      kind_over (raw.at n) = placed_over n.place (s.place n.text) (names.places n.text)
      kind_over (raw.negation e) = then_truth Over (typed_by s e) (start_of e) _ (typed_over e) (λ f p. p)
      kind_over (raw.negative at e) =
          then_number Over (typed_by s e) (start_of e) _ (typed_over e) (λ f p. bound (IsWord vs) Over (limited at (linear.scaled (negsuc 0) f)) _ (negative_word vs at f p) (λ g q. q))
      kind_over (raw.all es) = bound (FormulasOver vs locations) Over (all_typed_by s es) _ (all_over es) (λ fs p. p)
      kind_over (raw.any es) = bound (FormulasOver vs locations) Over (all_typed_by s es) _ (all_over es) (λ fs p. p)
      kind_over (raw.pair o at l r) =
          either Over (is_implication o) _ _
          (then_truth Over (typed_by s l) (start_of l) _ (typed_over l)
          (λ f p. then_truth Over (typed_by s r) (start_of r) _ (typed_over r) (λ g q. (p, (q, tt)))))
          (then_number Over (typed_by s l) (start_of l) _ (typed_over l)
          (λ f p. then_number Over (typed_by s r) (start_of r) _ (typed_over r) (λ g q. combine_over o at f g p q)))

      all_over : (es : Exprs) → Holds (FormulasOver vs locations) (all_typed_by s es)
      all_over raw.none = tt
      all_over (raw.one_more e es) =
          then_truth (FormulasOver vs locations) (typed_by s e) (start_of e) _ (typed_over e)
          (λ f p. bound (FormulasOver vs locations) (FormulasOver vs locations) (all_typed_by s es) _ (all_over es) (λ fs q. (p, q)))

    truth_over : (e : Expr) → Holds (FormulaOver vs locations) (truth_of s e)
    truth_over e = go (typed_by s e) (typed_over e)
      where
        go : (r : Result Term TypeFault) → Holds Over r → Holds (FormulaOver vs locations) (r >>= λ x. as_truth (start_of e) x)
        go (Ok (truth f)) h = h
        go (Ok (number f)) h = tt
        go (Err f) h = tt

    number_over : (e : Expr) → Holds (LinearFits vs (suc (2 ^ 30))) (number_of s e)
    number_over e = go (typed_by s e) (typed_over e)
      where
        go : (r : Result Term TypeFault) → Holds Over r → Holds (LinearFits vs (suc (2 ^ 30))) (r >>= λ x. as_number (start_of e) x)
        go (Ok (truth f)) h = tt
        go (Ok (number f)) h = fits_word vs f h
        go (Err f) h = tt

  abbrev value_or : {A : Type 0} → A → Read Breach A → A
  value_or y (Ok x) = x.0
  value_or y (Err f) = y

  -- what is answered has what holds of all that is typed
  before_has : {A : Type 0} (P : A → Type 0) (r : Result A TypeFault) (left rest : Stream) (x : A) → Holds P r → before left r ≡ Ok (x, rest) → P x
  before_has P (Ok y) left rest x h e = subst P (ap (value_or y) e) h
  before_has P (Err f) left rest x h e = absurd cc

  answer_has : {A : Type 0} (P : A → Type 0) (typing : Expr → Result A TypeFault) → ((e : Expr) → Holds P (typing e)) → (r : Read Passed Expr) (x : A) (rest : Stream) → typed_behind typing r ≡ Ok (x, rest) → P x
  answer_has P typing h (Ok y) x rest e = before_has P (typing y.0) y.1 rest x (h y.0) e
  answer_has P typing h (Err f) x rest e = absurd cc

  pub form_over : (s : Names) → NamesOver vs locations s → (r : Read Passed Expr) (f : Formula) (rest : Stream) → typed_behind (truth_of s) r ≡ Ok (f, rest) → FormulaOver vs locations f
  form_over s names r f rest e = answer_has (FormulaOver vs locations) (truth_of s) (truth_over s names) r f rest e

  pub linear_over : (s : Names) → NamesOver vs locations s → (r : Read Passed Expr) (f : Linear) (rest : Stream) → typed_behind (number_of s) r ≡ Ok (f, rest) → LinearFits vs (suc (2 ^ 30)) f
  linear_over s names r f rest e = answer_has (LinearFits vs (suc (2 ^ 30))) (number_of s) (number_over s names) r f rest e
