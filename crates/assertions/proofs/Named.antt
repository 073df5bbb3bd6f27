-- An expression breaks only rules that faults of formulas have.
use Rattle.std.proofs.Common.{◌≡◌, ℕ, Bool, true, false, cond, subst, pos, negsuc, Option, Some, None, Result, Ok, Err}
use Rattle.st_linear.specs.Linear.{Linear, fitting, sum_of, scaled}
use Rattle.st_linear.specs.Linear as linear
use Rattle.st_linear.specs.Simple.{negated}
use Rattle.st_form.specs.Formula.{Formula}
use Rattle.st_program.specs.Tree.{Term, number, truth}
use Rattle.st_reading.specs.Reading.{Stop, syntax, broken, other, Read}
use Rattle.st_reading.specs.Faults.{Passed, passed}
use Rattle.st_reading.specs.Breaches.{Breach}
use Rattle.st_tokens.specs.Stream.{Stream}
use Rattle.expression_parser.specs.declared.raw.Operator.{Operator}
use Rattle.expression_parser.specs.declared.raw.Operator.TheVariants as operators
use Rattle.expression_parser.specs.ExpressionTree.{Expr, Kind, Exprs, start_of}
use Rattle.expression_parser.specs.ExpressionTree as raw
use Rattle.expression_typer.specs.declared.fault.TypeFault.{TypeFault}
use Rattle.expression_typer.specs.declared.fault.TypeFault.TheVariants as rules
use Rattle.expression_typer.specs.Answers.{◌>>=◌}
use Rattle.expression_typer.specs.Scope.{Names}
use Rattle.expression_typer.specs.Written.{is_writable, is_constant, limited, fitted, fitted_to, difference, lowered, product}
use Rattle.expression_typer.specs.Typing.{typed_by, kind_typed_by, all_typed_by, as_number, as_truth, combine, is_implication, named_by, placed_by}
use Rattle.assertions.specs.Faults.{of_stop, of_rule, IsOfForms}
use Rattle.assertions.specs.Reading.{truth_of, number_of, before, typed_behind}

-- no fault, or one that has a name
abbrev IsNamed : {A : Type 0} → Result A TypeFault → Type 0
IsNamed (Ok x) = Unit {0}
IsNamed (Err f) = IsOfForms (other (of_rule f))

then_named : {A B : Type 0} (r : Result A TypeFault) (k : A → Result B TypeFault) → IsNamed r → ((x : A) → IsNamed (k x)) → IsNamed (r >>= k)
then_named (Ok x) k h go = go x
then_named (Err f) k h go = h

either_named : {A : Type 0} (b : Bool) (r q : Result A TypeFault) → IsNamed r → IsNamed q → IsNamed (cond b r q)
either_named true r q h k = h
either_named false r q h k = k

truth_named : (p : ℕ) (x : Term) → IsNamed (as_truth p x)
truth_named p (number f) = tt
truth_named p (truth f) = tt

number_named : (p : ℕ) (x : Term) → IsNamed (as_number p x)
number_named p (number f) = tt
number_named p (truth f) = tt

variable_named : (p : ℕ) (o : Option (ℕ × Bool)) → IsNamed (named_by p o)
variable_named p None = tt
variable_named p (Some v) = tt

place_named : (p : ℕ) (o : Option ℕ) → IsNamed (placed_by p o)
place_named p None = tt
place_named p (Some l) = tt

limited_named : (p : ℕ) (f : Linear) → IsNamed (limited p f)
limited_named p f = either_named (is_writable f) (Ok f) (Err (rules.TooLarge p)) tt tt

fitted_named : (p : ℕ) (f : Linear) → IsNamed (fitted p f)
fitted_named p f = go (fitting f)
  where
    go : (o : Option Linear) → IsNamed (fitted_to p o)
    go None = tt
    go (Some g) = tt

lowered_named : (p : ℕ) (f g : Linear) → IsNamed (lowered p f g)
lowered_named p f g =
    then_named (difference p f g) (λ h. fitted p (linear.number (negsuc 0)) >>= λ one. fitted p (sum_of h one)) (fitted_named p (sum_of f (negated g))) (λ h.
    then_named (fitted p (linear.number (negsuc 0))) (λ one. fitted p (sum_of h one)) (fitted_named p (linear.number (negsuc 0))) (λ one. fitted_named p (sum_of h one)))

product_named : (p : ℕ) (f g : Linear) → IsNamed (product p f g)
product_named p f g =
    either_named (is_constant f.entries) (limited p (scaled f.constant g)) (cond (is_constant g.entries) (limited p (scaled g.constant f)) (Err (rules.NonLinear p)))
    (limited_named p (scaled f.constant g))
    (either_named (is_constant g.entries) (limited p (scaled g.constant f)) (Err (rules.NonLinear p)) (limited_named p (scaled g.constant f)) tt)

-- what a form is made into
made_named : {A B : Type 0} (make : A → B) (r : Result A TypeFault) → IsNamed r → IsNamed (r >>= λ x. Ok (make x))
made_named make r h = then_named r (λ x. Ok (make x)) h (λ x. tt)

combine_named : (o : Operator) (p : ℕ) (f g : Linear) → IsNamed (combine o p f g)
combine_named operators.Implies p f g = tt
combine_named operators.Equal p f g = made_named _ (difference p f g) (fitted_named p (sum_of f (negated g)))
combine_named operators.Unequal p f g = made_named _ (difference p f g) (fitted_named p (sum_of f (negated g)))
combine_named operators.Less p f g = made_named _ (lowered p g f) (lowered_named p g f)
combine_named operators.AtMost p f g = made_named _ (difference p g f) (fitted_named p (sum_of g (negated f)))
combine_named operators.Greater p f g = made_named _ (lowered p f g) (lowered_named p f g)
combine_named operators.AtLeast p f g = made_named _ (difference p f g) (fitted_named p (sum_of f (negated g)))
combine_named operators.Plus p f g = made_named _ (limited p (sum_of f g)) (limited_named p (sum_of f g))
combine_named operators.Minus p f g = made_named _ (limited p (sum_of f (negated g))) (limited_named p (sum_of f (negated g)))
combine_named operators.Times p f g = made_named _ (product p f g) (product_named p f g)

-- a truth value, or a number, and what is made of it
with_truth : {B : Type 0} (p : ℕ) (r : Result Term TypeFault) (k : Formula → Result B TypeFault) → IsNamed r → ((f : Formula) → IsNamed (k f)) → IsNamed (r >>= λ x. as_truth p x >>= k)
with_truth p r k h go = then_named r (λ x. as_truth p x >>= k) h (λ x. then_named (as_truth p x) k (truth_named p x) go)

with_number : {B : Type 0} (p : ℕ) (r : Result Term TypeFault) (k : Linear → Result B TypeFault) → IsNamed r → ((f : Linear) → IsNamed (k f)) → IsNamed (r >>= λ x. as_number p x >>= k)
with_number p r k h go = then_named r (λ x. as_number p x >>= k) h (λ x. then_named (as_number p x) k (number_named p x) go)

mutual
  typing_named : (s : Names) (e : Expr) → IsNamed (typed_by s e)
  typing_named s (raw.node p k) = kind_named s k

  kind_named : (s : Names) (k : Kind) → IsNamed (kind_typed_by s k)
  kind_named s (raw.numeral n) = made_named _ (limited 0 (linear.number (pos n))) (limited_named 0 (linear.number (pos n)))
  kind_named s (raw.truth b) = tt
  kind_named s (raw.name n) = variable_named n.place (s.variable n.text)
  kind_named s (raw.at n) = place_named n.place (s.place n.text)
  kind_named s (raw.negation e) = with_truth (start_of e) (typed_by s e) _ (typing_named s e) (λ f. tt)
  kind_named s (raw.negative p e) = with_number (start_of e) (typed_by s e) _ (typing_named s e) (λ f. made_named _ (limited p (scaled (negsuc 0) f)) (limited_named p (scaled (negsuc 0) f)))
  kind_named s (raw.all es) = made_named _ (all_typed_by s es) (chain_named s es)
  kind_named s (raw.any es) = made_named _ (all_typed_by s es) (chain_named s es)
  kind_named s (raw.pair o p l r) =
      either_named (is_implication o) _ _
      (with_truth (start_of l) (typed_by s l) _ (typing_named s l) (λ f. with_truth (start_of r) (typed_by s r) _ (typing_named s r) (λ g. tt)))
      (with_number (start_of l) (typed_by s l) _ (typing_named s l) (λ f. with_number (start_of r) (typed_by s r) _ (typing_named s r) (λ g. combine_named o p f g)))

  chain_named : (s : Names) (es : Exprs) → IsNamed (all_typed_by s es)
  chain_named s raw.none = tt
  chain_named s (raw.one_more e es) = with_truth (start_of e) (typed_by s e) _ (typing_named s e) (λ f. made_named _ (all_typed_by s es) (chain_named s es))

stop_named : (f : Stop Passed) → IsOfForms (of_stop f)
stop_named (syntax place) = tt
stop_named (broken f) = tt
stop_named (other (passed kind place)) = tt

before_named : {A : Type 0} (rest : Stream) (r : Result A TypeFault) → IsNamed r → (f : Stop Breach) → before rest r ≡ Err f → IsOfForms f
before_named rest (Ok x) h f e = absurd cc
before_named rest (Err g) h f e = let same : other (of_rule g) ≡ f = cc in subst IsOfForms same h

-- the fault of an answer is one that a formula may have
pub answer_named : {A : Type 0} (typing : Expr → Result A TypeFault) → ((e : Expr) → IsNamed (typing e)) → (r : Read Passed Expr) (f : Stop Breach) → typed_behind typing r ≡ Err f → IsOfForms f
answer_named typing h (Ok x) f e = before_named x.1 (typing x.0) (h x.0) f e
answer_named typing h (Err g) f e = let same : of_stop g ≡ f = cc in subst IsOfForms same (stop_named g)

pub truths_named : (s : Names) (r : Read Passed Expr) (f : Stop Breach) → typed_behind (truth_of s) r ≡ Err f → IsOfForms f
truths_named s r = answer_named (truth_of s) (λ e. then_named (typed_by s e) (λ x. as_truth (start_of e) x) (typing_named s e) (λ x. truth_named (start_of e) x)) r

pub numbers_named : (s : Names) (r : Read Passed Expr) (f : Stop Breach) → typed_behind (number_of s) r ≡ Err f → IsOfForms f
numbers_named s r = answer_named (number_of s) (λ e. then_named (typed_by s e) (λ x. as_number (start_of e) x) (typing_named s e) (λ x. number_named (start_of e) x)) r
