-- No rule of typing that an expression breaks is a limit.
use Rattle.std.proofs.Common.{◌≡◌, ℕ, Bool, true, false, cond, subst, pos, negsuc, Option, Some, None, Result, Ok, Err}
use Rattle.st_linear.specs.Linear.{Linear, fitting, sum_of, scaled}
use Rattle.st_linear.specs.Linear as linear
use Rattle.st_linear.specs.Simple.{negated}
use Rattle.st_form.specs.Formula.{Formula}
use Rattle.st_program.specs.Tree.{Term, number, truth}
use Rattle.st_reading.specs.Breaches.{Breach, broke}
use Rattle.expression_parser.specs.declared.raw.Operator.{Operator}
use Rattle.expression_parser.specs.declared.raw.Operator.TheVariants as operators
use Rattle.expression_parser.specs.ExpressionTree.{Expr, Kind, Exprs, start_of}
use Rattle.expression_parser.specs.ExpressionTree as raw
use Rattle.expression_typer.specs.declared.fault.TypeFault.{TypeFault}
use Rattle.expression_typer.specs.declared.fault.TypeFault.TheVariants as rules
use Rattle.expression_typer.specs.Answers.{◌>>=◌}
use Rattle.expression_typer.specs.Scope.{Names}
use Rattle.expression_typer.specs.Written.{is_writable, is_constant, limited, fitted, fitted_to, difference, lowered, product}
use Rattle.expression_typer.specs.Typing.{typed_by, kind_typed_by, all_typed_by, as_number, as_truth, combine, is_implication, named_by, placed_by}
use Rattle.assertions.specs.Faults.{of_rule}
use Rattle.assertions.specs.Reading.{number_of, truth_of}

-- a rule that is broken
abbrev pub IsRule : Breach → Type 0
IsRule (broke rule place) = Unit {0}
IsRule _ = ⊥

-- no fault, or a rule's
abbrev pub IsKept : {A : Type 0} → Result A TypeFault → Type 0
IsKept (Ok x) = Unit {0}
IsKept (Err f) = IsRule (of_rule f)

then_ruled : {A B : Type 0} (r : Result A TypeFault) (k : A → Result B TypeFault) → IsKept r → ((x : A) → IsKept (k x)) → IsKept (r >>= k)
then_ruled (Ok x) k h go = go x
then_ruled (Err f) k h go = h

either_ruled : {A : Type 0} (b : Bool) (r q : Result A TypeFault) → IsKept r → IsKept q → IsKept (cond b r q)
either_ruled true r q h k = h
either_ruled false r q h k = k

truth_ruled : (p : ℕ) (x : Term) → IsKept (as_truth p x)
truth_ruled p (number f) = tt
truth_ruled p (truth f) = tt

number_ruled : (p : ℕ) (x : Term) → IsKept (as_number p x)
number_ruled p (number f) = tt
number_ruled p (truth f) = tt

variable_ruled : (p : ℕ) (o : Option (ℕ × Bool)) → IsKept (named_by p o)
variable_ruled p None = tt
variable_ruled p (Some v) = tt

place_ruled : (p : ℕ) (o : Option ℕ) → IsKept (placed_by p o)
place_ruled p None = tt
place_ruled p (Some l) = tt

limited_ruled : (p : ℕ) (f : Linear) → IsKept (limited p f)
limited_ruled p f = either_ruled (is_writable f) (Ok f) (Err (rules.TooLarge p)) tt tt

fitted_ruled : (p : ℕ) (f : Linear) → IsKept (fitted p f)
fitted_ruled p f = go (fitting f)
  where
    go : (o : Option Linear) → IsKept (fitted_to p o)
    go None = tt
    go (Some g) = tt

lowered_ruled : (p : ℕ) (f g : Linear) → IsKept (lowered p f g)
lowered_ruled p f g =
    then_ruled (difference p f g) (λ h. fitted p (linear.number (negsuc 0)) >>= λ one. fitted p (sum_of h one)) (fitted_ruled p (sum_of f (negated g))) (λ h.
    then_ruled (fitted p (linear.number (negsuc 0))) (λ one. fitted p (sum_of h one)) (fitted_ruled p (linear.number (negsuc 0))) (λ one. fitted_ruled p (sum_of h one)))

product_ruled : (p : ℕ) (f g : Linear) → IsKept (product p f g)
product_ruled p f g =
    either_ruled (is_constant f.entries) (limited p (scaled f.constant g)) (cond (is_constant g.entries) (limited p (scaled g.constant f)) (Err (rules.NonLinear p)))
    (limited_ruled p (scaled f.constant g))
    (either_ruled (is_constant g.entries) (limited p (scaled g.constant f)) (Err (rules.NonLinear p)) (limited_ruled p (scaled g.constant f)) tt)

-- what a form is made into
made_ruled : {A B : Type 0} (make : A → B) (r : Result A TypeFault) → IsKept r → IsKept (r >>= λ x. Ok (make x))
made_ruled make r h = then_ruled r (λ x. Ok (make x)) h (λ x. tt)

combine_ruled : (o : Operator) (p : ℕ) (f g : Linear) → IsKept (combine o p f g)
combine_ruled operators.Implies p f g = tt
combine_ruled operators.Equal p f g = made_ruled _ (difference p f g) (fitted_ruled p (sum_of f (negated g)))
combine_ruled operators.Unequal p f g = made_ruled _ (difference p f g) (fitted_ruled p (sum_of f (negated g)))
combine_ruled operators.Less p f g = made_ruled _ (lowered p g f) (lowered_ruled p g f)
combine_ruled operators.AtMost p f g = made_ruled _ (difference p g f) (fitted_ruled p (sum_of g (negated f)))
combine_ruled operators.Greater p f g = made_ruled _ (lowered p f g) (lowered_ruled p f g)
combine_ruled operators.AtLeast p f g = made_ruled _ (difference p f g) (fitted_ruled p (sum_of f (negated g)))
combine_ruled operators.Plus p f g = made_ruled _ (limited p (sum_of f g)) (limited_ruled p (sum_of f g))
combine_ruled operators.Minus p f g = made_ruled _ (limited p (sum_of f (negated g))) (limited_ruled p (sum_of f (negated g)))
combine_ruled operators.Times p f g = made_ruled _ (product p f g) (product_ruled p f g)

-- a truth value, or a number, and what is made of it
with_truth : {B : Type 0} (p : ℕ) (r : Result Term TypeFault) (k : Formula → Result B TypeFault) → IsKept r → ((f : Formula) → IsKept (k f)) → IsKept (r >>= λ x. as_truth p x >>= k)
with_truth p r k h go = then_ruled r (λ x. as_truth p x >>= k) h (λ x. then_ruled (as_truth p x) k (truth_ruled p x) go)

with_number : {B : Type 0} (p : ℕ) (r : Result Term TypeFault) (k : Linear → Result B TypeFault) → IsKept r → ((f : Linear) → IsKept (k f)) → IsKept (r >>= λ x. as_number p x >>= k)
with_number p r k h go = then_ruled r (λ x. as_number p x >>= k) h (λ x. then_ruled (as_number p x) k (number_ruled p x) go)

mutual
  typing_ruled : (s : Names) (e : Expr) → IsKept (typed_by s e)
  typing_ruled s (raw.node p k) = kind_ruled s k

  kind_ruled : (s : Names) (k : Kind) → IsKept (kind_typed_by s k)
  kind_ruled s (raw.numeral n) = made_ruled _ (limited 0 (linear.number (pos n))) (limited_ruled 0 (linear.number (pos n)))
  kind_ruled s (raw.truth b) = tt
  kind_ruled s (raw.name n) = variable_ruled n.place (s.variable n.text)
  kind_ruled s (raw.at n) = place_ruled n.place (s.place n.text)
  kind_ruled s (raw.negation e) = with_truth (start_of e) (typed_by s e) _ (typing_ruled s e) (λ f. tt)
  kind_ruled s (raw.negative p e) = with_number (start_of e) (typed_by s e) _ (typing_ruled s e) (λ f. made_ruled _ (limited p (scaled (negsuc 0) f)) (limited_ruled p (scaled (negsuc 0) f)))
  kind_ruled s (raw.all es) = made_ruled _ (all_typed_by s es) (chain_ruled s es)
  kind_ruled s (raw.any es) = made_ruled _ (all_typed_by s es) (chain_ruled s es)
  kind_ruled s (raw.pair o p l r) =
      either_ruled (is_implication o) _ _
      (with_truth (start_of l) (typed_by s l) _ (typing_ruled s l) (λ f. with_truth (start_of r) (typed_by s r) _ (typing_ruled s r) (λ g. tt)))
      (with_number (start_of l) (typed_by s l) _ (typing_ruled s l) (λ f. with_number (start_of r) (typed_by s r) _ (typing_ruled s r) (λ g. combine_ruled o p f g)))

  chain_ruled : (s : Names) (es : Exprs) → IsKept (all_typed_by s es)
  chain_ruled s raw.none = tt
  chain_ruled s (raw.one_more e es) = with_truth (start_of e) (typed_by s e) _ (typing_ruled s e) (λ f. made_ruled _ (all_typed_by s es) (chain_ruled s es))

pub truths_ruled : (s : Names) (e : Expr) → IsKept (truth_of s e)
truths_ruled s e = then_ruled (typed_by s e) (λ x. as_truth (start_of e) x) (typing_ruled s e) (λ x. truth_ruled (start_of e) x)

pub numbers_ruled : (s : Names) (e : Expr) → IsKept (number_of s e)
numbers_ruled s e = then_ruled (typed_by s e) (λ x. as_number (start_of e) x) (typing_ruled s e) (λ x. number_ruled (start_of e) x)
