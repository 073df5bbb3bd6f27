-- The rules of typing, each by the places at which it is broken, in text order.
use Rattle.std.specs.Prelude.{ℕ, if◌then◌else◌, List, [], ◌∷◌, ◌++◌, pos, negsuc, Option, Some, None}
use Rattle.std.specs.Option.{option_map}
use Rattle.st_linear.specs.Linear.{Linear, sum_of, scaled, variable}
use Rattle.st_linear.specs.Linear as linear
use Rattle.st_linear.specs.Simple.{negated}
use Rattle.st_form.specs.Formula as forms
use Rattle.st_form.specs.Formula.{Formula, Formulas, truth_value, row, equal, bool_var, negation, every, some, none, more}
use Rattle.expression_parser.specs.declared.raw.Operator.{Operator}
use Rattle.expression_parser.specs.declared.raw.Operator.TheVariants as operators
use Rattle.expression_parser.specs.ExpressionTree.{Expr, Kind, Exprs, start_of}
use Rattle.expression_parser.specs.ExpressionTree as raw
use Rattle.expression_typer.specs.declared.fault.TypeFault.{TypeFault}
use Rattle.expression_typer.specs.declared.fault.TypeFault.TheVariants as faults
use Rattle.st_program.specs.Tree.{Term, number, truth}
use Rattle.expression_typer.specs.Scope.{Known, Names, only}
use Rattle.expression_typer.specs.Typing.{variable_term, implied, is_implication}
use Rattle.expression_typer.specs.Written.{is_writable, is_constant}

-- one less
abbrev pub less_one : Linear → Linear
less_one f = sum_of f (linear.number (negsuc 0))

abbrev pub minus : Linear → Linear → Linear
minus f g = sum_of f (negated g)

abbrev pub number_in : Option Term → Option Linear
number_in (Some (number f)) = Some f
number_in _ = None

abbrev pub truth_in : Option Term → Option Formula
truth_in (Some (truth f)) = Some f
truth_in _ = None

-- the form of a sum, difference or product, where it is linear
abbrev pub form_of : Operator → Linear → Linear → Option Linear
form_of operators.Plus f g = Some (sum_of f g)
form_of operators.Minus f g = Some (minus f g)
form_of operators.Times f g =
    if is_constant f.entries then Some (scaled f.constant g) else (if is_constant g.entries then Some (scaled g.constant f) else None)
form_of _ f g = None

abbrev pub if_written : Option Linear → Option Term
if_written None = None
if_written (Some f) = if is_writable f then Some (number f) else None

-- what an operator between numbers means
abbrev pub combined : Operator → Linear → Linear → Option Term
combined operators.Equal f g = Some (truth (equal (minus f g)))
combined operators.Unequal f g = Some (truth (negation (equal (minus f g))))
combined operators.Less f g = Some (truth (row (less_one (minus g f))))
combined operators.AtMost f g = Some (truth (row (minus g f)))
combined operators.Greater f g = Some (truth (row (less_one (minus f g))))
combined operators.AtLeast f g = Some (truth (row (minus f g)))
combined o f g = if_written (form_of o f g)

abbrev pub both : {A B : Type 0} → Option A → (A → Option B) → Option B
both None k = None
both (Some x) k = k x

abbrev mutual
  -- what an expression means: nothing where a rule is broken in it
  pub meaning_by : Names → Expr → Option Term
  meaning_by s (raw.node p k) = kind_meaning_by s k

  pub kind_meaning_by : Names → Kind → Option Term
  kind_meaning_by s (raw.numeral n) = Some (number (linear.number (pos n)))
  kind_meaning_by s (raw.truth b) = Some (truth (truth_value b))
  kind_meaning_by s (raw.name n) = option_map variable_term (s.variable n.text)
  kind_meaning_by s (raw.at n) = option_map (λ l. truth (forms.at l)) (s.place n.text)
  kind_meaning_by s (raw.negation e) = both (truth_in (meaning_by s e)) (λ f. Some (truth (negation f)))
  kind_meaning_by s (raw.negative at e) = both (number_in (meaning_by s e)) (λ f. if_written (Some (scaled (negsuc 0) f)))
  kind_meaning_by s (raw.all es) = both (meanings_by s es) (λ fs. Some (truth (every fs)))
  kind_meaning_by s (raw.any es) = both (meanings_by s es) (λ fs. Some (truth (some fs)))
  kind_meaning_by s (raw.pair o at l r) =
      if is_implication o
      then both (truth_in (meaning_by s l)) (λ f. both (truth_in (meaning_by s r)) (λ g. Some (truth (implied f g))))
      else both (number_in (meaning_by s l)) (λ f. both (number_in (meaning_by s r)) (λ g. combined o f g))

  pub meanings_by : Names → Exprs → Option Formulas
  meanings_by s raw.none = Some none
  meanings_by s (raw.one_more e es) = both (truth_in (meaning_by s e)) (λ f. both (meanings_by s es) (λ fs. Some (more f fs)))

-- an expression of known type that isn't of the wanted type
abbrev pub not_number : ℕ → Option Term → List TypeFault
not_number place (Some (truth f)) = faults.WrongType place ∷ []
not_number place _ = []

abbrev pub not_truth : ℕ → Option Term → List TypeFault
not_truth place (Some (number f)) = faults.WrongType place ∷ []
not_truth place _ = []

abbrev pub unknown : {A : Type 0} → ℕ → Option A → List TypeFault
unknown place None = faults.Unknown place ∷ []
unknown place (Some k) = []

-- a number of the form is too large
abbrev pub too_large : ℕ → Option Linear → List TypeFault
too_large at None = []
too_large at (Some f) = if is_writable f then [] else faults.TooLarge at ∷ []

abbrev pub not_linear : ℕ → Option Linear → List TypeFault
not_linear at None = faults.NonLinear at ∷ []
not_linear at (Some f) = too_large at (Some f)

-- the faults of an operator whose sides have forms
abbrev pub operator_faults : Operator → ℕ → Option Linear → Option Linear → List TypeFault
operator_faults operators.Plus at (Some f) (Some g) = too_large at (form_of operators.Plus f g)
operator_faults operators.Minus at (Some f) (Some g) = too_large at (form_of operators.Minus f g)
operator_faults operators.Times at (Some f) (Some g) = not_linear at (form_of operators.Times f g)
operator_faults _ at _ _ = []

abbrev mutual
  -- the rules that are broken in an expression, with their places
  pub faults_by : Names → Expr → List TypeFault
  faults_by s (raw.node p k) = kind_faults_by s k

  pub kind_faults_by : Names → Kind → List TypeFault
  kind_faults_by s (raw.numeral n) = []
  kind_faults_by s (raw.truth b) = []
  kind_faults_by s (raw.name n) = unknown n.place (s.variable n.text)
  kind_faults_by s (raw.at n) = unknown n.place (s.place n.text)
  kind_faults_by s (raw.negation e) = faults_by s e ++ not_truth (start_of e) (meaning_by s e)
  kind_faults_by s (raw.negative at e) =
      faults_by s e ++ (not_number (start_of e) (meaning_by s e) ++ too_large at (option_map (scaled (negsuc 0)) (number_in (meaning_by s e))))
  kind_faults_by s (raw.all es) = all_faults_by s es
  kind_faults_by s (raw.any es) = all_faults_by s es
  kind_faults_by s (raw.pair o at l r) =
      if is_implication o
      then faults_by s l ++ (not_truth (start_of l) (meaning_by s l) ++ (faults_by s r ++ not_truth (start_of r) (meaning_by s r)))
      else faults_by s l ++ (not_number (start_of l) (meaning_by s l) ++ (faults_by s r ++ (not_number (start_of r) (meaning_by s r)
      ++ operator_faults o at (number_in (meaning_by s l)) (number_in (meaning_by s r)))))

  pub all_faults_by : Names → Exprs → List TypeFault
  all_faults_by s raw.none = []
  all_faults_by s (raw.one_more e es) = faults_by s e ++ (not_truth (start_of e) (meaning_by s e) ++ all_faults_by s es)

-- in programs, where names stand for variables alone
abbrev pub meaning : List Known → Expr → Option Term
meaning s e = meaning_by (only s) e

abbrev pub faults_in : List Known → Expr → List TypeFault
faults_in s e = faults_by (only s) e
