-- The typing of expressions, in text order, with the first fault that is met.
use Rattle.std.specs.Prelude.{ℕ, Bool, true, false, if◌then◌else◌, List, pos, negsuc, Option, Some, None, Result, Ok, Err}
use Rattle.st_linear.specs.Linear.{Linear, sum_of, scaled, variable}
use Rattle.st_linear.specs.Linear as linear
use Rattle.st_linear.specs.Simple.{negated}
use Rattle.st_form.specs.Formula as forms
use Rattle.st_form.specs.Formula.{Formula, Formulas, truth_value, row, equal, bool_var, negation, every, some, none, more}
use Rattle.expression_parser.specs.declared.raw.Operator.{Operator}
use Rattle.expression_parser.specs.declared.raw.Operator.TheVariants as operators
use Rattle.expression_parser.specs.ExpressionTree.{Expr, Kind, Exprs, start_of}
use Rattle.expression_parser.specs.ExpressionTree as raw
use Rattle.expression_typer.specs.declared.fault.TypeFault.{TypeFault}
use Rattle.expression_typer.specs.declared.fault.TypeFault.TheVariants as faults
use Rattle.expression_typer.specs.Answers.{◌>>=◌}
use Rattle.expression_typer.specs.Scope.{Known, Names, only}
use Rattle.st_program.specs.Tree.{Term, number, truth}
use Rattle.expression_typer.specs.Written.{limited, difference, lowered, product}

abbrev pub as_number : ℕ → Term → Result Linear TypeFault
as_number place (number f) = Ok f
as_number place (truth f) = Err (faults.WrongType place)

abbrev pub as_truth : ℕ → Term → Result Formula TypeFault
as_truth place (number f) = Err (faults.WrongType place)
as_truth place (truth f) = Ok f

abbrev pub variable_term : ℕ × Bool → Term
variable_term v = if v.1 then truth (bool_var v.0) else number (variable v.0)

abbrev pub named_by : ℕ → Option (ℕ × Bool) → Result Term TypeFault
named_by place None = Err (faults.Unknown place)
named_by place (Some v) = Ok (variable_term v)

abbrev pub placed_by : ℕ → Option ℕ → Result Term TypeFault
placed_by place None = Err (faults.Unknown place)
placed_by place (Some l) = Ok (truth (forms.at l))

abbrev pub implied : Formula → Formula → Formula
implied f g = some (more (negation f) (more g none))

abbrev pub is_implication : Operator → Bool
is_implication operators.Implies = true
is_implication _ = false

-- an operator between numbers
abbrev pub combine : Operator → ℕ → Linear → Linear → Result Term TypeFault
combine operators.Implies at f g = Err (faults.WrongType at)
combine operators.Equal at f g = difference at f g >>= λ h. Ok (truth (equal h))
combine operators.Unequal at f g = difference at f g >>= λ h. Ok (truth (negation (equal h)))
combine operators.Less at f g = lowered at g f >>= λ h. Ok (truth (row h))
combine operators.AtMost at f g = difference at g f >>= λ h. Ok (truth (row h))
combine operators.Greater at f g = lowered at f g >>= λ h. Ok (truth (row h))
combine operators.AtLeast at f g = difference at f g >>= λ h. Ok (truth (row h))
combine operators.Plus at f g = limited at (sum_of f g) >>= λ h. Ok (number h)
combine operators.Minus at f g = limited at (sum_of f (negated g)) >>= λ h. Ok (number h)
combine operators.Times at f g = product at f g >>= λ h. Ok (number h)

abbrev mutual
  -- by what the names stand for
  pub typed_by : Names → Expr → Result Term TypeFault
  typed_by s (raw.node place k) = kind_typed_by s k

  pub kind_typed_by : Names → Kind → Result Term TypeFault
  kind_typed_by s (raw.numeral n) = limited 0 (linear.number (pos n)) >>= λ f. Ok (number f)
  kind_typed_by s (raw.truth b) = Ok (truth (truth_value b))
  kind_typed_by s (raw.name n) = named_by n.place (s.variable n.text)
  kind_typed_by s (raw.at n) = placed_by n.place (s.place n.text)
  kind_typed_by s (raw.negation e) = typed_by s e >>= λ x. as_truth (start_of e) x >>= λ f. Ok (truth (negation f))
  kind_typed_by s (raw.negative at e) = typed_by s e >>= λ x. as_number (start_of e) x >>= λ f. limited at (scaled (negsuc 0) f) >>= λ g. Ok (number g)
  kind_typed_by s (raw.all es) = all_typed_by s es >>= λ fs. Ok (truth (every fs))
  kind_typed_by s (raw.any es) = all_typed_by s es >>= λ fs. Ok (truth (some fs))
  kind_typed_by s (raw.pair o at l r) =
      if is_implication o
      then (typed_by s l >>= λ x. as_truth (start_of l) x >>= λ f. typed_by s r >>= λ y. as_truth (start_of r) y >>= λ g. Ok (truth (implied f g)))
      else (typed_by s l >>= λ x. as_number (start_of l) x >>= λ f. typed_by s r >>= λ y. as_number (start_of r) y >>= λ g. combine o at f g)

  pub all_typed_by : Names → Exprs → Result Formulas TypeFault
  all_typed_by s raw.none = Ok none
  all_typed_by s (raw.one_more e es) = typed_by s e >>= λ x. as_truth (start_of e) x >>= λ f. all_typed_by s es >>= λ fs. Ok (more f fs)

-- in programs, where names stand for variables alone
abbrev pub typed : List Known → Expr → Result Term TypeFault
typed s e = typed_by (only s) e

abbrev pub typed_kind : List Known → Kind → Result Term TypeFault
typed_kind s k = kind_typed_by (only s) k

abbrev pub all_typed : List Known → Exprs → Result Formulas TypeFault
all_typed s es = all_typed_by (only s) es
