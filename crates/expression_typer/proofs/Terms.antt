-- What is typed uses each variable by its type, and has small numbers.
use Rattle.std.proofs.Common.{◌≡◌, ℕ, ◌^◌, Bool, true, false, cond, List, [], ◌∷◌, refl, ap, ◌∙◌, pos, negsuc, slice_get, Option, Some, None, Result, Ok, Err}
use Rattle.std.specs.Option.{option_map}
use Rattle.std.specs.Str.{bytes_eq}
use Rattle.st_linear.specs.Linear.{Linear}
use Rattle.st_linear.specs.Linear as linear
use Rattle.st_linear.specs.Simple.{negated}
use Rattle.st_form.specs.Formula.{Formula, bool_var}
use Rattle.st_form.specs.declared.variables.Variable.{Variable}
use Rattle.st_program.specs.Tree.{Term, number, truth}
use Rattle.st_program.specs.Types.{type_of, FormulasFit, TestFits}
use Rattle.expression_parser.specs.declared.raw.Operator.{Operator}
use Rattle.expression_parser.specs.declared.raw.Operator.TheVariants as operators
use Rattle.expression_parser.specs.ExpressionTree.{Expr, Kind, Exprs, start_of}
use Rattle.expression_parser.specs.ExpressionTree as raw
use Rattle.expression_typer.specs.declared.fault.TypeFault.{TypeFault}
use Rattle.expression_typer.specs.Answers.{◌>>=◌}
use Rattle.expression_typer.specs.Scope.{Known, find}
use Rattle.expression_typer.specs.Written.{limited, difference, lowered, product}
use Rattle.expression_typer.specs.Typing.{typed, typed_kind, all_typed, as_number, as_truth, combine, is_implication, named_by, variable_term}
use Rattle.expression_typer.proofs.Holding.{Holds, bound}
use Rattle.expression_typer.proofs.Fits.{Compared, IsWord, sum_word, less_word, negative_word, product_word, difference_fits, lowered_fits}
use Rattle.expression_typer.proofs.Numerals.{numeral_word, variable_word}

-- a known variable is one of the program's
abbrev pub IsKnown : List Variable → Known → Type 0
IsKnown vs k = slice_get vs k.var ≡ Some (record { input = k.input; truth = k.truth })

abbrev pub Scoped : List Variable → List Known → Type 0
Scoped vs [] = Unit {0}
Scoped vs (k ∷ ks) = IsKnown vs k × Scoped vs ks

abbrev pub IfKnown : List Variable → Option Known → Type 0
IfKnown vs None = Unit {0}
IfKnown vs (Some k) = IsKnown vs k

pub found : (vs : List Variable) (n : List ℕ) (s : List Known) → Scoped vs s → IfKnown vs (find n s)
found vs n [] h = tt
found vs n (k ∷ ks) h = go (bytes_eq k.name n) (found vs n ks h.1)
  where
    go : (b : Bool) → IfKnown vs (find n ks) → IfKnown vs (cond b (Some k) (find n ks))
    go true g = h.0
    go false g = g

-- a term of the rules
abbrev pub Good : List Variable → Term → Type 0
Good vs (number f) = IsWord vs f
Good vs (truth f) = TestFits vs f

known_type : (vs : List Variable) (k : Known) → IsKnown vs k → type_of vs k.var ≡ Some k.truth
known_type vs k h = ap (option_map (λ x. x.truth)) h

variable_good : (vs : List Variable) (k : Known) → IsKnown vs k → Good vs (variable_term (k.var, k.truth))
variable_good vs k h = go k.truth refl
  where
    go : (b : Bool) → k.truth ≡ b → Good vs (cond b (truth (bool_var k.var)) (number (linear.variable k.var)))
    go true e = known_type vs k h ∙ ap Some e
    go false e = variable_word vs k.var (known_type vs k h ∙ ap Some e)

named_good : (vs : List Variable) (place : ℕ) (o : Option Known) → IfKnown vs o → Holds (Good vs) (named_by place (option_map (λ k. (k.var, k.truth)) o))
named_good vs place None h = tt
named_good vs place (Some k) h = variable_good vs k h

then_truth : {B : Type 0} (vs : List Variable) (Q : B → Type 0) (r : Result Term TypeFault) (p : ℕ) (k : Formula → Result B TypeFault) → Holds (Good vs) r → ((f : Formula) → TestFits vs f → Holds Q (k f)) → Holds Q (r >>= λ x. as_truth p x >>= k)
then_truth vs Q (Ok (truth f)) p k h go = go f h
then_truth vs Q (Ok (number f)) p k h go = tt
then_truth vs Q (Err e) p k h go = tt

then_number : {B : Type 0} (vs : List Variable) (Q : B → Type 0) (r : Result Term TypeFault) (p : ℕ) (k : Linear → Result B TypeFault) → Holds (Good vs) r → ((f : Linear) → IsWord vs f → Holds Q (k f)) → Holds Q (r >>= λ x. as_number p x >>= k)
then_number vs Q (Ok (truth f)) p k h go = tt
then_number vs Q (Ok (number f)) p k h go = go f h
then_number vs Q (Err e) p k h go = tt

combine_good : (vs : List Variable) (o : Operator) (at : ℕ) (f g : Linear) → IsWord vs f → IsWord vs g → Holds (Good vs) (combine o at f g)
combine_good vs operators.Implies at f g h k = tt
combine_good vs operators.Equal at f g h k = bound (Compared vs) (Good vs) (difference at f g) _ (difference_fits vs at f g h k) (λ d p. p)
combine_good vs operators.Unequal at f g h k = bound (Compared vs) (Good vs) (difference at f g) _ (difference_fits vs at f g h k) (λ d p. p)
combine_good vs operators.Less at f g h k = bound (Compared vs) (Good vs) (lowered at g f) _ (lowered_fits vs at g f k h) (λ d p. p)
combine_good vs operators.AtMost at f g h k = bound (Compared vs) (Good vs) (difference at g f) _ (difference_fits vs at g f k h) (λ d p. p)
combine_good vs operators.Greater at f g h k = bound (Compared vs) (Good vs) (lowered at f g) _ (lowered_fits vs at f g h k) (λ d p. p)
combine_good vs operators.AtLeast at f g h k = bound (Compared vs) (Good vs) (difference at f g) _ (difference_fits vs at f g h k) (λ d p. p)
combine_good vs operators.Plus at f g h k = bound (IsWord vs) (Good vs) (limited at (linear.sum_of f g)) _ (sum_word vs at f g h k) (λ d p. p)
combine_good vs operators.Minus at f g h k = bound (IsWord vs) (Good vs) (limited at (linear.sum_of f (negated g))) _ (less_word vs at f g h k) (λ d p. p)
combine_good vs operators.Times at f g h k = bound (IsWord vs) (Good vs) (product at f g) _ (product_word vs at f g h k) (λ d p. p)

pub either : {A : Type 0} (P : A → Type 0) (b : Bool) (x y : Result A TypeFault) → Holds P x → Holds P y → Holds P (cond b x y)
either P true x y h k = h
either P false x y h k = k

mutual
  pub typed_good : (vs : List Variable) (s : List Known) (e : Expr) → Scoped vs s → Holds (Good vs) (typed s e)
  typed_good vs s (raw.node p k) h = kind_good vs s k h

  kind_good : (vs : List Variable) (s : List Known) (k : Kind) → Scoped vs s → Holds (Good vs) (typed_kind s k)
  kind_good vs s (raw.numeral n) h = bound (IsWord vs) (Good vs) (limited 0 (linear.number (pos n))) _ (numeral_word vs n) (λ f p. p)
  kind_good vs s (raw.truth b) h = tt
  kind_good vs s (raw.name n) h = named_good vs n.place (find n.text s) (found vs n.text s h)
  kind_good vs s (raw.at n) h = tt
  kind_good vs s (raw.negation e) h = then_truth vs (Good vs) (typed s e) (start_of e) _ (typed_good vs s e h) (λ f p. p)
  kind_good vs s (raw.negative at e) h =
      then_number vs (Good vs) (typed s e) (start_of e) _ (typed_good vs s e h) (λ f p. bound (IsWord vs) (Good vs) (limited at (linear.scaled (negsuc 0) f)) _ (negative_word vs at f p) (λ g q. q))
  kind_good vs s (raw.all es) h = bound (FormulasFit vs (2 ^ 32)) (Good vs) (all_typed s es) _ (all_good vs s es h) (λ fs p. p)
  kind_good vs s (raw.any es) h = bound (FormulasFit vs (2 ^ 32)) (Good vs) (all_typed s es) _ (all_good vs s es h) (λ fs p. p)
  kind_good vs s (raw.pair o at l r) h =
      either (Good vs) (is_implication o) _ _
      (then_truth vs (Good vs) (typed s l) (start_of l) _ (typed_good vs s l h)
      (λ f p. then_truth vs (Good vs) (typed s r) (start_of r) _ (typed_good vs s r h) (λ g q. (p, (q, tt)))))
      (then_number vs (Good vs) (typed s l) (start_of l) _ (typed_good vs s l h)
      (λ f p. then_number vs (Good vs) (typed s r) (start_of r) _ (typed_good vs s r h) (λ g q. combine_good vs o at f g p q)))

  all_good : (vs : List Variable) (s : List Known) (es : Exprs) → Scoped vs s → Holds (FormulasFit vs (2 ^ 32)) (all_typed s es)
  all_good vs s raw.none h = tt
  all_good vs s (raw.one_more e es) h =
      then_truth vs (FormulasFit vs (2 ^ 32)) (typed s e) (start_of e) _ (typed_good vs s e h)
      (λ f p. bound (FormulasFit vs (2 ^ 32)) (FormulasFit vs (2 ^ 32)) (all_typed s es) _ (all_good vs s es h) (λ fs q. (p, q)))
