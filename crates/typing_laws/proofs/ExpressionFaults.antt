-- The faults of an expression are rules of typing, in text order.
use Rattle.std.proofs.Common.{ℕ, suc, ◌<◌, ◌≤◌, Bool, true, false, cond, List, [], ◌∷◌, ◌++◌, arith, negsuc, Option, Some, None, Result, Ok, Err, append-nil}
use Rattle.std.specs.Option.{option_map}
use Rattle.st_linear.specs.Linear.{Linear, scaled}
use Rattle.st_program.specs.Tree.{Term, number, truth}
use Rattle.expression_parser.specs.declared.raw.Operator.{Operator}
use Rattle.expression_parser.specs.declared.raw.Operator.TheVariants as operators
use Rattle.expression_parser.specs.ExpressionTree.{Expr, Kind, Exprs, start_of}
use Rattle.expression_parser.specs.ExpressionTree as raw
use Rattle.expression_typer.specs.declared.fault.TypeFault.{TypeFault}
use Rattle.expression_typer.specs.declared.fault.TypeFault.TheVariants as faults
use Rattle.expression_typer.specs.Scope.{Known, Names, only}
use Rattle.expression_typer.specs.Written.{is_writable}
use Rattle.expression_typer.specs.Typing.{typed, is_implication}
use Rattle.expression_typer.specs.Rules.{number_in, not_number, not_truth, unknown, too_large, not_linear, operator_faults, form_of, meaning, meaning_by, faults_in, faults_by, kind_faults_by, all_faults_by}
use Rattle.expression_typer.specs.Told.{Told, IsWritten}
use Rattle.spl_typer.specs.StatementRules.{test_faults, side_faults}
use Rattle.expression_typer.proofs.Tells.{told}
use Rattle.expression_typer.proofs.Rising.{rises_by}
use Rattle.typing_laws.specs.Laws.{AreRules}
use Rattle.typing_laws.proofs.Laying.{ExprLaid}
use Rattle.typing_laws.proofs.Expressions.{start_behind, start_ahead}
use Rattle.typing_laws.proofs.Ordering.{Ordered, of_rising, widened, alone}

pub rules_append : (fs gs : List TypeFault) → AreRules fs → AreRules gs → AreRules (fs ++ gs)
rules_append [] gs h k = k
rules_append (f ∷ fs) gs h k = (h.0, rules_append fs gs h.1 k)

truth_rules : (p : ℕ) (m : Option Term) → AreRules (not_truth p m)
truth_rules p None = tt
truth_rules p (Some (number f)) = (tt, tt)
truth_rules p (Some (truth f)) = tt

number_rules : (p : ℕ) (m : Option Term) → AreRules (not_number p m)
number_rules p None = tt
number_rules p (Some (number f)) = tt
number_rules p (Some (truth f)) = (tt, tt)

name_rules : {A : Type 0} (p : ℕ) (o : Option A) → AreRules (unknown p o)
name_rules p None = (tt, tt)
name_rules p (Some k) = tt

large_rules : (at : ℕ) (o : Option Linear) → AreRules (too_large at o)
large_rules at None = tt
large_rules at (Some f) = go (is_writable f)
  where
    go : (b : Bool) → AreRules (cond b [] (faults.TooLarge at ∷ []))
    go true = tt
    go false = (tt, tt)

linear_rules : (at : ℕ) (o : Option Linear) → AreRules (not_linear at o)
linear_rules at None = (tt, tt)
linear_rules at (Some f) = large_rules at (Some f)

own_rules : (o : Operator) (at : ℕ) (f g : Linear) → AreRules (operator_faults o at (Some f) (Some g))
own_rules operators.Implies at f g = tt
own_rules operators.Equal at f g = tt
own_rules operators.Unequal at f g = tt
own_rules operators.Less at f g = tt
own_rules operators.AtMost at f g = tt
own_rules operators.Greater at f g = tt
own_rules operators.AtLeast at f g = tt
own_rules operators.Plus at f g = large_rules at (form_of operators.Plus f g)
own_rules operators.Minus at f g = large_rules at (form_of operators.Minus f g)
own_rules operators.Times at f g = linear_rules at (form_of operators.Times f g)

left_rules : (o : Operator) (at : ℕ) (y : Option Linear) → AreRules (operator_faults o at None y)
left_rules operators.Implies at y = tt
left_rules operators.Equal at y = tt
left_rules operators.Unequal at y = tt
left_rules operators.Less at y = tt
left_rules operators.AtMost at y = tt
left_rules operators.Greater at y = tt
left_rules operators.AtLeast at y = tt
left_rules operators.Plus at y = tt
left_rules operators.Minus at y = tt
left_rules operators.Times at y = tt

right_rules : (o : Operator) (at : ℕ) (f : Linear) → AreRules (operator_faults o at (Some f) None)
right_rules operators.Implies at f = tt
right_rules operators.Equal at f = tt
right_rules operators.Unequal at f = tt
right_rules operators.Less at f = tt
right_rules operators.AtMost at f = tt
right_rules operators.Greater at f = tt
right_rules operators.AtLeast at f = tt
right_rules operators.Plus at f = tt
right_rules operators.Minus at f = tt
right_rules operators.Times at f = tt

operator_rules : (o : Operator) (at : ℕ) (x y : Option Linear) → AreRules (operator_faults o at x y)
operator_rules o at None y = left_rules o at y
operator_rules o at (Some f) None = right_rules o at f
operator_rules o at (Some f) (Some g) = own_rules o at f g

mutual
  expression_rules : (s : Names) (e : Expr) → AreRules (faults_by s e)
  expression_rules s (raw.node p k) = kind_rules s k

  kind_rules : (s : Names) (k : Kind) → AreRules (kind_faults_by s k)
  kind_rules s (raw.numeral n) = tt
  kind_rules s (raw.truth b) = tt
  kind_rules s (raw.name n) = name_rules n.place (s.variable n.text)
  kind_rules s (raw.at n) = name_rules n.place (s.place n.text)
  kind_rules s (raw.negation e) = rules_append (faults_by s e) _ (expression_rules s e) (truth_rules (start_of e) (meaning_by s e))
  kind_rules s (raw.negative at e) =
      rules_append (faults_by s e) _ (expression_rules s e)
      (rules_append (not_number (start_of e) (meaning_by s e)) _ (number_rules (start_of e) (meaning_by s e)) (large_rules at (option_map (scaled (negsuc 0)) (number_in (meaning_by s e)))))
  kind_rules s (raw.all es) = all_rules s es
  kind_rules s (raw.any es) = all_rules s es
  kind_rules s (raw.pair o at l r) =
      choose (is_implication o) _ _
      (rules_append (faults_by s l) _ (expression_rules s l) (rules_append (not_truth (start_of l) (meaning_by s l)) _ (truth_rules (start_of l) (meaning_by s l))
      (rules_append (faults_by s r) _ (expression_rules s r) (truth_rules (start_of r) (meaning_by s r)))))
      (rules_append (faults_by s l) _ (expression_rules s l) (rules_append (not_number (start_of l) (meaning_by s l)) _ (number_rules (start_of l) (meaning_by s l))
      (rules_append (faults_by s r) _ (expression_rules s r) (rules_append (not_number (start_of r) (meaning_by s r)) _ (number_rules (start_of r) (meaning_by s r))
      (operator_rules o at (number_in (meaning_by s l)) (number_in (meaning_by s r)))))))
    where
      choose : (b : Bool) (x y : List TypeFault) → AreRules x → AreRules y → AreRules (cond b x y)
      choose true x y a c = a
      choose false x y a c = c

  all_rules : (s : Names) (es : Exprs) → AreRules (all_faults_by s es)
  all_rules s raw.none = tt
  all_rules s (raw.one_more e es) = rules_append (faults_by s e) _ (expression_rules s e) (rules_append (not_truth (start_of e) (meaning_by s e)) _ (truth_rules (start_of e) (meaning_by s e)) (all_rules s es))

pub expression_ordered : (s : List Known) (e : Expr) (from to : ℕ) → ExprLaid e from to → Ordered from to (faults_in s e)
expression_ordered s e from to l = of_rising from to (faults_in s e) (rises_by (only s) e from to l.modest l.placed) (expression_rules (only s) e)

-- an expression and its own wrong type, which comes only where nothing in it is wrong
typed_truth : (r : Result Term TypeFault) (fs : List TypeFault) (m : Option Term) (from to p : ℕ) → Told IsWritten r fs m → from ≤ p → p < to → Ordered from to fs → Ordered from to (fs ++ not_truth p m)
typed_truth (Ok (number f)) fs m from to p t h k o = rw (t.0, t.1) (widened p (suc p) from to (faults.WrongType p ∷ []) h (omega (arith, k)) (alone (faults.WrongType p) tt))
typed_truth (Ok (truth f)) fs m from to p t h k o = rw (t.0, t.1) (omega (arith, h, k))
typed_truth (Err f) fs m from to p t h k o = rw (t.1, append-nil fs) o

typed_number : (r : Result Term TypeFault) (fs : List TypeFault) (m : Option Term) (from to p : ℕ) → Told IsWritten r fs m → from ≤ p → p < to → Ordered from to fs → Ordered from to (fs ++ not_number p m)
typed_number (Ok (truth f)) fs m from to p t h k o = rw (t.0, t.1) (widened p (suc p) from to (faults.WrongType p ∷ []) h (omega (arith, k)) (alone (faults.WrongType p) tt))
typed_number (Ok (number f)) fs m from to p t h k o = rw (t.0, t.1) (omega (arith, h, k))
typed_number (Err f) fs m from to p t h k o = rw (t.1, append-nil fs) o

pub test_ordered : (s : List Known) (e : Expr) (from to : ℕ) → ExprLaid e from to → Ordered from to (test_faults s e)
test_ordered s e from to l =
    typed_truth (typed s e) (faults_in s e) (meaning s e) from to (start_of e) (told s e l.modest) (start_behind e from to l) (start_ahead e from to l) (expression_ordered s e from to l)

pub side_ordered : (s : List Known) (k : Option Known) (e : Expr) (from to : ℕ) → ExprLaid e from to → Ordered from to (side_faults s k e)
side_ordered s None e from to l = rw (append-nil (faults_in s e)) (expression_ordered s e from to l)
side_ordered s (Some k) e from to l = go k.truth
  where
    go : (b : Bool) → Ordered from to (faults_in s e ++ cond b (not_truth (start_of e) (meaning s e)) (not_number (start_of e) (meaning s e)))
    go true = test_ordered s e from to l
    go false = typed_number (typed s e) (faults_in s e) (meaning s e) from to (start_of e) (told s e l.modest) (start_behind e from to l) (start_ahead e from to l) (expression_ordered s e from to l)
