-- The walk over an expression tells the first broken rule.
use Rattle.std.proofs.Common.{◌≡◌, ℕ, ◌≤◌, ◌^◌, Bool, true, false, cond, List, [], ◌∷◌, ◌++◌, refl, ap, arith, pos, negsuc, Option, Some, None, Result, Ok, Err, append-nil}
use Rattle.std.proofs.lemmas.Bool.Decides.{nat_tests}
use Rattle.std.specs.Option.{option_map}
use Rattle.st_linear.specs.Linear.{Linear, sum_of, scaled, variable}
use Rattle.st_linear.specs.Linear as linear
use Rattle.st_form.specs.Formula as forms
use Rattle.st_form.specs.Formula.{Formula, Formulas, truth_value, row, equal, bool_var, negation, every, some, none, more}
use Rattle.st_program.specs.Tree.{Term, number, truth}
use Rattle.expression_parser.specs.declared.raw.Operator.{Operator}
use Rattle.expression_parser.specs.declared.raw.Operator.TheVariants as operators
use Rattle.expression_parser.specs.ExpressionTree.{Expr, Kind, Exprs, start_of}
use Rattle.expression_parser.specs.ExpressionTree as raw
use Rattle.expression_typer.specs.declared.fault.TypeFault.{TypeFault}
use Rattle.expression_typer.specs.declared.fault.TypeFault.TheVariants as faults
use Rattle.expression_typer.specs.Answers.{◌>>=◌}
use Rattle.expression_typer.specs.Scope.{Known, Names, only}
use Rattle.st_program.specs.Groups.{is_written_number}
use Rattle.expression_typer.specs.Written.{is_writable, is_constant, limited}
use Rattle.expression_typer.specs.Typing.{typed, typed_by, kind_typed_by, all_typed_by, as_number, as_truth, combine, implied, is_implication, named_by, placed_by, variable_term}
use Rattle.expression_typer.specs.Rules.{number_in, truth_in, both, not_number, not_truth, unknown, too_large, not_linear, operator_faults, form_of, if_written, combined, meaning, meaning_by, kind_meaning_by, meanings_by, faults_in, faults_by, kind_faults_by, all_faults_by}
use Rattle.expression_typer.specs.Told.{Told, IsWritten, IsModest, IsModestKind, AreModest}
use Rattle.expression_typer.proofs.Sizes.{Bounded, difference_is, lowered_is}

abbrev Any : {A : Type 0} → A → Type 0
Any x = Unit {0}

then_truth : {B : Type 0} (Q : B → Type 0) (r : Result Term TypeFault) (fs gs : List TypeFault) (m : Option Term) (p : ℕ) (k : Formula → Result B TypeFault) (n : Formula → Option B)
    → Told IsWritten r fs m → ((f : Formula) → truth_in m ≡ Some f → Told Q (k f) gs (n f))
    → Told Q (r >>= λ x. as_truth p x >>= k) (fs ++ (not_truth p m ++ gs)) (both (truth_in m) n)
then_truth Q (Ok (number f)) fs gs m p k n h go = rw (h.0, h.1) ((gs, refl), refl)
then_truth Q (Ok (truth f)) fs gs m p k n h go = rw (h.0, h.1) (go f (ap truth_in h.1))
then_truth Q (Err f) fs gs m p k n h go = ((h.0.0 ++ (not_truth p m ++ gs), ap (λ l. l ++ (not_truth p m ++ gs)) h.0.1), ap (λ o. both (truth_in o) n) h.1)

then_number : {B : Type 0} (Q : B → Type 0) (r : Result Term TypeFault) (fs gs : List TypeFault) (m : Option Term) (p : ℕ) (k : Linear → Result B TypeFault) (n : Linear → Option B)
    → Told IsWritten r fs m → ((f : Linear) → number_in m ≡ Some f → is_writable f ≡ true → Told Q (k f) gs (n f))
    → Told Q (r >>= λ x. as_number p x >>= k) (fs ++ (not_number p m ++ gs)) (both (number_in m) n)
then_number Q (Ok (truth f)) fs gs m p k n h go = rw (h.0, h.1) ((gs, refl), refl)
then_number Q (Ok (number f)) fs gs m p k n h go = rw (h.0, h.1) (go f (ap number_in h.1) h.2)
then_number Q (Err f) fs gs m p k n h go = ((h.0.0 ++ (not_number p m ++ gs), ap (λ l. l ++ (not_number p m ++ gs)) h.0.1), ap (λ o. both (number_in o) n) h.1)

told_all : (wrap : Formulas → Formula) (r : Result Formulas TypeFault) (fs : List TypeFault) (m : Option Formulas) → Told (Any {A = Formulas}) r fs m → Told IsWritten (r >>= λ gs. Ok (truth (wrap gs))) fs (both m (λ gs. Some (truth (wrap gs))))
told_all wrap (Ok gs) fs m h = rw h.1 (h.0, refl, tt)
told_all wrap (Err f) fs m h = (h.0, ap (λ o. both o (λ gs. Some (truth (wrap gs)))) h.1)

told_more : (f : Formula) (r : Result Formulas TypeFault) (fs : List TypeFault) (m : Option Formulas) → Told (Any {A = Formulas}) r fs m → Told (Any {A = Formulas}) (r >>= λ gs. Ok (more f gs)) fs (both m (λ gs. Some (more f gs)))
told_more f (Ok gs) fs m h = rw h.1 (h.0, refl, tt)
told_more f (Err e) fs m h = (h.0, ap (λ o. both o (λ gs. Some (more f gs))) h.1)

limited_by : (at : ℕ) (f : Linear) (b : Bool) → is_writable f ≡ b → Told IsWritten ((cond b (Ok f) (Err (faults.TooLarge at))) >>= λ h. Ok (number h)) (cond b [] (faults.TooLarge at ∷ [])) (cond b (Some (number f)) None)
limited_by at f true e = (refl, refl, e)
limited_by at f false e = (([], refl), refl)

told_limited : (at : ℕ) (f : Linear) → Told IsWritten (limited at f >>= λ h. Ok (number h)) (too_large at (Some f)) (if_written (Some f))
told_limited at f = limited_by at f (is_writable f) refl

told_product : (at : ℕ) (f g : Linear) → Told IsWritten (combine operators.Times at f g) (not_linear at (form_of operators.Times f g)) (if_written (form_of operators.Times f g))
told_product at f g = go (is_constant f.entries) (is_constant g.entries)
  where
    go : (b c : Bool) → Told IsWritten ((cond b (limited at (scaled f.constant g)) (cond c (limited at (scaled g.constant f)) (Err (faults.NonLinear at)))) >>= λ h. Ok (number h)) (not_linear at (cond b (Some (scaled f.constant g)) (cond c (Some (scaled g.constant f)) None))) (if_written (cond b (Some (scaled f.constant g)) (cond c (Some (scaled g.constant f)) None)))
    go true c = told_limited at (scaled f.constant g)
    go false true = told_limited at (scaled g.constant f)
    go false false = (([], refl), refl)

told_combine : (o : Operator) (at : ℕ) (f g : Linear) → is_implication o ≡ false → is_writable f ≡ true → is_writable g ≡ true → Told IsWritten (combine o at f g) (operator_faults o at (Some f) (Some g)) (combined o f g)
told_combine operators.Implies at f g e h k = absurd (cc)
told_combine operators.Equal at f g e h k = rw (difference_is at f g h k) (refl, refl, tt)
told_combine operators.Unequal at f g e h k = rw (difference_is at f g h k) (refl, refl, tt)
told_combine operators.Less at f g e h k = rw (lowered_is at g f k h) (refl, refl, tt)
told_combine operators.AtMost at f g e h k = rw (difference_is at g f k h) (refl, refl, tt)
told_combine operators.Greater at f g e h k = rw (lowered_is at f g h k) (refl, refl, tt)
told_combine operators.AtLeast at f g e h k = rw (difference_is at f g h k) (refl, refl, tt)
told_combine operators.Plus at f g e h k = told_limited at _
told_combine operators.Minus at f g e h k = told_limited at _
told_combine operators.Times at f g e h k = told_product at f g

numeral_bound : (n : ℕ) → n ≤ 2 ^ 30 → Bounded (2 ^ 30) (linear.number (pos n))
numeral_bound n h = record { constant = h; entries = tt }

numeral_by : (f : Linear) (b : Bool) → is_writable f ≡ b → b ≡ true → Told IsWritten ((cond b (Ok f) (Err (faults.TooLarge 0))) >>= λ h. Ok (number h)) [] (Some (number f))
numeral_by f true e h = (refl, refl, e)
numeral_by f false e h = absurd (cc)

numeral_written : (n : ℕ) → n ≤ 2 ^ 30 → is_writable (linear.number (pos n)) ≡ true
unfolding is_writable is_written_number
numeral_written n h = grind (arith, nat_tests)

variable_written : (v : ℕ) → is_writable (variable v) ≡ true
unfolding is_writable is_written_number
variable_written v = refl

told_variable : (v : ℕ) (b : Bool) → IsWritten (cond b (truth (bool_var v)) (number (variable v)))
told_variable v true = tt
told_variable v false = variable_written v

told_name : (place : ℕ) (o : Option (ℕ × Bool)) → Told IsWritten (named_by place o) (unknown place o) (option_map variable_term o)
told_name place None = (([], refl), refl)
told_name place (Some v) = (refl, refl, told_variable v.0 v.1)

told_place : (place : ℕ) (o : Option ℕ) → Told IsWritten (placed_by place o) (unknown place o) (option_map (λ l. truth (forms.at l)) o)
told_place place None = (([], refl), refl)
told_place place (Some l) = (refl, refl, tt)

told_pair : (s : Names) (o : Operator) (at : ℕ) (l r : Expr) (b : Bool) → is_implication o ≡ b
    → Told IsWritten (typed_by s l) (faults_by s l) (meaning_by s l) → Told IsWritten (typed_by s r) (faults_by s r) (meaning_by s r)
    → Told IsWritten
    (cond b (typed_by s l >>= λ x. as_truth (start_of l) x >>= λ f. typed_by s r >>= λ y. as_truth (start_of r) y >>= λ g. Ok (truth (implied f g)))
    (typed_by s l >>= λ x. as_number (start_of l) x >>= λ f. typed_by s r >>= λ y. as_number (start_of r) y >>= λ g. combine o at f g))
    (cond b (faults_by s l ++ (not_truth (start_of l) (meaning_by s l) ++ (faults_by s r ++ not_truth (start_of r) (meaning_by s r))))
    (faults_by s l ++ (not_number (start_of l) (meaning_by s l) ++ (faults_by s r ++ (not_number (start_of r) (meaning_by s r)
    ++ operator_faults o at (number_in (meaning_by s l)) (number_in (meaning_by s r)))))))
    (cond b (both (truth_in (meaning_by s l)) (λ f. both (truth_in (meaning_by s r)) (λ g. Some (truth (implied f g)))))
    (both (number_in (meaning_by s l)) (λ f. both (number_in (meaning_by s r)) (λ g. combined o f g))))
told_pair s o at l r true e hl hr =
    then_truth IsWritten (typed_by s l) (faults_by s l) (faults_by s r ++ not_truth (start_of r) (meaning_by s r)) (meaning_by s l) (start_of l)
    (λ f. typed_by s r >>= λ y. as_truth (start_of r) y >>= λ g. Ok (truth (implied f g))) (λ f. both (truth_in (meaning_by s r)) (λ g. Some (truth (implied f g)))) hl
    (λ f i. let q = then_truth IsWritten (typed_by s r) (faults_by s r) [] (meaning_by s r) (start_of r) (λ g. Ok (truth (implied f g))) (λ g. Some (truth (implied f g))) hr (λ g j. (refl, refl, tt)) in
    rw (append-nil (not_truth (start_of r) (meaning_by s r))) at q)
told_pair s o at l r false e hl hr =
    then_number IsWritten (typed_by s l) (faults_by s l) _ (meaning_by s l) (start_of l)
    (λ f. typed_by s r >>= λ y. as_number (start_of r) y >>= λ g. combine o at f g) (λ f. both (number_in (meaning_by s r)) (λ g. combined o f g)) hl
    (λ f i w. then_number IsWritten (typed_by s r) (faults_by s r) (operator_faults o at (number_in (meaning_by s l)) (number_in (meaning_by s r))) (meaning_by s r) (start_of r)
    (λ g. combine o at f g) (λ g. combined o f g) hr
    (λ g j v. rw (i, j) (told_combine o at f g e w v)))

mutual
  pub told_by : (s : Names) (e : Expr) → IsModest e → Told IsWritten (typed_by s e) (faults_by s e) (meaning_by s e)
  told_by s (raw.node p k) h = told_kind_by s k h

  pub told_kind_by : (s : Names) (k : Kind) → IsModestKind k → Told IsWritten (kind_typed_by s k) (kind_faults_by s k) (kind_meaning_by s k)
  told_kind_by s (raw.numeral n) h = numeral_by (linear.number (pos n)) (is_writable (linear.number (pos n))) refl (numeral_written n h)
  told_kind_by s (raw.truth b) h = (refl, refl, tt)
  told_kind_by s (raw.name n) h = told_name n.place (s.variable n.text)
  told_kind_by s (raw.at n) h = told_place n.place (s.place n.text)
  told_kind_by s (raw.negation e) h =
      let q = then_truth IsWritten (typed_by s e) (faults_by s e) [] (meaning_by s e) (start_of e) (λ f. Ok (truth (negation f))) (λ f. Some (truth (negation f))) (told_by s e h) (λ f i. (refl, refl, tt)) in
      rw (append-nil (not_truth (start_of e) (meaning_by s e))) at q
  told_kind_by s (raw.negative at e) h =
      then_number IsWritten (typed_by s e) (faults_by s e) (too_large at (option_map (scaled (negsuc 0)) (number_in (meaning_by s e)))) (meaning_by s e) (start_of e)
      (λ f. limited at (scaled (negsuc 0) f) >>= λ g. Ok (number g)) (λ f. if_written (Some (scaled (negsuc 0) f)))
      (told_by s e h) (λ f i w. rw i (told_limited at (scaled (negsuc 0) f)))
  told_kind_by s (raw.all es) h = told_all every (all_typed_by s es) (all_faults_by s es) (meanings_by s es) (tolds_by s es h)
  told_kind_by s (raw.any es) h = told_all some (all_typed_by s es) (all_faults_by s es) (meanings_by s es) (tolds_by s es h)
  told_kind_by s (raw.pair o at l r) h = told_pair s o at l r (is_implication o) refl (told_by s l h.0) (told_by s r h.1)

  pub tolds_by : (s : Names) (es : Exprs) → AreModest es → Told (Any {A = Formulas}) (all_typed_by s es) (all_faults_by s es) (meanings_by s es)
  tolds_by s raw.none h = (refl, refl, tt)
  tolds_by s (raw.one_more e es) h =
      then_truth (Any {A = Formulas}) (typed_by s e) (faults_by s e) (all_faults_by s es) (meaning_by s e) (start_of e)
      (λ f. all_typed_by s es >>= λ fs. Ok (more f fs)) (λ f. both (meanings_by s es) (λ fs. Some (more f fs)))
      (told_by s e h.0) (λ f i. told_more f (all_typed_by s es) (all_faults_by s es) (meanings_by s es) (tolds_by s es h.1))

-- in programs
pub told : (s : List Known) (e : Expr) → IsModest e → Told IsWritten (typed s e) (faults_in s e) (meaning s e)
told s e h = told_by (only s) e h
