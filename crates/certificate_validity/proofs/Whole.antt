-- Validity by the rules is validity for the checker, by recursion on the tree.
use Rattle.std.proofs.Common.{◌≡◌, List, [], ◌∷◌, refl, sym, ap, subst, ◌∙◌, Option, Some, None}
use Rattle.std.specs.Prelude.{option_and_then}
use Rattle.st_form.specs.Formula.{Formula, Formulas, formulas}
use Rattle.st_certificate.specs.Tree.{Step, Tree, Trees, impossible, branch, farkas, linear, no_tree, with_tree}
use Rattle.farkas_leaf.specs.Leaf as of_rows
use Rattle.farkas_leaf.specs.Lines as of_lines
use Rattle.farkas_check.specs.Problem as problems
use Rattle.farkas_check.specs.Problem.{Setting, Problem, divided_into, division, first_problem}
use Rattle.farkas_check.specs.Valid.{There, Valid, AreValid}
use Rattle.certificate_validity.specs.Validity.{Contradict, Refutes, at_once, by_inequalities, by_lines, by_division, RefuteEach, no_problem, one_problem}
use Rattle.certificate_validity.specs.Laws.{CertifiesIsValid}
use Rattle.certificate_validity.proofs.Listed.{listed, formulas_listed}
use Rattle.certificate_validity.proofs.Leaves.{same_lines, same_rows, as_lines, contradict_closes, closes_contradict, rows_close, lines_close}
use Rattle.certificate_validity.proofs.Steps.{divides_of, divides_is}
use Rattle.certificate_validity.proofs.First.{posed_first}

there_of : {A : Type 0} (o : Option A) (x : A) (P : A → Type 0) → o ≡ Some x → P x → There o P
there_of o x P e h = subst (λ q. There q P) (sym e) h

there_is : {A : Type 0} (o : Option A) (P : A → Type 0) → There o P → (x : A) × (o ≡ Some x) × P x
there_is None P h = absurd h
there_is (Some x) P h = (x, refl, h)

there_listed : (o : Option Formulas) (P : Formulas → Type 0) → There o P → (fs : List Formula) × (o ≡ Some (formulas fs)) × P (formulas fs)
there_listed None P h = absurd h
there_listed (Some fs) P h = (listed fs, ap Some (sym (formulas_listed fs)), subst P (sym (formulas_listed fs)) h)

divided : (k : Setting) (p : Problem) (s : Step) (fs : Formulas) → p.conjuncts ≡ Some fs → division k p s ≡ divided_into k p fs s
divided k p s fs e = ap (option_and_then (λ gs. divided_into k p gs s)) e

-- where a problem is divided, it has conjuncts
division_is : (k : Setting) (p : Problem) (s : Step) (o : Option Formulas) (P : List Problem → Type 0) → There (option_and_then (λ gs. divided_into k p gs s) o) P
    → (fs : List Formula) × (o ≡ Some (formulas fs)) × There (divided_into k p (formulas fs) s) P
division_is k p s None P h = absurd h
division_is k p s (Some fs) P h = there_listed (Some fs) (λ gs. There (divided_into k p gs s) P) h

mutual
  sound : (k : Setting) (t : Tree) (p : Problem) → Refutes k t p → Valid k t p
  sound k impossible p (at_once e) = e
  sound k (farkas picks) p (by_inequalities fs e h) =
      there_of p.conjuncts (formulas fs) (λ gs. of_rows.Closes (problems.rows_of gs) picks) e
      (rows_close (problems.rows_of (formulas fs)) picks (contradict_closes _ (as_lines picks) (subst (λ ls. Contradict ls (as_lines picks)) (same_rows fs) h)))
  sound k (linear picks) p (by_lines fs e h) =
      there_of p.conjuncts (formulas fs) (λ gs. of_lines.Closes (problems.lines_of gs) picks) e
      (contradict_closes _ picks (subst (λ ls. Contradict ls picks) (same_lines fs) h))
  sound k (branch s ts) p (by_division fs {ps = ps} e d each) =
      there_of (division k p s) ps (AreValid k ts) (divided k p s (formulas fs) e ∙ divides_of k p fs s ps d) (all_sound k ts ps each)

  all_sound : (k : Setting) (ts : Trees) (ps : List Problem) → RefuteEach k ts ps → AreValid k ts ps
  all_sound k no_tree [] (no_problem) = tt
  all_sound k no_tree (p ∷ ps) h = elim h [ ]
  all_sound k (with_tree t ts) [] h = elim h [ ]
  all_sound k (with_tree t ts) (p ∷ ps) (one_problem h each) = (sound k t p h, all_sound k ts ps each)

mutual
  complete : (k : Setting) (t : Tree) (p : Problem) → Valid k t p → Refutes k t p
  complete k impossible p v = at_once v
  complete k (farkas picks) p v =
      let g = there_listed p.conjuncts (λ gs. of_rows.Closes (problems.rows_of gs) picks) v in
      by_inequalities g.0 g.1 (subst (λ ls. Contradict ls (as_lines picks)) (sym (same_rows g.0)) (closes_contradict _ (as_lines picks) (lines_close (problems.rows_of (formulas g.0)) picks g.2)))
  complete k (linear picks) p v =
      let g = there_listed p.conjuncts (λ gs. of_lines.Closes (problems.lines_of gs) picks) v in
      by_lines g.0 g.1 (subst (λ ls. Contradict ls picks) (sym (same_lines g.0)) (closes_contradict _ picks g.2))
  complete k (branch s ts) p v =
      let g = division_is k p s p.conjuncts (AreValid k ts) v in
      let d = there_is (divided_into k p (formulas g.0) s) (AreValid k ts) g.2 in
      by_division g.0 g.1 (divides_is k p g.0 s d.0 d.1) (all_complete k ts d.0 d.2)

  all_complete : (k : Setting) (ts : Trees) (ps : List Problem) → AreValid k ts ps → RefuteEach k ts ps
  all_complete k no_tree [] v = no_problem
  all_complete k no_tree (p ∷ ps) v = absurd v
  all_complete k (with_tree t ts) [] v = absurd v
  all_complete k (with_tree t ts) (p ∷ ps) v = one_problem (complete k t p v.0) (all_complete k ts ps v.1)

pub certifies_is_valid : CertifiesIsValid
certifies_is_valid k given shown t = (
  λ h. sound k t (first_problem k given shown) (subst (Refutes k t) (posed_first k given shown) h),
  λ v. subst (Refutes k t) (sym (posed_first k given shown)) (complete k t (first_problem k given shown) v),
)
