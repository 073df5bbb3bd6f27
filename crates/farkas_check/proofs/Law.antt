use Rattle.std.proofs.Common.{◌≡◌, ℕ, Bool, true, false, List, [], ◌∷◌, length, replicate, refl, ◌∙◌, Option, Some, None, inl, inr, arith}
use Rattle.std.specs.Prelude.{slice_index_or}
use Rattle.std.proofs.lemmas.List.{get_or-replicate, length-replicate}
use Rattle.std.proofs.Math.ListN.{get_or-eq_default}
use Rattle.std.proofs.lemmas.Bool.{cases_lt}
use Rattle.st_linear.proofs.Replacing.{bind-some}
use Rattle.st_form.specs.Formula.{Formula, Formulas, every, negation, none, more, Situation, truth, every_truth}
use Rattle.st_form.specs.Simple.{nothing, simple, parts}
use Rattle.st_form.proofs.SimpleTruths.{truth-simple, part_truth, said, agrees-nothing}
use Rattle.control_states.specs.declared.alternative.Alternative.{Alternative}
use Rattle.control_states.specs.Control.{InControl}
use Rattle.farkas_leaf.proofs.Laws.{rows_no_solution, lines_no_solution}
use Rattle.st_certificate.specs.Tree.{Tree, Trees, impossible, branch, farkas, linear, no_tree, with_tree}
use Rattle.farkas_check.specs.Problem.{Setting, Problem, division, divided_into, rows_of, lines_of, first_problem}
use Rattle.farkas_check.specs.Valid.{There, Valid, AreValid, IsCertificate}
use Rattle.farkas_check.specs.Meaning.{hold, Meets, MeetsOne, IsValidCondition}
use Rattle.farkas_check.proofs.Dividing.{covers, rows-met, lines-hold}

There-some : {A : Type 0} (o : Option A) (P : A → Type 0) → There o P → (x : A) × (o ≡ Some x) × P x
There-some None P h = absurd h
There-some (Some x) P h = (x, refl, h)

conjuncts-hold : (s : Situation) (o : Option Formulas) (fs : Formulas) → o ≡ Some fs → hold s o ≡ true → every_truth s fs ≡ true
conjuncts-hold s o fs e h = rw e at h

mutual
  -- a problem with a valid certificate is met nowhere
  pub no_state : (k : Setting) (t : Tree) (p : Problem) → Valid k t p → (m : ℕ → Alternative) (s : Situation) → Meets k.control m s p → ⊥
  no_state k impossible p v m s g = let h = rw v at g.conjuncts in absurd (cc)
  no_state k (branch st ts) p v m s g =
      let b = There-some (division k p st) (AreValid k ts) v in
      let a = bind-some (λ fs. divided_into k p fs st) p.conjuncts b.0 b.1 in
      none_met k ts b.0 b.2 m s (covers k m s p a.0 st b.0 g (conjuncts-hold s p.conjuncts a.0 a.1 g.conjuncts) a.2)
  no_state k (farkas picks) p v m s g =
      let a = There-some p.conjuncts _ v in
      rows_no_solution (rows_of a.0) picks a.2 s.numbers (rows-met s a.0 (conjuncts-hold s p.conjuncts a.0 a.1 g.conjuncts))
  no_state k (linear picks) p v m s g =
      let a = There-some p.conjuncts _ v in
      lines_no_solution (lines_of a.0) picks a.2 s.numbers (lines-hold s a.0 (conjuncts-hold s p.conjuncts a.0 a.1 g.conjuncts))

  pub none_met : (k : Setting) (ts : Trees) (ps : List Problem) → AreValid k ts ps → (m : ℕ → Alternative) (s : Situation) → MeetsOne k.control m s ps → ⊥
  none_met k no_tree [] v m s g = absurd g
  none_met k no_tree (p ∷ ps) v m s g = absurd v
  none_met k (with_tree t ts) [] v m s g = absurd v
  none_met k (with_tree t ts) (p ∷ ps) v m s (inl g) = no_state k t p v.0 m s g
  none_met k (with_tree t ts) (p ∷ ps) v m s (inr g) = none_met k ts ps v.1 m s g

listed_none : {A : Type 0} (n v : ℕ) (o : Option A) → o ≡ None → slice_index_or (replicate n o) v o ≡ None
listed_none n v o h = elim (cases_lt v n) [
  | inl lt ↦ get_or-replicate n v o o lt ∙ h
  | inr ge ↦ get_or-eq_default (replicate n o) o (omega (arith, ge, length-replicate n o)) ∙ h
]

nothing_listed : {A : Type 0} (n v : ℕ) (a : A) → slice_index_or (replicate n None) v None ≡ Some a → ⊥
nothing_listed {A} n v a h = let e = listed_none {A = A} n v None refl in absurd (cc)

first-meets : (k : Setting) (given shown : Formula) (m : ℕ → Alternative) (s : Situation) → InControl k.control m s.located → truth s given ≡ true → truth s shown ≡ false → Meets k.control m s (first_problem k given shown)
first-meets k given shown m s i g h =
    let whole : Formula = every (more given (more (negation shown) none)) in
    let holds : truth s whole ≡ true = rw (g, h) refl in
    record {
      control = i;
      cases = λ c a e. absurd (nothing_listed (length k.control.components) c a e);
      truths = λ v b e. absurd (nothing_listed (length k.variables) v b e);
      conjuncts = hold-said (parts true (simple nothing whole true)) ∙ part_truth true s (simple nothing whole true) ∙ truth-simple nothing whole true s (agrees-nothing s) ∙ holds;
    }
  where
    hold-said : (o : Option Formulas) → hold s o ≡ said true s o
    hold-said None = refl
    hold-said (Some fs) = refl

-- a condition with a certificate holds in every control state, with every store
pub certified : (k : Setting) (given shown : Formula) (t : Tree) → IsCertificate k given shown t → IsValidCondition k.control given shown
certified k given shown t v m s i g = by_value (truth s shown) refl
  where
    by_value : (b : Bool) → truth s shown ≡ b → b ≡ true
    by_value true e = refl
    by_value false e = absurd (no_state k t (first_problem k given shown) v m s (first-meets k given shown m s i g e))
