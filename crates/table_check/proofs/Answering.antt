-- Trees of numbers, one after the other, each for its own problem.
use Rattle.std.proofs.Common.{◌≡◌, ◌↔◌, ℕ, List, [], ◌∷◌, map, length, refl, ap, ◌∙◌, sym, subst, suc, Option, Some, None, Bool, true, false, IsTrue, Result, IfOk, IfSome}
use Rattle.std.specs.Prelude.{is_some, not}
use Rattle.std.proofs.lemmas.List.{length-map}
use Rattle.st_certificate.specs.Tree.{Tree, Trees, impossible, trees}
use Rattle.st_form.specs.Formula.{Formula}
use Rattle.farkas_check.specs.Problem.{Setting, Problem}
use Rattle.farkas_check.specs.Valid.{AreValid, Valid}
use Rattle.shared_certificates.specs.Nodes.{tree}
use Rattle.shared_search.specs.Lists.{conjuncts_at}
use Rattle.shared_check.specs.declared.problems.Listed.{Listed}
use Rattle.shared_check.specs.Problems.{problem_of}

-- the trees of numbers
abbrev pub numbered : List Tree → List ℕ → Trees
numbered ts ns = trees (map (tree ts) ns)

valid-lengths : (k : Setting) (ts : List Tree) (ps : List Problem) → AreValid k (trees ts) ps → length ts ≡ length ps
valid-lengths k [] [] v = refl
valid-lengths k [] (p ∷ ps) v = absurd v
valid-lengths k (t ∷ ts) [] v = absurd v
valid-lengths k (t ∷ ts) (p ∷ ps) v = ap suc (valid-lengths k ts ps v.1)

-- there are as many trees as problems
pub equal-lengths : (k : Setting) (us : List Formula) (ts : List Tree) (ns : List ℕ) (ps : List Listed) → AreValid k (numbered ts ns) (map (problem_of us) ps) → length ns ≡ length ps
equal-lengths k us ts ns ps v = sym (length-map ns (tree ts)) ∙ valid-lengths k (map (tree ts) ns) (map (problem_of us) ps) v ∙ length-map ps (problem_of us)

-- an answer for a tree is one for another that is the same
pub answered-tree : {E : Type 0} (k : Setting) (p : Problem) (t u : Tree) (r : Result (Option Bool) E) → t ≡ u → IfOk r (λ o. IfSome o (λ yes. IsTrue yes ↔ Valid k t p)) → IfOk r (λ o. IfSome o (λ yes. IsTrue yes ↔ Valid k u p))
answered-tree k p t u r e h = subst (λ (x : Tree). IfOk r (λ o. IfSome o (λ yes. IsTrue yes ↔ Valid k x p))) e h

absent : (ts : List Formula) (o : Option ℕ) (r : Bool) → is_some o ≡ not r → (IsTrue r → conjuncts_at ts o ≡ None) × (conjuncts_at ts o ≡ None → IsTrue r)
absent ts None true e = (λ y. refl, λ h. refl)
absent ts None false e = (λ y. refl, λ h. absurd (cc))
absent ts (Some n) true e = (λ y. absurd (cc), λ h. refl)
absent ts (Some n) false e = (λ y. absurd (cc), λ h. absurd (cc))

-- where there is no tree, the problem has to be false
pub answered-none : (k : Setting) (ts : List Formula) (p : Listed) (t : Tree) (r : Bool) → t ≡ impossible → is_some p.list ≡ not r → (IsTrue r → Valid k t (problem_of ts p)) × (Valid k t (problem_of ts p) → IsTrue r)
answered-none k ts p t r e is = subst (λ (x : Tree). (IsTrue r → Valid k x (problem_of ts p)) × (Valid k x (problem_of ts p) → IsTrue r)) (sym e) (absent ts p.list r is)
