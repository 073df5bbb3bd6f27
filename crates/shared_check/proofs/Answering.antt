-- Certificates, one after the other, each for its own problem.
use Rattle.std.proofs.Common.{◌≡◌, ◌↔◌, ℕ, ◌+◌, ◌<◌, ◌≤◌, List, [], ◌∷◌, map, length, replicate, drop, get_or, refl, ap, ◌∙◌, sym, subst, suc, Option, Some, None, Vec, Bool, IsTrue}
use Rattle.std.specs.Global.{Global}
use Rattle.std.proofs.lemmas.List.{drop_more, drop_all, length-map}
use Rattle.st_certificate.specs.Tree.{Tree, with_tree, trees}
use Rattle.st_certificate.specs.Plain.{plain, plain_trees}
use Rattle.st_certificate.specs.declared.Certificate.{Certificate}
use Rattle.st_form.specs.Formula.{Formula}
use Rattle.st_form.specs.Simple.{nothing}
use Rattle.farkas_check.specs.Problem.{Setting, Problem, first_problem}
use Rattle.farkas_check.specs.Limits.{IsLimited, AreLimited, IsNarrow}
use Rattle.farkas_check.specs.Valid.{AreValid, There, Valid}
use Rattle.shared_check.specs.declared.problems.Listed.{Listed}
use Rattle.shared_check.specs.declared.problems.Division.TheVariants.{Into}
use Rattle.farkas_check.proofs.Bounds.{fit-first}
use Rattle.form_table.specs.Lists.{IsListed, first_conjuncts}
use Rattle.sharing_laws.proofs.Starting.{first-fresh}
use Rattle.shared_search.specs.Lists.{IfList, conjuncts_at}
use Rattle.shared_search.proofs.Listing.{handed-list, handed-same}
use Rattle.shared_check.specs.Problems.{IsDivision, IsReady, problem_of}
use Rattle.shared_check.proofs.Keeping.{problem-same, ready-by}

next-tree : (ts : List Certificate) (i : ℕ) (t : Certificate) → i < length ts → t ≡ get_or ts i t → plain_trees (drop i ts) ≡ with_tree (plain t) (plain_trees (drop (i + 1) ts))
next-tree ts i t h e = ap plain_trees (drop_more ts i t h) ∙ ap (λ u. with_tree (plain u) (plain_trees (drop (i + 1) ts))) (sym e)

next-problem : (us : List Formula) (ps : List Listed) (i : ℕ) (p : Listed) → i < length ps → p ≡ get_or ps i p → map (problem_of us) (drop i ps) ≡ problem_of us p ∷ map (problem_of us) (drop (i + 1) ps)
next-problem us ps i p h e = ap (map (problem_of us)) (drop_more ps i p h) ∙ ap (λ q. problem_of us q ∷ map (problem_of us) (drop (i + 1) ps)) (sym e)

pub next-limited : (ts : List Certificate) (i : ℕ) (t : Certificate) → i < length ts → t ≡ get_or ts i t → AreLimited (plain_trees (drop i ts)) → IsLimited (plain t) × AreLimited (plain_trees (drop (i + 1) ts))
next-limited ts i t h e l = subst AreLimited (next-tree ts i t h e) l

next-both : (k : Setting) (us : List Formula) (ts : List Certificate) (ps : List Listed) (i : ℕ) (t : Certificate) (p : Listed) (W : Type 0) → i < length ts → i < length ps → t ≡ get_or ts i t → p ≡ get_or ps i p
    → (AreValid k (plain_trees (drop i ts)) (map (problem_of us) (drop i ps)) ↔ W) → ((Valid k (plain t) (problem_of us p) × AreValid k (plain_trees (drop (i + 1) ts)) (map (problem_of us) (drop (i + 1) ps))) ↔ W)
next-both k us ts ps i t p W h g e f s = rw (next-tree ts i t h e, next-problem us ps i p g f) at s

-- one is valid: on to the next
pub valid-next : (k : Setting) (us vs : List Formula) (ts : List Certificate) (ps : List Listed) (i : ℕ) (t : Certificate) (p : Listed) (W : Type 0) → i < length ts → i < length ps → t ≡ get_or ts i t → p ≡ get_or ps i p
    → problem_of vs p ≡ problem_of us p → Valid k (plain t) (problem_of vs p) → (AreValid k (plain_trees (drop i ts)) (map (problem_of us) (drop i ps)) ↔ W)
    → (AreValid k (plain_trees (drop (i + 1) ts)) (map (problem_of us) (drop (i + 1) ps)) ↔ W)
valid-next k us vs ts ps i t p W h g e f same v s =
    let b = next-both k us ts ps i t p W h g e f s in
    let here : Valid k (plain t) (problem_of us p) = subst (λ (x : Problem). Valid k (plain t) x) same v in
    (λ r. b.0 (here, r), λ w. (b.1 w).1)

-- one is not valid
pub valid-ends : (k : Setting) (us vs : List Formula) (ts : List Certificate) (ps : List Listed) (i : ℕ) (t : Certificate) (p : Listed) (W : Type 0) → i < length ts → i < length ps → t ≡ get_or ts i t → p ≡ get_or ps i p
    → problem_of vs p ≡ problem_of us p → (Valid k (plain t) (problem_of vs p) → ⊥) → (AreValid k (plain_trees (drop i ts)) (map (problem_of us) (drop i ps)) ↔ W) → W → ⊥
valid-ends k us vs ts ps i t p W h g e f same v s w =
    let b = next-both k us ts ps i t p W h g e f s in
    v (subst (λ (x : Problem). Valid k (plain t) x) (sym same) (b.1 w).0)

-- none is left
pub valid-whole : (k : Setting) (us : List Formula) (ts : List Certificate) (ps : List Listed) (i : ℕ) (W : Type 0) → length ts ≤ i → length ps ≤ i → (AreValid k (plain_trees (drop i ts)) (map (problem_of us) (drop i ps)) ↔ W) → W
valid-whole k us ts ps i W h g s = let b = rw (drop_all i ts h, drop_all i ps g) at s in b.0 tt

valid-lengths : (k : Setting) (ts : List Tree) (ps : List Problem) → AreValid k (trees ts) ps → length ts ≡ length ps
valid-lengths k [] [] v = refl
valid-lengths k [] (p ∷ ps) v = absurd v
valid-lengths k (t ∷ ts) [] v = absurd v
valid-lengths k (t ∷ ts) (p ∷ ps) v = ap suc (valid-lengths k ts ps v.1)

-- there are as many certificates as problems
pub equal-lengths : (k : Setting) (us : List Formula) (ts : List Certificate) (ps : List Listed) → AreValid k (plain_trees ts) (map (problem_of us) ps) → length ts ≡ length ps
equal-lengths k us ts ps v = sym (length-map ts plain) ∙ valid-lengths k (map plain ts) (map (problem_of us) ps) v ∙ length-map ps (problem_of us)

-- an answer for the problems is one for the division
pub answered : (k : Setting) (us : List Formula) (ts : List Certificate) (ps : Vec Listed Global) (o : Option (List Problem)) (r : Bool) → IsDivision k us (Into ps) o
    → (IsTrue r ↔ AreValid k (plain_trees ts) (map (problem_of us) ps.items)) → (IsTrue r ↔ There o (AreValid k (plain_trees ts)))
answered k us ts ps None r d h = absurd d
answered k us ts ps (Some qs) r d h = subst (λ (x : List Problem). IsTrue r ↔ AreValid k (plain_trees ts) x) d.same h

-- the problem of a condition
pub first-same : (k : Setting) (ts : List Formula) (given shown : Formula) (p : Listed) (list : Option ℕ) → IsListed ts list (first_conjuncts given shown)
    → p.cases.items ≡ replicate (length k.control.components) None → p.truths.items ≡ replicate (length k.variables) None → p.list ≡ list → problem_of ts p ≡ first_problem k given shown
first-same k ts given shown p list made cases truths is = problem-same ts p (first_problem k given shown) cases truths (ap (conjuncts_at ts) is ∙ handed-same ts list (first_conjuncts given shown) made)

pub first-ready : (k : Setting) (ts : List Formula) (given shown : Formula) (p : Listed) (list : Option ℕ) → IsNarrow given → IsNarrow shown → IsListed ts list (first_conjuncts given shown)
    → p.list ≡ list → problem_of ts p ≡ first_problem k given shown → IsReady k ts p
first-ready k ts given shown p list g s made is same =
    ready-by k ts p (first_problem k given shown) (subst (IfList ts) (sym is) (handed-list ts list (first_conjuncts given shown) made)) same (first-fresh k given shown) (fit-first nothing given shown g s)
