use Rattle.std.proofs.Common.{◌≡◌, ◌↔◌, ℕ, ◌+◌, ◌<◌, ◌≤◌, List, [], ◌∷◌, map, length, drop, get_or, refl, ap, ◌∙◌, sym, suc}
use Rattle.std.proofs.lemmas.List.{drop_more, length-map}
use Rattle.std.proofs.Math.ListN.{drop_of_length-le}
use Rattle.st_certificate.specs.Tree.{Tree, with_tree, trees}
use Rattle.st_form.specs.Formula.{Formulas}
use Rattle.st_form.specs.Plain.{plain_list}
use Rattle.st_form.specs.declared.Form.{Form}
use Rattle.control_states.specs.Control.{ControlFacts}
use Rattle.control_states.specs.declared.alternative.Alternative.{Alternative}
use Rattle.farkas_check.specs.Problem.{Setting, Problem, case_problems, split_problems, in_place}
use Rattle.st_certificate.specs.Plain.{plain, plain_trees}
use Rattle.farkas_check.specs.PlainProblem.{plain_posed}
use Rattle.farkas_check.specs.Limits.{IsLimited, AreLimited, AreFit, AllFit}
use Rattle.farkas_check.specs.Valid.{Valid, AreValid}
use Rattle.st_certificate.specs.declared.Certificate.{Certificate}
use Rattle.farkas_check.specs.declared.problems.Posed.{Posed}

trees-more : (ts : List Certificate) (i : ℕ) (t : Certificate) → i < length ts → t ≡ get_or ts i t → plain_trees (drop i ts) ≡ with_tree (plain t) (plain_trees (drop (i + 1) ts))
trees-more ts i t h e = ap plain_trees (drop_more ts i t h) ∙ ap (λ u. with_tree (plain u) (plain_trees (drop (i + 1) ts))) (sym e)

problems-more : (ps : List Posed) (i : ℕ) (p : Posed) → i < length ps → p ≡ get_or ps i p → map plain_posed (drop i ps) ≡ plain_posed p ∷ map plain_posed (drop (i + 1) ps)
problems-more ps i p h e = ap (map plain_posed) (drop_more ps i p h) ∙ ap (λ q. plain_posed q ∷ map plain_posed (drop (i + 1) ps)) (sym e)

pub limited-more : (ts : List Certificate) (i : ℕ) (t : Certificate) → i < length ts → t ≡ get_or ts i t → AreLimited (plain_trees (drop i ts)) → IsLimited (plain t) × AreLimited (plain_trees (drop (i + 1) ts))
limited-more ts i t h e l = rw (trees-more ts i t h e) at l

pub fit-more : (ps : List Posed) (i : ℕ) (p : Posed) → i < length ps → p ≡ get_or ps i p → AllFit (map plain_posed (drop i ps)) → AreFit (plain_posed p).conjuncts × AllFit (map plain_posed (drop (i + 1) ps))
fit-more ps i p h e l = rw (problems-more ps i p h e) at l

same-more : (k : Setting) (ts : List Certificate) (ps : List Posed) (i : ℕ) (t : Certificate) (p : Posed) (W : Type 0) → i < length ts → i < length ps → t ≡ get_or ts i t → p ≡ get_or ps i p
    → (AreValid k (plain_trees (drop i ts)) (map plain_posed (drop i ps)) ↔ W) → ((Valid k (plain t) (plain_posed p) × AreValid k (plain_trees (drop (i + 1) ts)) (map plain_posed (drop (i + 1) ps))) ↔ W)
same-more k ts ps i t p W h g e f s = rw (trees-more ts i t h e, problems-more ps i p g f) at s

-- one is valid: on to the next
pub valid-more : (k : Setting) (ts : List Certificate) (ps : List Posed) (i : ℕ) (t : Certificate) (p : Posed) (W : Type 0) → i < length ts → i < length ps → t ≡ get_or ts i t → p ≡ get_or ps i p → Valid k (plain t) (plain_posed p)
    → (AreValid k (plain_trees (drop i ts)) (map plain_posed (drop i ps)) ↔ W) → (AreValid k (plain_trees (drop (i + 1) ts)) (map plain_posed (drop (i + 1) ps)) ↔ W)
valid-more k ts ps i t p W h g e f v s = let b = same-more k ts ps i t p W h g e f s in (λ r. b.0 (v, r), λ w. (b.1 w).1)

-- one is not valid
pub valid-stops : (k : Setting) (ts : List Certificate) (ps : List Posed) (i : ℕ) (t : Certificate) (p : Posed) (W : Type 0) → i < length ts → i < length ps → t ≡ get_or ts i t → p ≡ get_or ps i p → (Valid k (plain t) (plain_posed p) → ⊥)
    → (AreValid k (plain_trees (drop i ts)) (map plain_posed (drop i ps)) ↔ W) → W → ⊥
valid-stops k ts ps i t p W h g e f v s w = let b = same-more k ts ps i t p W h g e f s in v (b.1 w).0

-- none is left
pub valid-all : (k : Setting) (ts : List Certificate) (ps : List Posed) (i : ℕ) (W : Type 0) → length ts ≤ i → length ps ≤ i → (AreValid k (plain_trees (drop i ts)) (map plain_posed (drop i ps)) ↔ W) → W
valid-all k ts ps i W h g s = let b = rw (drop_of_length-le ts h, drop_of_length-le ps g) at s in b.0 tt

valid_lengths : (k : Setting) (ts : List Tree) (ps : List Problem) → AreValid k (trees ts) ps → length ts ≡ length ps
valid_lengths k [] [] v = refl
valid_lengths k [] (p ∷ ps) v = absurd v
valid_lengths k (t ∷ ts) [] v = absurd v
valid_lengths k (t ∷ ts) (p ∷ ps) v = ap suc (valid_lengths k ts ps v.1)

-- there are as many certificates as problems
pub same_lengths : (k : Setting) (ts : List Certificate) (ps : List Posed) → AreValid k (plain_trees ts) (map plain_posed ps) → length ts ≡ length ps
same_lengths k ts ps v = sym (length-map ts plain) ∙ valid_lengths k (map plain ts) (map plain_posed ps) v ∙ length-map ps plain_posed

case_lengths : (k : ControlFacts) (p : Problem) (fs : Formulas) (c : ℕ) (choices : List Alternative) → length (case_problems k p fs c choices) ≡ length choices
case_lengths k p fs c [] = refl
case_lengths k p fs c (a ∷ rest) = ap suc (case_lengths k p fs c rest)

pub same_cases : (k : Setting) (ts : List Certificate) (q : ControlFacts) (p : Problem) (fs : Formulas) (c : ℕ) (choices : List Alternative) → AreValid k (plain_trees ts) (case_problems q p fs c choices) → length ts ≡ length choices
same_cases k ts q p fs c choices v = sym (length-map ts plain) ∙ valid_lengths k (map plain ts) (case_problems q p fs c choices) v ∙ case_lengths q p fs c choices

split_lengths : (p : Problem) (before behind : Formulas) (ds : List Form) → length (split_problems p (in_place before (plain_list ds) behind)) ≡ length ds
split_lengths p before behind [] = refl
split_lengths p before behind (d ∷ ds) = ap suc (split_lengths p before behind ds)

pub same_disjuncts : (k : Setting) (ts : List Certificate) (p : Problem) (before behind : Formulas) (ds : List Form) → AreValid k (plain_trees ts) (split_problems p (in_place before (plain_list ds) behind)) → length ts ≡ length ds
same_disjuncts k ts p before behind ds v = sym (length-map ts plain) ∙ valid_lengths k (map plain ts) (split_problems p (in_place before (plain_list ds) behind)) v ∙ split_lengths p before behind ds
