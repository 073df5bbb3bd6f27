-- Each problem of a division, by its number.
use Rattle.std.proofs.Common.{◌≡◌, ℕ, ◌+◌, take, drop, ◌<◌, List, [], ◌∷◌, map, length, get_or, refl, ap, ◌∙◌, sym, Some}
use Rattle.std.specs.Prelude.{slice_get, slice_set}
use Rattle.std.specs.Option.{option_map}
use Rattle.std.proofs.lemmas.List.{length-map}
use Rattle.linear_prover.specs.declared.divisions.Division.{Division}
use Rattle.linear_prover.specs.declared.divisions.Division.TheVariants.{Cases, Truths, Disjuncts}
use Rattle.linear_prover.specs.Divisions.{size, children}
use Rattle.std.proofs.lemmas.Option.{slice_get-map, slice_get-get_or, slice_get_read}
use Rattle.control_states.specs.declared.alternative.Alternative.{Alternative}
use Rattle.control_states.specs.Control.{ControlFacts}
use Rattle.st_form.specs.Formula.{Formulas}
use Rattle.st_form.specs.Simple.{append, opened}
use Rattle.st_form.specs.Plain.{plain, plain_list}
use Rattle.st_form.specs.declared.formulas.Form.{Form}
use Rattle.linear_prover.specs.declared.problems.Conjunct.{Conjunct}
use Rattle.linear_prover.specs.Plain.{plain_each}
use Rattle.farkas_check.specs.Problem.{Problem, posed, case_problems, with_conjuncts, split_problems, in_place}

cases-mapped : (k : ControlFacts) (p : Problem) (fs : Formulas) (c : ℕ) (choices : List Alternative) → case_problems k p fs c choices ≡ map (λ a. posed k (slice_set p.cases c (Some a)) p.truths fs) choices
cases-mapped k p fs c [] = refl
cases-mapped k p fs c (a ∷ rest) = ap (λ l. posed k (slice_set p.cases c (Some a)) p.truths fs ∷ l) (cases-mapped k p fs c rest)

pub case-there : (k : ControlFacts) (p : Problem) (fs : Formulas) (c : ℕ) (choices : List Alternative) (i : ℕ) (a : Alternative) (q : Problem) → i < length choices → q ≡ posed k (slice_set p.cases c (Some (get_or choices i a))) p.truths fs
    → slice_get (case_problems k p fs c choices) i ≡ Some q
case-there k p fs c choices i d q h e =
    ap (λ l. slice_get l i) (cases-mapped k p fs c choices) ∙ slice_get-map (λ a. posed k (slice_set p.cases c (Some a)) p.truths fs) choices i
    ∙ ap (option_map (λ a. posed k (slice_set p.cases c (Some a)) p.truths fs)) (slice_get-get_or choices i d h) ∙ ap (λ x. Some x) (sym e)

disjuncts-mapped : (p : Problem) (before behind : Formulas) (gs : List Form) → split_problems p (in_place before (plain_list gs) behind) ≡ map (λ g. with_conjuncts p (Some (append before (append (opened (plain g)) behind)))) gs
disjuncts-mapped p before behind [] = refl
disjuncts-mapped p before behind (g ∷ gs) = ap (λ l. with_conjuncts p (Some (append before (append (opened (plain g)) behind))) ∷ l) (disjuncts-mapped p before behind gs)

pub disjunct-there : (p : Problem) (before behind : Formulas) (gs : List Form) (i : ℕ) (g : Form) (q : Problem) → i < length gs → g ≡ get_or gs i g → q ≡ with_conjuncts p (Some (append before (append (opened (plain g)) behind)))
    → slice_get (split_problems p (in_place before (plain_list gs) behind)) i ≡ Some q
disjunct-there p before behind gs i g q h a e =
    ap (λ l. slice_get l i) (disjuncts-mapped p before behind gs) ∙ slice_get-map (λ g. with_conjuncts p (Some (append before (append (opened (plain g)) behind)))) gs i
    ∙ ap (option_map (λ g. with_conjuncts p (Some (append before (append (opened (plain g)) behind))))) (slice_get_read gs (length gs) i g refl h a) ∙ ap (λ x. Some x) (sym e)

-- a division has as many problems as its size says
pub children-size : (k : ControlFacts) (p : Problem) (fs : List Conjunct) (d : Division) → length (children k p fs d) ≡ size d
children-size k p fs (Cases c choices) = ap length (cases-mapped k p (plain_each fs) c choices.now) ∙ length-map choices.now (λ a. posed k (slice_set p.cases c (Some a)) p.truths (plain_each fs))
children-size k p fs (Truths v) = refl
children-size k p fs (Disjuncts place parts) =
    ap length (disjuncts-mapped p (plain_each (take place fs)) (plain_each (drop (place + 1) fs)) parts.now)
    ∙ length-map parts.now (λ g. with_conjuncts p (Some (append (plain_each (take place fs)) (append (opened (plain g)) (plain_each (drop (place + 1) fs))))))
