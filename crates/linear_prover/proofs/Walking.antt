-- The walk of the code is that of the definition.
use Rattle.std.proofs.Common.{◌≡◌, ℕ, zero, suc, ◌+◌, ◌-◌, ◌<◌, ◌≤◌, true, List, [], refl, ap, ◌∙◌, sym, subst, Some, arith}
use Rattle.std.specs.Prelude.{nat_lt, if◌then◌else◌}
use Rattle.std.proofs.lemmas.Bool.Decides.{nat_tests}
use Rattle.st_form.specs.Formula.{Formulas}
use Rattle.linear_prover.specs.declared.problems.Conjunct.{Conjunct}
use Rattle.linear_prover.specs.Plain.{plain_each}
use Rattle.farkas_check.specs.Problem.{Setting, Problem}
use Rattle.elimination_laws.specs.declared.stage.WideStage.TheVariants as stage
use Rattle.search_laws.specs.Walks.{Found, found, stopped, given_up, Move, divides, walk_node, walk}
use Rattle.search_laws.specs.Moves.{first_place_of, by_place, by_conjuncts, move_of}
use Rattle.search_laws.proofs.Counting.{IsCounted, walk-counted}
use Rattle.search_laws.proofs.Finding.{is-divided}
use Rattle.linear_prover.specs.declared.divisions.Division.{Division}
use Rattle.linear_prover.specs.Divisions.{step_of, children}
use Rattle.linear_prover.specs.Ready.{AreReady, AllReady, Rises}
use Rattle.linear_prover.proofs.Readying.{division-ready}

-- a problem is looked at where a level is left and the nodes are below the limit
pub walk-here : {P : Type 0} (move : P → Move P) (levels : ℕ) (p : P) (n : ℕ) (f : Found) → (levels ≡ 0 → ⊥) → n < 100000 → f ≡ walk_node (walk move (levels - 1)) (move p) (n + 1) → f ≡ walk move levels p n
walk-here move zero p n f h l e = absurd (h refl)
walk-here move (suc d) p n f h l e =
    let less : suc d - 1 ≡ d = omega arith in
    let room : nat_lt n 100000 ≡ true = grind (arith, nat_tests) in
    e ∙ ap (λ m. walk_node (walk move m) (move p) (n + 1)) less ∙ sym (ap (λ b. if b then walk_node (walk move d) (move p) (n + 1) else stopped [] (given_up stage.Tree)) room)

rises-by : (d n : ℕ) (f : Found) → IsCounted d n f → Rises n f
rises-by d n (found t r) h = h
rises-by d n (stopped path e) h = tt

pub rises-from : {P : Type 0} (move : P → Move P) (levels : ℕ) (p : P) (n : ℕ) (f : Found) → n ≤ 100000 → f ≡ walk move levels p n → Rises n f
rises-from move levels p n f l e = rises-by levels n f (subst (IsCounted levels n) (sym e) (walk-counted move levels p n l))

-- what is done at a problem with these conjuncts
pub moved : (k : Setting) (p : Problem) (fs : Formulas) (m : Move Problem) → p.conjuncts ≡ Some fs → m ≡ by_place k p fs (first_place_of fs) → m ≡ move_of k p
moved k p fs m a e = e ∙ sym (ap (by_conjuncts k p) a)

some-same : (fs gs : Formulas) → Some fs ≡ Some gs → fs ≡ gs
some-same fs gs e = cc

pub children-ready : (n : ℕ) (k : Setting) (p : Problem) (fs : List Conjunct) (d : Division) → p.conjuncts ≡ Some (plain_each fs) → AreReady n (plain_each fs) → divides (step_of d) (children k.control p fs d) ≡ move_of k p
    → AllReady n (children k.control p fs d)
children-ready n k p fs d a r e =
    let i = is-divided k p (step_of d) (children k.control p fs d) (sym e) in
    division-ready n k p i.conjuncts (step_of d) (children k.control p fs d) i.step (subst (AreReady n) (some-same (plain_each fs) i.conjuncts (sym a ∙ i.are)) r) i.division
