-- The problem of a condition is fresh, and so is each problem whose conjuncts are simplified under its decisions.
use Rattle.std.proofs.Common.{◌≡◌, ℕ, List, length, replicate, Bool, true, Option, None}
use Rattle.std.specs.Prelude.{slice_index_or}
use Rattle.std.proofs.lemmas.List.{length-replicate}
use Rattle.st_form.specs.Formula.{Formula, Formulas}
use Rattle.st_form.specs.Simple.{Decided, simples}
use Rattle.control_states.specs.declared.alternative.Alternative.{Alternative}
use Rattle.control_states.specs.Control.{ControlFacts}
use Rattle.control_states.specs.Place.{place}
use Rattle.farkas_check.specs.Problem.{Setting, Problem, decided_by, posed, first_problem}
use Rattle.search_laws.specs.Ends.{IfLiterals}
use Rattle.search_laws.proofs.Literals.{Undecided, all-weaker, gathered-literals, simples-literals}
use Rattle.sharing_laws.specs.Fresh.{IsFreePlace, IsFreeTruth, IsFresh}
use Rattle.sharing_laws.proofs.Agreeing.{any-literals-of, any-literals-if}
use Rattle.sharing_laws.proofs.Placing.{empty-at, place-nothing}

abbrev Any : ℕ → Type 0
Any i = Unit {0}

pub posed-fresh : (k : Setting) (cases : List (Option Alternative)) (truths : List (Option Bool)) (fs : Formulas) → length cases ≡ length k.control.components → length truths ≡ length k.variables
    → IsFresh k (posed k.control cases truths fs)
posed-fresh k cases truths fs c t =
    let d : Decided = decided_by k.control cases truths in
    let left = simples-literals Any Any d fs true (any-literals-of Any Any (λ l. tt) (λ v. tt) fs) in
    record {
      cases = c;
      truths = t;
      free = gathered-literals (IsFreePlace k.control cases) (IsFreeTruth truths) true (simples d fs true)
          (all-weaker (Undecided Any d.places) (IsFreePlace k.control cases) (Undecided Any d.truths) (IsFreeTruth truths) (λ l h. h.1) (λ v h. h.1) (simples d fs true) left);
    }

pub first-fresh : (k : Setting) (given shown : Formula) → IsFresh k (first_problem k given shown)
first-fresh k given shown =
    let n : ℕ = length k.control.components in
    let m : ℕ = length k.variables in
    record {
      cases = length-replicate n None;
      truths = length-replicate m None;
      free = any-literals-if (IsFreePlace k.control (replicate n None)) (IsFreeTruth (replicate m None)) (λ l. place-nothing k.control (replicate n None) (λ c. empty-at Alternative n c) l) (λ v. empty-at Bool m v) (first_problem k given shown).conjuncts;
    }
