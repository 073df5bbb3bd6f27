-- The problems that a decision divides a problem into are as the lists that the decision alone divides its conjuncts into.
use Rattle.std.proofs.Common.{◌≡◌, ℕ, ◌<◌, Bool, true, false, List, [], ◌∷◌, length, refl, ap, ◌∙◌, sym, Option, Some, None, arith}
use Rattle.std.specs.Prelude.{if◌then◌else◌, slice_get, slice_index_or, slice_set}
use Rattle.std.proofs.lemmas.Bool.{and_from}
use Rattle.std.proofs.lemmas.List.{length-set}
use Rattle.std.proofs.lemmas.Option.{slice_get_within}
use Rattle.st_form.specs.Formula.{Formulas}
use Rattle.st_form.specs.Simple.{gathered}
use Rattle.st_form.specs.declared.variables.Variable.{Variable}
use Rattle.control_states.specs.declared.alternative.Alternative.{Alternative}
use Rattle.control_states.specs.Place.{place}
use Rattle.farkas_check.specs.Problem.{Setting, Problem, decided_by, is_free, has_truth, may_truth, case_problems, truth_problem}
use Rattle.search_laws.specs.Ends.{AllLiteralsOf}
use Rattle.search_laws.proofs.Literals.{all-weaker}
use Rattle.sharing_laws.specs.Lists.{by_case_alone, by_truth_alone, under}
use Rattle.sharing_laws.specs.Contexts.{has_inside, InContext, in_context, case_lists_in}
use Rattle.sharing_laws.proofs.Following.{AreLike}
use Rattle.sharing_laws.proofs.Agreeing.{AreSame, same-simples}
use Rattle.sharing_laws.proofs.Placing.{same-entry, same-case, place-nothing}
use Rattle.sharing_laws.proofs.Choosing.{Keeps, kept-more, length-more, free-entry}
use Rattle.sharing_laws.specs.Fresh.{IsFreePlace, IsFreeTruth, IsFresh}
use Rattle.sharing_laws.proofs.Starting.{posed-fresh}

-- a fresh problem, its conjuncts and its context
pub record IsSeen (k : Setting) (p : Problem) (x : InContext) : Type 0 where
  pub fresh : IsFresh k p
  pub conjuncts : p.conjuncts ≡ x.conjuncts
  pub entries : length x.context ≡ length k.control.components
  pub kept : Keeps k.control x.context p.cases

abbrev pub AreFree : Setting → Problem → Formulas → Type 0
AreFree k p fs = AllLiteralsOf (IsFreePlace k.control p.cases) (IsFreeTruth p.truths) fs

pub cases-like : (k : Setting) (p : Problem) (context : List (Option Alternative)) (fs : Formulas) (c : ℕ) → IsFresh k p → length context ≡ length k.control.components → Keeps k.control context p.cases → AreFree k p fs → c < length k.control.components
    → (choices : List Alternative) → AreLike (IsSeen k) (case_problems k.control p fs c choices) (case_lists_in k.control context fs c choices)
cases-like k p context fs c g e keeps h l [] = tt
cases-like k p context fs c g e keeps h l (a ∷ rest) =
    let cases : List (Option Alternative) = slice_set p.cases c (Some a) in
    let agree = all-weaker (IsFreePlace k.control p.cases) (AreSame (place k.control cases) (by_case_alone k.control c a).places) (IsFreeTruth p.truths) (AreSame (λ v. slice_index_or p.truths v None) (by_case_alone k.control c a).truths)
    (λ i free. same-case k.control p.cases c a i g.cases l free) (λ v free. free) fs h in (
      record {
        fresh = posed-fresh k cases p.truths fs (length-set p.cases c (Some a) ∙ g.cases) g.truths;
        conjuncts = ap (gathered true) (same-simples (decided_by k.control cases p.truths) (by_case_alone k.control c a) fs true agree);
        entries = length-more context c a (has_inside k.control c) ∙ e;
        kept = λ i. kept-more context p.cases (length k.control.components) c i a (has_inside k.control i) (has_inside k.control c) (λ s. ap (has_inside k.control) s) e g.cases l (keeps i);
      },
      cases-like k p context fs c g e keeps h l rest,
    )

pub truth-like : (k : Setting) (p : Problem) (context : List (Option Alternative)) (fs : Formulas) (v : ℕ) (b : Bool) → IsFresh k p → length context ≡ length k.control.components → Keeps k.control context p.cases → AreFree k p fs → v < length k.variables
    → IsSeen k (truth_problem k.control p fs v b) (in_context context (under (by_truth_alone k v b) fs))
truth-like k p context fs v b g e keeps h l =
    let truths : List (Option Bool) = slice_set p.truths v (Some b) in
    let agree = all-weaker (IsFreePlace k.control p.cases) (AreSame (place k.control p.cases) (by_truth_alone k v b).places) (IsFreeTruth p.truths) (AreSame (λ v. slice_index_or truths v None) (by_truth_alone k v b).truths)
    (λ i free. free ∙ sym (place-nothing k.control [] (λ c. refl) i)) (λ i free. same-entry p.truths (length k.variables) v i b g.truths l free) fs h in
    record {
      fresh = posed-fresh k p.cases truths fs g.cases (length-set p.truths v (Some b) ∙ g.truths);
      conjuncts = ap (gathered true) (same-simples (decided_by k.control p.cases truths) (by_truth_alone k v b) fs true agree);
      entries = e;
      kept = keeps;
    }

pub has-within : (vs : List Variable) (v : ℕ) → has_truth (slice_get vs v) ≡ true → v < length vs
has-within vs v h = by_entry (slice_get vs v) refl h
  where
    by_entry : (o : Option Variable) → slice_get vs v ≡ o → has_truth o ≡ true → v < length vs
    by_entry None e t = absurd (cc)
    by_entry (Some x) e t = slice_get_within vs v x e

-- an undecided boolean variable may be decided
pub free-may : (k : Setting) (p : Problem) (v : ℕ) → IsFresh k p → has_truth (slice_get k.variables v) ≡ true → IsFreeTruth p.truths v → may_truth k.variables p.truths v ≡ true
free-may k p v g t free =
    let l = has-within k.variables v t in
    let there : v < length p.truths = omega (arith, l, g.truths) in
    and_from (has_truth (slice_get k.variables v)) (is_free (slice_get p.truths v)) t (free-entry p.truths v there free)
