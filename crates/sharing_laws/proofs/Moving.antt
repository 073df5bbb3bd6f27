-- At a fresh problem the search does what the search over lists does at its conjuncts in its context. So the search finds
-- what the search over lists in contexts finds.
use Rattle.std.proofs.Common.{◌≡◌, ℕ, Bool, true, false, List, [], ◌∷◌, length, map, refl, ap, ◌∙◌, sym, subst, Option, Some, None, arith}
use Rattle.std.specs.Prelude.{◌&&◌, nat_lt, if◌then◌else◌, slice_get, slice_index_or}
use Rattle.std.specs.Option.{option_map}
use Rattle.std.proofs.lemmas.Bool.{and_parts}
use Rattle.std.proofs.lemmas.List.{length-replicate}
use Rattle.st_form.specs.Formula.{Formula, Formulas, none}
use Rattle.control_states.specs.declared.alternative.Alternative.{Alternative}
use Rattle.control_states.specs.Control.{component_at}
use Rattle.control_states.specs.Place.{place}
use Rattle.st_certificate.specs.Tree.{Tree, by_case, by_truth}
use Rattle.farkas_check.specs.Problem.{Setting, Problem, is_free, known_active, may_case, has_truth, may_truth, case_problems, truth_problem, split_from, split_problems, lines_of, first_problem}
use Rattle.elimination_laws.specs.Stages.{Ending, through, contradiction, too_wide, ending}
use Rattle.search_laws.specs.Walks.{left_open, divides, fails}
use Rattle.search_laws.specs.Moves.{first_place_of, first_truth_of, component_for, divided, by_component, by_ending, by_disjunction, by_variable, by_place, by_conjuncts, move_of, verdict_of}
use Rattle.search_laws.specs.Ends.{IfLiterals}
use Rattle.search_laws.proofs.Literals.{places-fact, truths-fact, EachLiterals, IfEach, split-literals}
use Rattle.basic_laws.proofs.Numbers.{less}
use Rattle.sharing_laws.specs.Lists.{truth_lists}
use Rattle.sharing_laws.specs.Lists as lists
use Rattle.sharing_laws.specs.Contexts.{has_inside, InContext, in_context, case_lists_in, by_component_in, moved_in, by_place_in, by_conjuncts_in, context_move, first_context, ContextsFindTheSame}
use Rattle.sharing_laws.specs.Finds.{Finds}
use Rattle.sharing_laws.proofs.Following.{AreLike, IsLike, MovesAreLike, finds-follow}
use Rattle.sharing_laws.proofs.Walking.{walk-finds}
use Rattle.sharing_laws.proofs.Placing.{empty-at}
use Rattle.sharing_laws.proofs.Choosing.{kept-none, same-component, component-free, same-may}
use Rattle.sharing_laws.specs.Fresh.{IsFreePlace, IsFreeTruth}
use Rattle.sharing_laws.proofs.Starting.{first-fresh}
use Rattle.sharing_laws.proofs.Deciding.{IsSeen, AreFree, cases-like, truth-like, has-within, free-may}
use Rattle.basic_laws.proofs.Truths.{if-true}

-- ---- components
place-like : (k : Setting) (p : Problem) (x : InContext) (fs : Formulas) (l : ℕ) → IsSeen k p x → AreFree k p fs → place k.control p.cases l ≡ None
    → IsLike (IsSeen k) (by_component k p fs (component_for k.control p.cases l)) (by_component_in k x.context fs (component_for k.control x.context l))
place-like k p x fs l seen h free =
    subst (λ o. IsLike (IsSeen k) (by_component k p fs (component_for k.control p.cases l)) (by_component_in k x.context fs o)) (sym (same-component k.control x.context p.cases l seen.kept free))
    (by_choice (component_for k.control p.cases l) refl)
  where
    by_test : (c : ℕ) (b : Bool) → may_case k.control p.cases c ≡ b
        → IsLike (IsSeen k) (divided (by_case c) (if b then Some (case_problems k.control p fs c (component_at k.control.components c).alternatives) else None))
        (if b then divides (by_case c) (case_lists_in k.control x.context fs c (component_at k.control.components c).alternatives) else fails (left_open None))
    by_test c false t = tt
    by_test c true t =
        let q = and_parts (nat_lt c (length k.control.components)) (is_free (slice_get p.cases c) && known_active p.cases (component_at k.control.components c).around) t in
        let like = cases-like k p x.context fs c seen.fresh seen.entries seen.kept h (less c (length k.control.components) q.0) (component_at k.control.components c).alternatives in
        (case_problems k.control p fs c (component_at k.control.components c).alternatives, refl, like)

    by_choice : (o : Option ℕ) → component_for k.control p.cases l ≡ o → IsLike (IsSeen k) (by_component k p fs o) (by_component_in k x.context fs o)
    by_choice None e = tt
    by_choice (Some c) e =
        let may = same-may k.control x.context p.cases c seen.entries seen.fresh.cases seen.kept (component-free k.control p.cases l c e) in
        subst
        (λ b. IsLike (IsSeen k) (by_component k p fs (Some c)) (if b then divides (by_case c) (case_lists_in k.control x.context fs c (component_at k.control.components c).alternatives) else fails (left_open None)))
        may (by_test c (may_case k.control p.cases c) refl)

-- ---- boolean variables
value-like : (k : Setting) (p : Problem) (x : InContext) (fs : Formulas) (v : ℕ) → IsSeen k p x → AreFree k p fs → IsFreeTruth p.truths v → IsLike (IsSeen k) (by_variable k p fs (Some v)) (moved_in x.context (lists.by_variable k fs (Some v)))
value-like k p x fs v seen h free = by_test (has_truth (slice_get k.variables v)) refl
  where
    by_test : (b : Bool) → has_truth (slice_get k.variables v) ≡ b → IsLike (IsSeen k) (by_variable k p fs (Some v)) (moved_in x.context (if b then divides (by_truth v) (truth_lists k fs v) else fails (left_open None)))
    by_test false t = tt
    by_test true t =
        let both : List Problem = truth_problem k.control p fs v true ∷ truth_problem k.control p fs v false ∷ [] in
        let value = λ (b : Bool). truth-like k p x.context fs v b seen.fresh seen.entries seen.kept h (has-within k.variables v t) in
        (both, ap (divided (by_truth v)) (if-true (may_truth k.variables p.truths v) both (free-may k p v seen.fresh t free)), (value true, (value false, tt)))

-- ---- disjunctions and lines
splits-like : (k : Setting) (p : Problem) (x : InContext) → IsSeen k p x → (ls : List Formulas) → EachLiterals (IsFreePlace k.control p.cases) (IsFreeTruth p.truths) ls
    → AreLike (IsSeen k) (split_problems p ls) (map (in_context x.context) (map Some ls))
splits-like k p x seen [] h = tt
splits-like k p x seen (fs ∷ rest) h = (
  record {
    fresh = record { cases = seen.fresh.cases; truths = seen.fresh.truths; free = h.0 };
    conjuncts = refl;
    entries = seen.entries;
    kept = seen.kept;
  },
  splits-like k p x seen rest h.1,
)

ending-like : (k : Setting) (p : Problem) (x : InContext) (fs : Formulas) (e : Ending) → IsLike (IsSeen k) (by_ending k p (lines_of fs) e) (moved_in x.context (lists.by_ending e))
ending-like k p x fs (contradiction picks) = refl
ending-like k p x fs (through us) = tt
ending-like k p x fs (too_wide s) = tt

split-like : (k : Setting) (p : Problem) (x : InContext) (fs : Formulas) → IsSeen k p x → (o : Option (List Formulas)) → IfEach (IsFreePlace k.control p.cases) (IsFreeTruth p.truths) o
    → IsLike (IsSeen k) (by_disjunction k p fs (option_map (split_problems p) o)) (moved_in x.context (lists.by_disjunction k fs o))
split-like k p x fs seen None h = ending-like k p x fs (ending (lines_of fs) (length k.variables))
split-like k p x fs seen (Some ls) h = (split_problems p ls, refl, splits-like k p x seen ls h)

-- ---- all of it
conjuncts-like : (k : Setting) (p : Problem) (x : InContext) → IsSeen k p x → (o : Option Formulas) → IfLiterals (IsFreePlace k.control p.cases) (IsFreeTruth p.truths) o → IsLike (IsSeen k) (by_conjuncts k p o) (by_conjuncts_in k x.context o)
conjuncts-like k p x seen None h = refl
conjuncts-like k p x seen (Some fs) h = by_first (first_place_of fs) refl
  where
    by_second : (o : Option ℕ) → first_truth_of fs ≡ o → IsLike (IsSeen k) (by_variable k p fs o) (moved_in x.context (lists.by_variable k fs o))
    by_second (Some v) e = value-like k p x fs v seen h (truths-fact (IsFreePlace k.control p.cases) (IsFreeTruth p.truths) fs v h e)
    by_second None e = split-like k p x fs seen (split_from none 0 fs) (split-literals (IsFreePlace k.control p.cases) (IsFreeTruth p.truths) fs none 0 tt h)

    by_first : (o : Option ℕ) → first_place_of fs ≡ o → IsLike (IsSeen k) (by_place k p fs o) (by_place_in k x.context fs o)
    by_first (Some l) e = place-like k p x fs l seen h (places-fact (IsFreePlace k.control p.cases) (IsFreeTruth p.truths) fs l h e)
    by_first None e = by_second (first_truth_of fs) refl

moves-like : (k : Setting) → MovesAreLike (IsSeen k) (move_of k) (context_move k)
moves-like k p x seen = subst (λ o. IsLike (IsSeen k) (move_of k p) (by_conjuncts_in k x.context o)) seen.conjuncts (conjuncts-like k p x seen p.conjuncts seen.fresh.free)

-- what the search over lists finds for a condition, the search over problems finds
pub problems-find : (k : Setting) (given shown : Formula) (t : Tree) → Finds (context_move k) t (in_context (first_context k.control) (first_problem k given shown).conjuncts)
    → Finds (move_of k) t (first_problem k given shown)
problems-find k given shown t h =
    let n : ℕ = length k.control.components in
    let first : Problem = first_problem k given shown in
    let seen : IsSeen k first (in_context (first_context k.control) first.conjuncts) = record {
      fresh = first-fresh k given shown;
      conjuncts = refl;
      entries = length-replicate n None;
      kept = λ c. empty-at Alternative n c ∙ sym (kept-none (has_inside k.control c) (slice_index_or first.cases c None) (empty-at Alternative n c));
    } in
    finds-follow (IsSeen k) (move_of k) (context_move k) (moves-like k) t first (in_context (first_context k.control) first.conjuncts) seen h

pub contexts-find : ContextsFindTheSame
contexts-find k given shown t modest h =
    ap verdict_of (walk-finds (move_of k) t (first_problem k given shown) 400 0 (problems-find k given shown t h) (omega (arith, modest.count)) modest.depth)
