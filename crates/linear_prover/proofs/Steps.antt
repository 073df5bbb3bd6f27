-- The loop over the problems of a division: the certificates so far, and then the walk of what is left, are the walk of all.
use Rattle.std.proofs.Common.{◌≡◌, ℕ, ◌+◌, ◌≤◌, List, [], ◌∷◌, ◌++◌, length, drop, refl, ap, ◌∙◌, sym, Some}
use Rattle.std.specs.Prelude.{slice_get}
use Rattle.std.proofs.lemmas.List.{drop_more}
use Rattle.std.proofs.lemmas.Option.{slice_get_within, get_or_from_slice_get}
use Rattle.std.proofs.Math.ListN.{drop_of_length-le}
use Rattle.st_certificate.specs.declared.Certificate.{Certificate}
use Rattle.st_certificate.specs.Plain.{plain as tree_of, plain_trees}
use Rattle.farkas_check.specs.Problem.{Problem}
use Rattle.search_laws.specs.Walks.{Failure, PathStep, Found, found, stopped, FoundAll, all, broke, onto_trees, then_rest, walk_all}
use Rattle.st_certificate.specs.Tree.{no_tree}
use Rattle.linear_prover.specs.Ready.{IfReady, AllReady}
use Rattle.linear_prover.specs.Loops.{onto_all}

onto_all-push : (ts : List Certificate) (t : Certificate) (a : FoundAll) → onto_all (ts ++ t ∷ []) a ≡ onto_all ts (onto_trees (tree_of t) a)
onto_all-push [] t a = refl
onto_all-push (x ∷ xs) t a = ap (onto_trees (tree_of x)) (onto_all-push xs t a)

onto_all-broke : (ts : List Certificate) (i : ℕ) (path : List PathStep) (e : Failure) → onto_all ts (broke i path e) ≡ broke i path e
onto_all-broke [] i path e = refl
onto_all-broke (t ∷ ts) i path e = ap (onto_trees (tree_of t)) (onto_all-broke ts i path e)

onto_all-all : (ts : List Certificate) (n : ℕ) → onto_all ts (all no_tree n) ≡ all (plain_trees ts) n
onto_all-all [] n = refl
onto_all-all (t ∷ ts) n = ap (onto_trees (tree_of t)) (onto_all-all ts n)

pub drop-get : {A : Type 0} (ps : List A) (i : ℕ) (p : A) → slice_get ps i ≡ Some p → drop i ps ≡ p ∷ drop (i + 1) ps
drop-get ps i p h = drop_more ps i p (slice_get_within ps i p h) ∙ ap (λ q. q ∷ drop (i + 1) ps) (get_or_from_slice_get ps i p p h)

here : {P : Type 0} (rec : P → ℕ → Found) (ps : List P) (i now : ℕ) (p : P) (f : Found) → slice_get ps i ≡ Some p → f ≡ rec p now → walk_all rec (drop i ps) i now ≡ then_rest i f (walk_all rec (drop (i + 1) ps) (i + 1))
here rec ps i now p f h k = ap (λ l. walk_all rec l i now) (drop-get ps i p h) ∙ ap (λ f. then_rest i f (walk_all rec (drop (i + 1) ps) (i + 1))) (sym k)

-- one more is found
pub found-more : {P : Type 0} (rec : P → ℕ → Found) (out : List Certificate) (t : Certificate) (ps : List P) (i : ℕ) (p : P) (now after : ℕ) (whole : FoundAll) → slice_get ps i ≡ Some p → found (tree_of t) after ≡ rec p now
    → onto_all out (walk_all rec (drop i ps) i now) ≡ whole → onto_all (out ++ t ∷ []) (walk_all rec (drop (i + 1) ps) (i + 1) after) ≡ whole
found-more rec out t ps i p now after whole h k w =
    onto_all-push out t (walk_all rec (drop (i + 1) ps) (i + 1) after) ∙ sym (ap (onto_all out) (here rec ps i now p (found (tree_of t) after) h k)) ∙ w

-- the walk ends at one
pub stopped-here : {P : Type 0} (rec : P → ℕ → Found) (out : List Certificate) (ps : List P) (i : ℕ) (p : P) (now : ℕ) (path : List PathStep) (e : Failure) (whole : FoundAll) → slice_get ps i ≡ Some p → stopped path e ≡ rec p now
    → onto_all out (walk_all rec (drop i ps) i now) ≡ whole → broke i path e ≡ whole
stopped-here rec out ps i p now path e whole h k w =
    sym (onto_all-broke out i path e) ∙ sym (ap (onto_all out) (here rec ps i now p (stopped path e) h k)) ∙ w

-- all are found
pub all-done : {P : Type 0} (rec : P → ℕ → Found) (out : List Certificate) (ps : List P) (i now : ℕ) (whole : FoundAll) → length ps ≤ i
    → onto_all out (walk_all rec (drop i ps) i now) ≡ whole → all (plain_trees out) now ≡ whole
all-done rec out ps i now whole h w =
    sym (onto_all-all out now) ∙ sym (ap (λ l. onto_all out (walk_all rec l i now)) (drop_of_length-le ps h)) ∙ w

-- one of them is ready
pub ready-here : (n : ℕ) (ps : List Problem) (i : ℕ) (p : Problem) → slice_get ps i ≡ Some p → AllReady n (drop i ps) → IfReady n p.conjuncts × AllReady n (drop (i + 1) ps)
ready-here n ps i p h r = rw (drop-get ps i p h) at r
