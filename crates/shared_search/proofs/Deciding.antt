-- The decisions of a program have their numbers.
use Rattle.std.proofs.Common.{◌≡◌, ℕ, zero, suc, ◌+◌, ◌<◌, ◌⊎◌, inl, inr, Bool, List, [], ◌∷◌, ◌++◌, length, map, take, get_or, slice_get, slice_index_or, refl, ap, subst, ◌∙◌, sym, All, Option, Some, None, arith, Vec, Result, Ok, Err, IfOk}
use Rattle.std.specs.Global.{Global}
use Rattle.std.proofs.lemmas.List.{take_more, get_or_append_left, get_or_push, length-append}
use Rattle.std.proofs.lemmas.List.Elements.{All-weaker, All-nil, All-push, All-head, All-tail}
use Rattle.st_form.specs.Simple.{Decided, tabled}
use Rattle.control_states.specs.declared.alternative.Alternative.{Alternative}
use Rattle.control_states.specs.Control.{ControlFacts}
use Rattle.control_states.specs.Place.{place}
use Rattle.farkas_check.specs.Problem.{decided_by}
use Rattle.form_table.specs.Contents.{Choice, decision_at}
use Rattle.shared_search.specs.Books.{AreDecisions, AreKept, IsDecision, IsLonger}
use Rattle.std.proofs.lemmas.List.{map_push}

pub longer-refl : (ds : List Choice) → IsLonger ds ds
longer-refl ds = record { longer = omega arith; same = λ n h. refl }

pub longer-trans : (ds es fs : List Choice) → IsLonger ds es → IsLonger es fs → IsLonger ds fs
longer-trans ds es fs h k = record {
  longer = omega (arith, h.longer, k.longer);
  same = λ n l. k.same n (omega (arith, l, h.longer)) ∙ h.same n l;
}

pub longer-push : (ds es : List Choice) (c : Choice) → es ≡ ds ++ c ∷ [] → IsLonger ds es
longer-push ds es c e = record {
  longer = rw e (omega (arith, length-append ds (c ∷ [])));
  same = λ n l. rw e (ap (λ x. tabled x.truths x.places) (get_or_append_left ds (c ∷ []) _ n l));
}

pub is-later : (ds es : List Choice) (n : ℕ) (d : Decided) → IsLonger ds es → IsDecision ds n d → IsDecision es n d
is-later ds es n d h k = (omega (arith, k.0, h.longer), h.same n k.0 ∙ k.1)

same-later : (ds es : List Choice) (ns : List ℕ) → IsLonger ds es → All (λ n. n < length ds) ns → map (decision_at es) ns ≡ map (decision_at ds) ns
same-later ds es [] h k = refl
same-later ds es (n ∷ ns) h k =
    ap (λ x. x ∷ map (decision_at es) ns) (h.same n (All-head (λ m. m < length ds) n ns k)) ∙ ap (λ xs. decision_at ds n ∷ xs) (same-later ds es ns h (All-tail (λ m. m < length ds) n ns k))

pub decisions-later : (ds es : List Choice) (ns : List ℕ) (xs : List Decided) → IsLonger ds es → AreDecisions ds ns xs → AreDecisions es ns xs
decisions-later ds es ns xs h k = record {
  there = All-weaker (λ n. n < length ds) (λ n. n < length es) (λ n l. omega (arith, l, h.longer)) ns k.there;
  same = same-later ds es ns h k.there ∙ k.same;
}

pub decisions-push : (ds es : List Choice) (ns : List ℕ) (xs : List Decided) (n : ℕ) (d : Decided) → IsLonger ds es → AreDecisions ds ns xs → IsDecision es n d → AreDecisions es (ns ++ n ∷ []) (xs ++ d ∷ [])
decisions-push ds es ns xs n d h k i =
    let later = decisions-later ds es ns xs h k in
    record {
      there = All-push (λ m. m < length es) ns n later.there i.0;
      same = map_push (decision_at es) ns n ∙ ap (λ ys. ys ++ decision_at es n ∷ []) later.same ∙ ap (λ y. xs ++ y ∷ []) i.1;
    }

-- one alternative more
pub cases-step : {A : Type 0} (f : A → Decided) (ds es : List Choice) (ns : List ℕ) (choices : List A) (i n : ℕ) (d : A) → i < length choices → IsLonger ds es → AreDecisions ds ns (map f (take i choices))
    → IsDecision es n (f (get_or choices i d)) → AreDecisions es (ns ++ n ∷ []) (map f (take (i + 1) choices))
cases-step f ds es ns choices i n d at h k j =
    subst (AreDecisions es (ns ++ n ∷ [])) (sym (ap (map f) (take_more choices i d at) ∙ map_push f (take i choices) (get_or choices i d)))
    (decisions-push ds es ns (map f (take i choices)) n (f (get_or choices i d)) h k j)

pub kept-later : (ds es : List Choice) (f : ℕ → List Decided) (kept : List (Vec ℕ Global)) → IsLonger ds es → AreKept ds f kept → AreKept es f kept
kept-later ds es f kept h k = λ n v e. decisions-later ds es v.items (f n) h (k n v e)

push-get : {A : Type 0} (xs : List A) (x y : A) (n : ℕ) → slice_get (xs ++ x ∷ []) n ≡ Some y → (slice_get xs n ≡ Some y) ⊎ ((n ≡ length xs) × (x ≡ y))
push-get [] x y zero e = inr (refl, cc)
push-get [] x y (suc n) e = absurd (cc)
push-get (z ∷ zs) x y zero e = inl e
push-get (z ∷ zs) x y (suc n) e = pushed zs n (push-get zs x y n e) where
  pushed : (zs : List _) (n : ℕ) → ((slice_get zs n ≡ Some y) ⊎ ((n ≡ length zs) × (x ≡ y))) → (slice_get zs n ≡ Some y) ⊎ ((suc n ≡ suc (length zs)) × (x ≡ y))
  pushed zs n (inl h) = inl h
  pushed zs n (inr h) = inr (ap suc h.0, h.1)

kept-either : (ds : List Choice) (f : ℕ → List Decided) (kept : List (Vec ℕ Global)) (v w : Vec ℕ Global) (n : ℕ) → AreKept ds f kept → AreDecisions ds v.items (f (length kept))
    → ((slice_get kept n ≡ Some w) ⊎ ((n ≡ length kept) × (v ≡ w))) → AreDecisions ds w.items (f n)
kept-either ds f kept v w n k d (inl e) = k n w e
kept-either ds f kept v w n k d (inr e) = subst (λ m. AreDecisions ds w.items (f m)) (sym e.0) (subst (λ (u : Vec ℕ Global). AreDecisions ds u.items (f (length kept))) e.1 d)

-- the numbers of one component or variable more
pub kept-push : (ds es : List Choice) (f : ℕ → List Decided) (kept : List (Vec ℕ Global)) (v : Vec ℕ Global) (n : ℕ) → n ≡ length kept → IsLonger ds es → AreKept ds f kept → AreDecisions es v.items (f n) → AreKept es f (kept ++ v ∷ [])
kept-push ds es f kept v n l h k d =
    λ m w e. kept-either es f kept v w m (kept-later ds es f kept h k) (subst (λ i. AreDecisions es v.items (f i)) l d) (push-get kept v w m e)

pub none-kept : (ds : List Choice) (f : ℕ → List Decided) → AreKept ds f []
none-kept ds f = λ n v e. absurd (cc)

-- what a table says, decided by cases and truths
pub tabled-same : (k : ControlFacts) (cases : List (Option Alternative)) (truths : List (Option Bool)) (places : List (Option Bool)) → ((l : ℕ) → slice_index_or places l None ≡ place k cases l)
    → tabled truths places ≡ decided_by k cases truths
tabled-same k cases truths places e = λ i. record { truths = λ v. slice_index_or truths v None; places = λ l. e l i }

-- a decision that is pushed
pub is-pushed : (ds es : List Choice) (n : ℕ) (c : Choice) (d : Decided) → n ≡ length ds → es ≡ ds ++ c ∷ [] → tabled c.truths c.places ≡ d → IsDecision es n d
is-pushed ds es n c d l e s = (rw e (omega (arith, l, length-append ds (c ∷ []))), rw e (ap (λ x. tabled x.truths x.places) (get_or_push ds c _ n (sym l)) ∙ s))

-- the same where a decision may be pushed
pub both-pushed : {E : Type 0} (r : Result ℕ E) (ds es : List Choice) (c : Choice) (d : Decided) → IfOk r (λ n. n ≡ length ds) → IfOk r (λ _. es ≡ ds ++ c ∷ []) → tabled c.truths c.places ≡ d → IfOk r (λ n. IsDecision es n d)
both-pushed (Ok n) ds es c d l e s = is-pushed ds es n c d l e s
both-pushed (Err f) ds es c d l e s = tt

pub two-decisions : (ds es : List Choice) (m n : ℕ) (d e : Decided) → IsDecision ds m d → IsLonger ds es → IsDecision es n e → AreDecisions es (m ∷ n ∷ []) (d ∷ e ∷ [])
two-decisions ds es m n d e a h b = decisions-push ds es (m ∷ []) (d ∷ []) n e h (decisions-push ds ds [] [] m d (longer-refl ds) (record { there = All-nil (λ i. i < length ds); same = refl }) a) b
