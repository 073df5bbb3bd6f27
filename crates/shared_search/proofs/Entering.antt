-- Contexts keep their numbers, and a context more has its own.
use Rattle.std.proofs.Common.{◌≡◌, ℕ, zero, suc, ◌+◌, ◌<◌, List, [], ◌∷◌, ◌++◌, length, map, take, get_or, slice_get, refl, ap, subst, ◌∙◌, sym, All, Option, Some, Vec, arith}
use Rattle.std.proofs.lemmas.List.{map_push}
use Rattle.std.specs.Global.{Global}
use Rattle.std.proofs.lemmas.List.{take_more, length-append}
use Rattle.std.proofs.lemmas.List.Elements.{All-weaker, All-push, All-head, All-tail}
use Rattle.control_states.specs.declared.alternative.Alternative.{Alternative}
use Rattle.shared_search.specs.Contexts.{AreContexts, Context, ContextTable, IsContext, Keeps, context_at, context_in, entered}

pub keeps-refl : (cs : ContextTable) → Keeps cs cs
keeps-refl cs = record { longer = omega arith; same = λ n h. refl }

pub keeps-trans : (cs ds es : ContextTable) → Keeps cs ds → Keeps ds es → Keeps cs es
keeps-trans cs ds es h k = record {
  longer = omega (arith, h.longer, k.longer);
  same = λ n l. k.same n (omega (arith, l, h.longer)) ∙ h.same n l;
}

-- ---- a context more
get-left : {A : Type 0} (xs ys : List A) (n : ℕ) → n < length xs → slice_get (xs ++ ys) n ≡ slice_get xs n
get-left [] ys n l = absurd (omega (arith, l))
get-left (x ∷ xs) ys zero l = refl
get-left (x ∷ xs) ys (suc n) l = get-left xs ys n (omega (arith, l))

get-end : {A : Type 0} (xs : List A) (x : A) → slice_get (xs ++ x ∷ []) (length xs) ≡ Some x
get-end [] x = refl
get-end (y ∷ ys) x = get-end ys x

pub keeps-push : (cs ds : ContextTable) (v : Vec (Option Alternative) Global) → ds ≡ cs ++ v ∷ [] → Keeps cs ds
keeps-push cs ds v e = record {
  longer = rw e (omega (arith, length-append cs (v ∷ [])));
  same = λ n l. rw e (ap context_in (get-left cs (v ∷ []) n l));
}

pub is-pushed : (cs ds : ContextTable) (v : Vec (Option Alternative) Global) (n : ℕ) (context : Context) → ds ≡ cs ++ v ∷ [] → n ≡ length cs → v.items ≡ context → IsContext ds n context
is-pushed cs ds v n context e l s = (rw e (omega (arith, l, length-append cs (v ∷ []))), rw e (ap (λ m. context_at (cs ++ v ∷ []) m) l ∙ ap context_in (get-end cs v) ∙ s))

-- ---- the contexts for each alternative
same-later : (cs ds : ContextTable) (ns : List ℕ) → Keeps cs ds → All (λ n. n < length cs) ns → map (context_at ds) ns ≡ map (context_at cs) ns
same-later cs ds [] h k = refl
same-later cs ds (n ∷ ns) h k =
    ap (λ x. x ∷ map (context_at ds) ns) (h.same n (All-head (λ m. m < length cs) n ns k)) ∙ ap (λ xs. context_at cs n ∷ xs) (same-later cs ds ns h (All-tail (λ m. m < length cs) n ns k))

contexts-push : (cs ds : ContextTable) (ns : List ℕ) (contexts : List Context) (n : ℕ) (context : Context) → Keeps cs ds → AreContexts cs ns contexts → IsContext ds n context → AreContexts ds (ns ++ n ∷ []) (contexts ++ context ∷ [])
contexts-push cs ds ns contexts n context h k i = record {
  there = All-push (λ m. m < length ds) ns n (All-weaker (λ m. m < length cs) (λ m. m < length ds) (λ m l. omega (arith, l, h.longer)) ns k.there) i.0;
  same = map_push (context_at ds) ns n ∙ ap (λ xs. xs ++ context_at ds n ∷ []) (same-later cs ds ns h k.there ∙ k.same) ∙ ap (λ x. contexts ++ x ∷ []) i.1;
}

-- one alternative more
pub entered-step : (old mid new : ContextTable) (context c i n : ℕ) (ns : List ℕ) (choices : List Alternative) (d : Alternative) → context < length old → i < length choices → Keeps old mid → Keeps mid new
    → AreContexts mid ns (map (entered (context_at old context) c) (take i choices)) → IsContext new n (entered (context_at mid context) c (get_or choices i d))
    → AreContexts new (ns ++ n ∷ []) (map (entered (context_at old context) c) (take (i + 1) choices))
entered-step old mid new context c i n ns choices d l at g h k made =
    let f : Alternative → Context = entered (context_at old context) c in
    let one : IsContext new n (f (get_or choices i d)) = (made.0, made.1 ∙ ap (λ x. entered x c (get_or choices i d)) (g.same context l)) in
    let pushed = contexts-push mid new ns (map f (take i choices)) n (f (get_or choices i d)) h k one in
    subst (AreContexts new (ns ++ n ∷ [])) (sym (ap (map f) (take_more choices i d at) ∙ map_push f (take i choices) (get_or choices i d))) pushed
