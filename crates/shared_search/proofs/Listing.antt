-- Lists in contexts stay as they are while the tables grow.
use Rattle.std.proofs.Common.{◌≡◌, ℕ, zero, suc, ◌+◌, ◌<◌, ◌≤◌, List, [], ◌∷◌, ◌++◌, length, map, take, drop, get_or, refl, ap, append-nil, subst, ◌∙◌, sym, All, Option, Some, None, arith}
use Rattle.std.proofs.lemmas.List.{map_push}
use Rattle.std.proofs.lemmas.List.{take_more}
use Rattle.std.proofs.lemmas.List.Elements.{All-weaker, All-cons, All-head, All-tail, All-push}
use Rattle.st_form.specs.Formula.{Formula, Formulas, every}
use Rattle.st_form.specs.Simple.{opened}
use Rattle.form_table.specs.Table.{Extends}
use Rattle.form_table.specs.Contents.{Choice, Contents, Grows, decision_at, formulas_of}
use Rattle.form_table.specs.Lists.{conjuncts_of, IsList, IsListed, AreLists}
use Rattle.form_table.proofs.Calling.{is-later, list-same, list-there}
use Rattle.sharing_laws.specs.Lists.{under}
use Rattle.sharing_laws.specs.Contexts.{InContext, in_context}
use Rattle.shared_search.specs.declared.lists.Child.{Child}
use Rattle.shared_search.specs.declared.lists.Key.{Key}
use Rattle.shared_search.specs.Contexts.{ContextTable, Keeps, context_at}
use Rattle.shared_search.specs.Lists.{AreChildren, IfList, IsChild, IsKey, child_at, child_of, conjuncts_at, key_of, moved, under_each}
use Rattle.shared_search.proofs.Entering.{keeps-refl}

pub conjuncts-later : (ts us : List Formula) (n : ℕ) → Extends ts us → IsList ts n → conjuncts_of us n ≡ conjuncts_of ts n
conjuncts-later ts us n h k = ap opened (h.same n k.0)

pub is-list-later : (ts us : List Formula) (n : ℕ) → Extends ts us → IsList ts n → IsList us n
is-list-later ts us n h k = list-there us n (conjuncts_of ts n) (is-later ts us n (every (conjuncts_of ts n)) h k)

pub if-list-later : (ts us : List Formula) (o : Option ℕ) → Extends ts us → IfList ts o → IfList us o
if-list-later ts us None h k = tt
if-list-later ts us (Some n) h k = is-list-later ts us n h k

pub at-later : (ts us : List Formula) (o : Option ℕ) → Extends ts us → IfList ts o → conjuncts_at us o ≡ conjuncts_at ts o
at-later ts us None h k = refl
at-later ts us (Some n) h k = ap Some (conjuncts-later ts us n h k)

pub child-later : (ts us : List Formula) (cs ds : ContextTable) (x : Child) → Extends ts us → Keeps cs ds → IsChild ts cs x → IsChild us ds x
child-later ts us cs ds x g h k = (omega (arith, k.0, h.longer), if-list-later ts us x.list g k.1)

pub child-same : (ts us : List Formula) (cs ds : ContextTable) (x : Child) → Extends ts us → Keeps cs ds → IsChild ts cs x → child_of us ds x ≡ child_of ts cs x
child-same ts us cs ds x g h k =
    ap (λ c. in_context c (conjuncts_at us x.list)) (h.same x.context k.0) ∙ ap (in_context (context_at cs x.context)) (at-later ts us x.list g k.1)

pub key-later : (ts us : List Formula) (cs ds : ContextTable) (x : Key) → Extends ts us → Keeps cs ds → IsKey ts cs x → IsKey us ds x
key-later ts us cs ds x g h k = (omega (arith, k.0, h.longer), is-list-later ts us x.list g k.1)

pub key-same : (ts us : List Formula) (cs ds : ContextTable) (x : Key) → Extends ts us → Keeps cs ds → IsKey ts cs x → key_of us ds x ≡ key_of ts cs x
key-same ts us cs ds x g h k =
    ap (λ c. in_context c (Some (conjuncts_of us x.list))) (h.same x.context k.0) ∙ ap (λ fs. in_context (context_at cs x.context) (Some fs)) (conjuncts-later ts us x.list g k.1)

pub children-later : (ts us : List Formula) (cs ds : ContextTable) (xs : List Child) → Extends ts us → Keeps cs ds → All (IsChild ts cs) xs → All (IsChild us ds) xs
children-later ts us cs ds xs g h k = All-weaker (IsChild ts cs) (IsChild us ds) (λ x. child-later ts us cs ds x g h) xs k

each-same : (ts us : List Formula) (cs ds : ContextTable) (xs : List Child) → Extends ts us → Keeps cs ds → All (IsChild ts cs) xs → map (child_of us ds) xs ≡ map (child_of ts cs) xs
each-same ts us cs ds [] g h k = refl
each-same ts us cs ds (x ∷ xs) g h k =
    ap (λ y. y ∷ map (child_of us ds) xs) (child-same ts us cs ds x g h (All-head (IsChild ts cs) x xs k)) ∙ ap (λ ys. child_of ts cs x ∷ ys) (each-same ts us cs ds xs g h (All-tail (IsChild ts cs) x xs k))

pub are-later : (ts us : List Formula) (cs ds : ContextTable) (xs : List Child) (ys : List InContext) → Extends ts us → Keeps cs ds → AreChildren ts cs xs ys → AreChildren us ds xs ys
are-later ts us cs ds xs ys g h k = record { there = children-later ts us cs ds xs g h k.there; same = each-same ts us cs ds xs g h k.there ∙ k.same }

children-push : (ts : List Formula) (cs : ContextTable) (xs : List Child) (ys : List InContext) (x : Child) → AreChildren ts cs xs ys → IsChild ts cs x → AreChildren ts cs (xs ++ x ∷ []) (ys ++ child_of ts cs x ∷ [])
children-push ts cs xs ys x h k = record {
  there = All-push (IsChild ts cs) xs x h.there k;
  same = map_push (child_of ts cs) xs x ∙ ap (λ zs. zs ++ child_of ts cs x ∷ []) h.same;
}

-- a number that is handed over
pub handed-list : (ts : List Formula) (o : Option ℕ) (fs : Option Formulas) → IsListed ts o fs → IfList ts o
handed-list ts None None h = tt
handed-list ts None (Some fs) h = absurd h
handed-list ts (Some n) None h = absurd h
handed-list ts (Some n) (Some fs) h = list-there ts n fs h

pub handed-same : (ts : List Formula) (o : Option ℕ) (fs : Option Formulas) → IsListed ts o fs → conjuncts_at ts o ≡ fs
handed-same ts None None h = refl
handed-same ts None (Some fs) h = absurd h
handed-same ts (Some n) None h = absurd h
handed-same ts (Some n) (Some fs) h = ap Some (list-same ts n fs h)

pub under-push : (ds : List Choice) (fs : Formulas) (ns : List ℕ) (n : ℕ) → under_each ds fs (ns ++ n ∷ []) ≡ under_each ds fs ns ++ under (decision_at ds n) fs ∷ []
under-push ds fs [] n = refl
under-push ds fs (m ∷ ms) n = ap (λ xs. under (decision_at ds m) fs ∷ xs) (under-push ds fs ms n)

-- a list more
pub under-step : (old mid new : Contents) (cs : ContextTable) (context list i : ℕ) (ns : List ℕ) (xs : List Child) (o : Option ℕ)
    → Grows old mid → Grows mid new → IsList (formulas_of old) list → context < length cs → i < length ns
    → AreChildren (formulas_of mid) cs xs (map (in_context (context_at cs context)) (under_each old.decisions (conjuncts_of (formulas_of old) list) (take i ns)))
    → IsListed (formulas_of new) o (under (decision_at mid.decisions (get_or ns i 0)) (conjuncts_of (formulas_of mid) list))
    → AreChildren (formulas_of new) cs (xs ++ record { context = context; list = o } ∷ []) (map (in_context (context_at cs context)) (under_each old.decisions (conjuncts_of (formulas_of old) list) (take (i + 1) ns)))
under-step old mid new cs context list i ns xs o g h l c at k made =
    let fs : Formulas = conjuncts_of (formulas_of old) list in
    let n : ℕ = get_or ns i 0 in
    let before : List (Option Formulas) = under_each old.decisions fs (take i ns) in
    let within : Option Formulas → InContext = in_context (context_at cs context) in
    let by-decisions : under (decision_at mid.decisions n) (conjuncts_of (formulas_of mid) list) ≡ under (decision_at old.decisions n) (conjuncts_of (formulas_of mid) list) =
    ap (λ ds. under (decision_at ds n) (conjuncts_of (formulas_of mid) list)) g.decisions in
    let by-list : under (decision_at old.decisions n) (conjuncts_of (formulas_of mid) list) ≡ under (decision_at old.decisions n) fs =
    ap (under (decision_at old.decisions n)) (conjuncts-later (formulas_of old) (formulas_of mid) list g.formulas l) in
    let same : conjuncts_at (formulas_of new) o ≡ under (decision_at old.decisions n) fs = handed-same (formulas_of new) o _ made ∙ by-decisions ∙ by-list in
    let pushed =
    children-push (formulas_of new) cs xs (map within before) (record { context = context; list = o }) (are-later (formulas_of mid) (formulas_of new) cs cs xs (map within before) h.formulas (keeps-refl cs) k)
    (c, handed-list (formulas_of new) o _ made) in
    let more : before ++ under (decision_at old.decisions n) fs ∷ [] ≡ under_each old.decisions fs (take (i + 1) ns) = sym (under-push old.decisions fs (take i ns) n) ∙ sym (ap (under_each old.decisions fs) (take_more ns i 0 at)) in
    let whole : map within before ++ within (conjuncts_at (formulas_of new) o) ∷ [] ≡ map within (under_each old.decisions fs (take (i + 1) ns)) =
    ap (λ y. map within before ++ within y ∷ []) same ∙ sym (map_push within before (under (decision_at old.decisions n) fs)) ∙ ap (map within) more in
    subst (AreChildren (formulas_of new) cs (xs ++ record { context = context; list = o } ∷ [])) whole pushed

-- lists that aren't false
pub none-false : (ts : List Formula) (cs : ContextTable) (context : ℕ) (ns : List ℕ) (lists : List Formulas) → context < length cs → AreLists ts ns lists
    → AreChildren ts cs (map (child_at context) ns) (map (in_context (context_at cs context)) (map Some lists))
none-false ts cs context [] [] c h = record { there = λ i d l. absurd (omega (arith, l)); same = refl }
none-false ts cs context [] (fs ∷ rest) c h = absurd h
none-false ts cs context (n ∷ ns) [] c h = absurd h
none-false ts cs context (n ∷ ns) (fs ∷ rest) c h =
    let more = none-false ts cs context ns rest c h.1 in
    record {
      there = All-cons (IsChild ts cs) (child_at context n) (map (child_at context) ns) (c, list-there ts n fs h.0) more.there;
      same =
          ap (λ gs. in_context (context_at cs context) (Some gs) ∷ map (child_of ts cs) (map (child_at context) ns)) (list-same ts n fs h.0)
          ∙ ap (λ ys. in_context (context_at cs context) (Some fs) ∷ ys) more.same;
    }

-- ---- the same lists in other contexts
moved-none : (ns : List ℕ) (xs : List Child) (i : ℕ) → length xs ≤ i → moved ns (drop i xs) ≡ []
moved-none [] xs i l = refl
moved-none (n ∷ ns) [] zero l = refl
moved-none (n ∷ ns) [] (suc i) l = refl
moved-none (n ∷ ns) (x ∷ xs) zero l = absurd (omega (arith, l))
moved-none (n ∷ ns) (x ∷ xs) (suc i) l = moved-none (n ∷ ns) xs i (omega (arith, l))

-- there are no more lists
pub moved-end : (out : List Child) (ns : List ℕ) (xs : List Child) (i : ℕ) → length xs ≤ i → out ++ moved (drop i ns) (drop i xs) ≡ moved ns xs → out ≡ moved ns xs
moved-end out ns xs i l h = sym (append-nil out) ∙ sym (ap (λ ys. out ++ ys) (moved-none (drop i ns) xs i l)) ∙ h
