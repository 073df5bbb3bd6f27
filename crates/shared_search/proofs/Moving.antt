-- The moves of the code are those that are defined.
use Rattle.std.proofs.Common.{◌≡◌, ℕ, ◌<◌, true, false, List, [], ◌∷◌, length, map, refl, ap, subst, ◌∙◌, sym, All, Option, Some, None, Vec, slice_get, get_or, ltb, ℤ, arith}
use Rattle.std.specs.Prelude.{if◌then◌else◌, slice_set}
use Rattle.std.specs.Global.{Global}
use Rattle.std.proofs.lemmas.Bool.Decides.{nat_tests}
use Rattle.std.proofs.lemmas.Option.{slice_get_read}
use Rattle.std.proofs.lemmas.List.Elements.{All-nil, All-cons, All-head, All-tail}
use Rattle.st_linear.specs.declared.rows.Line.{Line}
use Rattle.st_form.specs.Formula.{Formula, Formulas}
use Rattle.control_states.specs.declared.alternative.Alternative.{Alternative}
use Rattle.control_states.specs.Control.{ControlFacts, component_at}
use Rattle.st_certificate.specs.Tree.{by_case, by_truth, by_split}
use Rattle.farkas_check.specs.Problem.{Setting, has_truth, lines_of, may_case}
use Rattle.elimination_laws.specs.Stages.{contradiction, ending}
use Rattle.search_laws.specs.Walks as plain
use Rattle.form_table.specs.Contents.{Choice, decision_at}
use Rattle.form_table.specs.Lists.{AreSplit}
use Rattle.tree_table.specs.declared.nodes.Step.TheVariants.{Case, Truth, Split}
use Rattle.sharing_laws.specs.Lists.{under, by_case_alone, case_lists, truth_lists, by_variable, by_disjunction, by_ending}
use Rattle.sharing_laws.specs.Contexts.{InContext, by_component_in, case_lists_in, context_with, has_inside, in_context, moved_in}
use Rattle.shared_search.specs.declared.moves.Move.{Move}
use Rattle.shared_search.specs.declared.moves.Move.TheVariants.{Closes, Divides, Fails}
use Rattle.shared_search.specs.declared.lists.Child.{Child}
use Rattle.shared_search.specs.Contexts.{AreContexts, Context, ContextTable, context_at, entered}
use Rattle.shared_search.specs.Lists.{AreChildren, IsChild, child_at, child_of, conjuncts_at, moved, under_each}
use Rattle.shared_search.specs.Moves.{IsLeaf, IsMove}
use Rattle.shared_search.specs.Books.{AreDecisions, case_decisions, truth_decisions}
use Rattle.shared_search.proofs.Listing.{none-false}

each-mapped : (ds : List Choice) (fs : Formulas) (ns : List ℕ) → under_each ds fs ns ≡ map (λ d. under d fs) (map (decision_at ds) ns)
each-mapped ds fs [] = refl
each-mapped ds fs (n ∷ ns) = ap (λ xs. under (decision_at ds n) fs ∷ xs) (each-mapped ds fs ns)

cases-mapped : (k : ControlFacts) (fs : Formulas) (c : ℕ) (choices : List Alternative) → case_lists k fs c choices ≡ map (λ d. under d fs) (map (by_case_alone k c) choices)
cases-mapped k fs c [] = refl
cases-mapped k fs c (a ∷ rest) = ap (λ xs. under (by_case_alone k c a) fs ∷ xs) (cases-mapped k fs c rest)

pub cases-same : (k : Setting) (ds : List Choice) (fs : Formulas) (c : ℕ) (ns : List ℕ) → AreDecisions ds ns (case_decisions k c)
    → under_each ds fs ns ≡ case_lists k.control fs c (component_at k.control.components c).alternatives
cases-same k ds fs c ns h = each-mapped ds fs ns ∙ ap (map (λ d. under d fs)) h.same ∙ sym (cases-mapped k.control fs c (component_at k.control.components c).alternatives)

truths-same : (k : Setting) (ds : List Choice) (fs : Formulas) (v : ℕ) (ns : List ℕ) → AreDecisions ds ns (truth_decisions k v) → under_each ds fs ns ≡ truth_lists k fs v
truths-same k ds fs v ns h = each-mapped ds fs ns ∙ ap (map (λ d. under d fs)) h.same

-- ---- the lists for each alternative, in their contexts
stayed : (k : ControlFacts) (context : Context) (fs : Formulas) (c : ℕ) (choices : List Alternative) → false ≡ has_inside k c → map (in_context context) (case_lists k fs c choices) ≡ case_lists_in k context fs c choices
stayed k context fs c [] h = refl
stayed k context fs c (a ∷ rest) h =
    ap (λ b. in_context (if b then slice_set context c (Some a) else context) (under (by_case_alone k c a) fs) ∷ map (in_context context) (case_lists k fs c rest)) h
    ∙ ap (λ xs. in_context (context_with k context c a) (under (by_case_alone k c a) fs) ∷ xs) (stayed k context fs c rest h)

pub children-stay : (k : ControlFacts) (ts : List Formula) (cs : ContextTable) (context : Context) (fs : Formulas) (c : ℕ) (choices : List Alternative) (xs : List Child) → false ≡ has_inside k c
    → AreChildren ts cs xs (map (in_context context) (case_lists k fs c choices)) → AreChildren ts cs xs (case_lists_in k context fs c choices)
children-stay k ts cs context fs c choices xs h r = subst (AreChildren ts cs xs) (stayed k context fs c choices h) r

children-moved : (k : ControlFacts) (ts : List Formula) (cs ds : ContextTable) (context : Context) (fs : Formulas) (c : ℕ) (choices : List Alternative) (ns : List ℕ) (xs : List Child) → true ≡ has_inside k c
    → All (λ n. n < length ds) ns → map (context_at ds) ns ≡ map (entered context c) choices
    → All (IsChild ts cs) xs → map (child_of ts cs) xs ≡ map (in_context context) (case_lists k fs c choices)
    → AreChildren ts ds (moved ns xs) (case_lists_in k context fs c choices)
children-moved k ts cs ds context fs c [] [] [] h a e b g = record { there = All-nil (IsChild ts ds); same = refl }
children-moved k ts cs ds context fs c [] [] (x ∷ xs) h a e b g = absurd (cc)
children-moved k ts cs ds context fs c [] (n ∷ ns) xs h a e b g = absurd (cc)
children-moved k ts cs ds context fs c (choice ∷ rest) [] xs h a e b g = absurd (cc)
children-moved k ts cs ds context fs c (choice ∷ rest) (n ∷ ns) [] h a e b g = absurd (cc)
children-moved k ts cs ds context fs c (choice ∷ rest) (n ∷ ns) (x ∷ xs) h a e b g =
    let here : context_at ds n ≡ entered context c choice = cc in
    let others : map (context_at ds) ns ≡ map (entered context c) rest = cc in
    let one : child_of ts cs x ≡ in_context context (under (by_case_alone k c choice) fs) = cc in
    let all : map (child_of ts cs) xs ≡ map (in_context context) (case_lists k fs c rest) = cc in
    let list : conjuncts_at ts x.list ≡ under (by_case_alone k c choice) fs = ap (λ (y : InContext). y.conjuncts) one in
    let is : context_with k context c choice ≡ entered context c choice = ap (λ b. if b then slice_set context c (Some choice) else context) (sym h) in
    let more = children-moved k ts cs ds context fs c rest ns xs h (All-tail (λ m. m < length ds) n ns a) others (All-tail (IsChild ts cs) x xs b) all in
    let y : Child = record { context = n; list = x.list } in
    record {
      there = All-cons (IsChild ts ds) y (moved ns xs) (All-head (λ m. m < length ds) n ns a, (All-head (IsChild ts cs) x xs b).1) more.there;
      same =
          ap (λ z. in_context z (conjuncts_at ts x.list) ∷ map (child_of ts ds) (moved ns xs)) (here ∙ sym is)
          ∙ ap (λ z. in_context (context_with k context c choice) z ∷ map (child_of ts ds) (moved ns xs)) list
          ∙ ap (λ zs. in_context (context_with k context c choice) (under (by_case_alone k c choice) fs) ∷ zs) more.same;
    }

pub children-enter : (k : ControlFacts) (ts : List Formula) (cs ds : ContextTable) (context : Context) (fs : Formulas) (c : ℕ) (choices : List Alternative) (ns : List ℕ) (xs : List Child) → true ≡ has_inside k c
    → AreContexts ds ns (map (entered context c) choices) → AreChildren ts cs xs (map (in_context context) (case_lists k fs c choices)) → AreChildren ts ds (moved ns xs) (case_lists_in k context fs c choices)
children-enter k ts cs ds context fs c choices ns xs h a b = children-moved k ts cs ds context fs c choices ns xs h a.there a.same b.there b.same

-- ---- a component is decided
pub by-case : (k : Setting) (ts : List Formula) (cs : ContextTable) (context : Context) (fs : Formulas) (c : ℕ) (children : Vec Child Global) → may_case k.control context c ≡ true
    → AreChildren ts cs children.items (case_lists_in k.control context fs c (component_at k.control.components c).alternatives) → IsMove ts cs (Divides (Case c) children) (by_component_in k context fs (Some c))
by-case k ts cs context fs c children may l = (
  l.there,
  ap (λ b. if b then plain.divides (by_case c) (case_lists_in k.control context fs c (component_at k.control.components c).alternatives) else plain.fails (plain.left_open None)) may ∙ ap (plain.divides (by_case c)) (sym l.same),
)

-- a variable is decided
pub by-truth : (k : Setting) (ds : List Choice) (ts : List Formula) (cs : ContextTable) (context : Context) (fs : Formulas) (v : ℕ) (ns : List ℕ) (children : Vec Child Global) → has_truth (slice_get k.variables v) ≡ true → AreDecisions ds ns (truth_decisions k v)
    → AreChildren ts cs children.items (map (in_context context) (under_each ds fs ns)) → IsMove ts cs (Divides (Truth v) children) (moved_in context (by_variable k fs (Some v)))
by-truth k ds ts cs context fs v ns children there h l = (
  l.there,
  ap (λ b. moved_in context (if b then plain.divides (by_truth v) (truth_lists k fs v) else plain.fails (plain.left_open None))) there
      ∙ ap (plain.divides (by_truth v)) (sym (l.same ∙ ap (map (in_context context)) (truths-same k ds fs v ns h))),
)

-- a disjunction is split
pub by-disjunct : (k : Setting) (ts : List Formula) (cs : ContextTable) (context : ℕ) (fs : Formulas) (v : Vec ℕ Global) (children : Vec Child Global) (o : Option (List Formulas)) → context < length cs → AreSplit ts (Some v) o
    → children.items ≡ map (child_at context) v.items → IsMove ts cs (Divides (Split 0) children) (moved_in (context_at cs context) (by_disjunction k fs o))
by-disjunct k ts cs context fs v children None c a e = absurd a
by-disjunct k ts cs context fs v children (Some rest) c a e =
    let all = none-false ts cs context v.items rest c a in
    (subst (All (IsChild ts cs)) (sym e) all.there, ap (plain.divides (by_split 0)) (sym (ap (map (child_of ts cs)) e ∙ all.same)))

-- a leaf is a move
leaf-move : (ts : List Formula) (cs : ContextTable) (context : Context) (m : Move) (x : plain.Move (Option Formulas)) → IsLeaf m x → IsMove ts cs m (moved_in context x)
leaf-move ts cs context (Closes picks) x h = ap (moved_in context) h
leaf-move ts cs context (Divides step children) x h = absurd h
leaf-move ts cs context Fails x h = tt

-- there is no disjunction
pub no-disjunct : (k : Setting) (ts : List Formula) (cs : ContextTable) (context : Context) (fs gs : Formulas) (m : Move) (o : Option (List Formulas)) → AreSplit ts None o → gs ≡ fs → IsLeaf m (by_disjunction k gs None)
    → IsMove ts cs m (moved_in context (by_disjunction k fs o))
no-disjunct k ts cs context fs gs m None a e h = leaf-move ts cs context m (by_disjunction k fs None) (subst (λ xs. IsLeaf m (by_disjunction k xs None)) e h)
no-disjunct k ts cs context fs gs m (Some rest) a e h = absurd a

-- the lines have a contradiction
pub by-picks : (k : Setting) (fs : Formulas) (lines : List Line) (n : ℕ) (picks : Vec (ℕ × ℤ) Global) → lines ≡ lines_of fs → n ≡ length k.variables → ending lines n ≡ contradiction picks.items
    → IsLeaf (Closes picks) (by_disjunction k fs None)
by-picks k fs lines n picks l e h = ap by_ending (ap (λ ls. ending ls (length k.variables)) (sym l) ∙ ap (ending lines) (sym e) ∙ h)

-- what stands at a place
pub kept-there : {A : Type 0} (xs ys : List A) (k : ℕ) (x : A) → ys ≡ xs → true ≡ ltb k (length ys) → x ≡ get_or ys k x → slice_get xs k ≡ Some x
kept-there xs ys k x e at is =
    let within : k < length ys = grind (arith, nat_tests) in
    subst (λ zs. slice_get zs k ≡ Some x) e (slice_get_read ys (length ys) k x refl within is)
