-- A search that finds no certificate ends at the problem that its path leads to. A step can always be taken, since an
-- undecided location has a component that may be decided, and an undecided boolean variable may be.
use Rattle.std.proofs.Common.{◌≡◌, ℕ, zero, suc, ◌+◌, ◌<◌, Bool, true, false, List, [], ◌∷◌, length, replicate, refl, ap, ◌∙◌, sym, subst, Option, Some, None, ◌⊎◌, inl, inr, arith}
use Rattle.std.specs.Prelude.{◌&&◌, nat_lt, if◌then◌else◌, slice_get, slice_index_or, slice_set, option_and_then}
use Rattle.std.specs.Option.{option_map}
use Rattle.std.proofs.lemmas.Bool.{and_from}
use Rattle.std.proofs.lemmas.Bool.Decides.{nat_tests}
use Rattle.std.proofs.lemmas.List.{length-replicate, length-set}
use Rattle.std.proofs.lemmas.Option.{slice_get_within}
use Rattle.st_form.specs.Formula.{Formula, Formulas, every, negation, none, more}
use Rattle.st_form.specs.Simple.{nothing, simple, simples}
use Rattle.st_form.specs.declared.variables.Variable.{Variable}
use Rattle.control_states.specs.declared.alternative.Alternative.{Alternative}
use Rattle.control_states.specs.Control.{ControlFacts, ComponentFacts, component_at}
use Rattle.control_states.specs.Place.{cut_by, cut_off, place_by, place_in, place}
use Rattle.st_certificate.specs.Tree.{Step, by_case, by_truth, by_split, by_cut, Tree}
use Rattle.farkas_check.specs.Problem.{Setting, Problem, decided_by, posed, is_free, known_active, may_case, has_truth, may_truth, case_problems, truth_problem, split_from, split_problems, divided_into, division, lines_of, first_problem}
use Rattle.farkas_check.specs.Valid.{There}
use Rattle.elimination_laws.specs.Stages.{Ending, through, contradiction, too_wide, ending}
use Rattle.elimination_laws.specs.declared.stage.WideStage.{WideStage}
use Rattle.elimination_laws.specs.declared.stage.WideStage.TheVariants as stage
use Rattle.search_laws.specs.States.{State}
use Rattle.search_laws.specs.Walks.{Failure, left_open, given_up, Move, closes, divides, fails, PathStep, Found, found, stopped, FoundAll, all, broke, onto_trees, then_rest, walk_all, divided_by, walk_node, walk, searched}
use Rattle.search_laws.specs.Moves.{first_place_of, first_truth_of, component_for, divided, by_component, by_ending, by_disjunction, by_variable, by_place, by_conjuncts, move_of, open_at, wide_at, failed_at, verdict_of}
use Rattle.search_laws.specs.Forms.{IsInOrder}
use Rattle.search_laws.specs.Ends.{HasOwner, IsTruth, IsTyped, AllLiteralsOf, problem_at, IsAtLines, IsOpen, IsWide, EndsThere, IfLiterals}
use Rattle.search_laws.proofs.Walking.{AllOf}
use Rattle.search_laws.specs.Steady.{IsNoCut}
use Rattle.search_laws.proofs.Describing.{IsDivided}
use Rattle.search_laws.proofs.Finding.{is-divided}
use Rattle.search_laws.proofs.Literals.{all-weaker, places-fact, truths-fact, parts-literals, gathered-literals, Undecided, simple-literals, simples-literals, EachLiterals, split-literals}
use Rattle.search_laws.proofs.Choosing.{MayDecide, chosen}
use Rattle.search_laws.proofs.Refuting.{HasKnown, division-known, first-known, none-listed, both-of}
use Rattle.basic_laws.proofs.Truths.{if-true}

-- ---- problems on which the search can go on
abbrev OpenPlace : Setting → List (Option Alternative) → ℕ → Type 0
OpenPlace k cases = Undecided (HasOwner k.control) (place k.control cases)

abbrev OpenTruth : Setting → List (Option Bool) → ℕ → Type 0
OpenTruth k truths = Undecided (IsTruth k.variables) (λ v. slice_index_or truths v None)

-- the tables have all components and variables, and the literals are those of the program and undecided
pub record HasLiterals (k : Setting) (p : Problem) : Type 0 where
  pub cases : length p.cases ≡ length k.control.components
  pub truths : length p.truths ≡ length k.variables
  pub literals : IfLiterals (OpenPlace k p.cases) (OpenTruth k p.truths) p.conjuncts

abbrev IsReady : Setting → Problem → Type 0
IsReady k p = HasKnown k p × HasLiterals k p

literals-of : (L T : ℕ → Type 0) (o : Option Formulas) (fs : Formulas) → o ≡ Some fs → IfLiterals L T o → AllLiteralsOf L T fs
literals-of L T o fs e h = rw e at h

posed-literals : (k : Setting) (cases : List (Option Alternative)) (truths : List (Option Bool)) (fs : Formulas) → length cases ≡ length k.control.components → length truths ≡ length k.variables
    → AllLiteralsOf (HasOwner k.control) (IsTruth k.variables) fs → HasLiterals k (posed k.control cases truths fs)
posed-literals k cases truths fs c t h = record {
  cases = c;
  truths = t;
  literals = gathered-literals (OpenPlace k cases) (OpenTruth k truths) true (simples (decided_by k.control cases truths) fs true) (simples-literals (HasOwner k.control) (IsTruth k.variables) (decided_by k.control cases truths) fs true h);
}

cases-literals : (k : Setting) (p : Problem) (fs : Formulas) (c : ℕ) → HasLiterals k p → AllLiteralsOf (HasOwner k.control) (IsTruth k.variables) fs → (choices : List Alternative) → AllOf (HasLiterals k) (case_problems k.control p fs c choices)
cases-literals k p fs c g h [] = tt
cases-literals k p fs c g h (a ∷ rest) = (posed-literals k (slice_set p.cases c (Some a)) p.truths fs (length-set p.cases c (Some a) ∙ g.cases) g.truths h, cases-literals k p fs c g h rest)

truth-literals : (k : Setting) (p : Problem) (fs : Formulas) (v : ℕ) (b : Bool) → HasLiterals k p → AllLiteralsOf (HasOwner k.control) (IsTruth k.variables) fs → HasLiterals k (truth_problem k.control p fs v b)
truth-literals k p fs v b g h = posed-literals k p.cases (slice_set p.truths v (Some b)) fs g.cases (length-set p.truths v (Some b) ∙ g.truths) h

splits-literals : (k : Setting) (p : Problem) → HasLiterals k p → (ls : List Formulas) → EachLiterals (OpenPlace k p.cases) (OpenTruth k p.truths) ls → AllOf (HasLiterals k) (split_problems p ls)
splits-literals k p g [] h = tt
splits-literals k p g (fs ∷ rest) h = (record { cases = g.cases; truths = g.truths; literals = h.0 }, splits-literals k p g rest h.1)

division-literals : (k : Setting) (p : Problem) (fs : Formulas) (t : Step) (ps : List Problem) → IsNoCut t → HasLiterals k p → p.conjuncts ≡ Some fs → divided_into k p fs t ≡ Some ps → AllOf (HasLiterals k) ps
division-literals k p fs t ps n g i e = by_step t n e
  where
    open' : AllLiteralsOf (OpenPlace k p.cases) (OpenTruth k p.truths) fs
    open' = literals-of (OpenPlace k p.cases) (OpenTruth k p.truths) p.conjuncts fs i g.literals

    typed : AllLiteralsOf (HasOwner k.control) (IsTruth k.variables) fs
    typed = all-weaker (OpenPlace k p.cases) (HasOwner k.control) (OpenTruth k p.truths) (IsTruth k.variables) (λ l h. h.0) (λ v h. h.0) fs open'

    by_may : (c : ℕ) (b : Bool) → (if b then Some (case_problems k.control p fs c (component_at k.control.components c).alternatives) else None) ≡ Some ps → AllOf (HasLiterals k) ps
    by_may c true e =
        let same : case_problems k.control p fs c (component_at k.control.components c).alternatives ≡ ps = cc in
        subst (λ (x : List Problem). AllOf (HasLiterals k) x) same (cases-literals k p fs c g typed (component_at k.control.components c).alternatives)
    by_may c false e = absurd (cc)

    by_value : (v : ℕ) (b : Bool) → (if b then Some (truth_problem k.control p fs v true ∷ truth_problem k.control p fs v false ∷ []) else None) ≡ Some ps → AllOf (HasLiterals k) ps
    by_value v true e =
        let same : truth_problem k.control p fs v true ∷ truth_problem k.control p fs v false ∷ [] ≡ ps = cc in
        subst (λ (x : List Problem). AllOf (HasLiterals k) x) same (truth-literals k p fs v true g typed, (truth-literals k p fs v false g typed, tt))
    by_value v false e = absurd (cc)

    by_lists : (j : ℕ) (o : Option (List Formulas)) → split_from none j fs ≡ o → option_map (split_problems p) o ≡ Some ps → AllOf (HasLiterals k) ps
    by_lists j None d e = absurd (cc)
    by_lists j (Some ls) d e =
        let same : split_problems p ls ≡ ps = cc in
        let each = split-literals (OpenPlace k p.cases) (OpenTruth k p.truths) fs none j tt open' in
        subst (λ (x : List Problem). AllOf (HasLiterals k) x) same (splits-literals k p g ls (rw d at each))

    by_step : (t : Step) → IsNoCut t → divided_into k p fs t ≡ Some ps → AllOf (HasLiterals k) ps
    by_step (by_case c) n e = by_may c (may_case k.control p.cases c) e
    by_step (by_truth v) n e = by_value v (may_truth k.variables p.truths v) e
    by_step (by_split j) n e = by_lists j (split_from none j fs) refl e
    by_step (by_cut f) n e = absurd n

-- ---- the problem of a condition
cut_off-nothing : (parts : List ComponentFacts) (n m c : ℕ) → cut_off parts (replicate n None) m c ≡ false
cut_off-nothing parts n zero c = refl
cut_off-nothing parts n (suc m) c = by_way (λ d. cut_off-nothing parts n m d) (component_at parts c).around
  where
    by_way : ((d : ℕ) → cut_off parts (replicate n None) m d ≡ false) → (w : Option (ℕ × ℕ)) → cut_by (replicate n None) (cut_off parts (replicate n None) m) w ≡ false
    by_way r None = refl
    by_way r (Some w) = let e = none-listed n w.0 None refl in rw e (r w.0)

place-nothing : (k : ControlFacts) (n l : ℕ) → place k (replicate n None) l ≡ None
place-nothing k n l = by_owner (slice_get k.owners l)
  where
    by_owner : (o : Option ℕ) → option_and_then (place_in k.components (replicate n None) l) o ≡ None
    by_owner None = refl
    by_owner (Some c) =
        ap (place_by l (cut_off k.components (replicate n None) (length k.components) c)) (none-listed n c None refl)
        ∙ ap (λ (b : Bool). place_by l b None) (cut_off-nothing k.components n (length k.components) c)

truth-nothing : (n v : ℕ) (o : Option Bool) → o ≡ None → slice_index_or (replicate n o) v o ≡ o
truth-nothing zero v o h = refl
truth-nothing (suc n) zero o h = refl
truth-nothing (suc n) (suc v) o h = truth-nothing n v o h

if-weaker : (L M T U : ℕ → Type 0) → ((l : ℕ) → L l → M l) → ((v : ℕ) → T v → U v) → (o : Option Formulas) → IfLiterals L T o → IfLiterals M U o
if-weaker L M T U g k None h = tt
if-weaker L M T U g k (Some fs) h = all-weaker L M T U g k fs h

first-literals : (k : Setting) (given shown : Formula) → IsTyped k given → IsTyped k shown → HasLiterals k (first_problem k given shown)
first-literals k given shown g h =
    let whole : Formula = every (more given (more (negation shown) none)) in
    let n : ℕ = length k.control.components in
    let m : ℕ = length k.variables in
    let one = simple-literals (HasOwner k.control) (IsTruth k.variables) nothing whole true (g, (h, tt)) in
    let two = parts-literals (Undecided (HasOwner k.control) nothing.places) (Undecided (IsTruth k.variables) nothing.truths) true (simple nothing whole true) one in
    record {
      cases = length-replicate n None;
      truths = length-replicate m None;
      literals = if-weaker (Undecided (HasOwner k.control) nothing.places) (OpenPlace k (replicate n None)) (Undecided (IsTruth k.variables) nothing.truths) (OpenTruth k (replicate m None))
          (λ l h. (h.0, place-nothing k.control n l)) (λ v h. (h.0, truth-nothing m v None refl)) (first_problem k given shown).conjuncts two;
    }

-- ---- each move of a problem that is ready
abbrev EndsSo : Setting → Problem → Failure → Type 0
EndsSo k p (left_open state) = IsOpen k state p
EndsSo k p (given_up w) = IsWide k w p

abbrev IfEnds : Setting → Problem → Move Problem → Type 0
IfEnds k p (closes t) = Unit {0}
IfEnds k p (divides s ps) = Unit {0}
IfEnds k p (fails e) = EndsSo k p e

divided-ends : (k : Setting) (p : Problem) (s : Step) (o : Option (List Problem)) (ps : List Problem) → o ≡ Some ps → IfEnds k p (divided s o)
divided-ends k p s o ps e = subst (λ (o : Option (List Problem)). IfEnds k p (divided s o)) (sym e) tt

is-free : {A : Type 0} (xs : List (Option A)) (c : ℕ) → c < length xs → slice_index_or xs c None ≡ None → is_free (slice_get xs c) ≡ true
is-free [] c l h = absurd (omega (arith, l))
is-free {A} (x ∷ xs) zero l h = by_entry x h
  where
    by_entry : (x : Option A) → x ≡ None → is_free (Some x) ≡ true
    by_entry None h = refl
    by_entry (Some a) h = absurd (cc)
is-free (x ∷ xs) (suc c) l h = is-free xs c (omega (arith, l)) h

less-test : (m n : ℕ) → m < n → nat_lt m n ≡ true
less-test m n h = grind (arith, nat_tests)

case-there : (k : Setting) (p : Problem) → HasLiterals k p → (fs : Formulas) (c : ℕ) → MayDecide k.control p.cases c → divided_into k p fs (by_case c) ≡ Some (case_problems k.control p fs c (component_at k.control.components c).alternatives)
case-there k p g fs c d =
    let l : c < length p.cases = omega (arith, d.there, g.cases) in
    let t = and_from (nat_lt c (length k.control.components)) (is_free (slice_get p.cases c) && known_active p.cases (component_at k.control.components c).around) (less-test c (length k.control.components) d.there)
    (and_from (is_free (slice_get p.cases c)) (known_active p.cases (component_at k.control.components c).around) (is-free p.cases c l d.undecided) d.active) in
    if-true (may_case k.control p.cases c) (case_problems k.control p fs c (component_at k.control.components c).alternatives) t

truth-within : (vs : List Variable) (v : ℕ) → has_truth (slice_get vs v) ≡ true → v < length vs
truth-within vs v h = by_entry (slice_get vs v) refl h
  where
    by_entry : (o : Option Variable) → slice_get vs v ≡ o → has_truth o ≡ true → v < length vs
    by_entry None e t = absurd (cc)
    by_entry (Some x) e t = slice_get_within vs v x e

truth-there : (k : Setting) (p : Problem) → HasLiterals k p → (fs : Formulas) (v : ℕ) → OpenTruth k p.truths v → divided_into k p fs (by_truth v) ≡ Some (truth_problem k.control p fs v true ∷ truth_problem k.control p fs v false ∷ [])
truth-there k p g fs v d =
    let w = truth-within k.variables v d.0 in
    let l : v < length p.truths = omega (arith, w, g.truths) in
    if-true (may_truth k.variables p.truths v) (truth_problem k.control p fs v true ∷ truth_problem k.control p fs v false ∷ []) (and_from (has_truth (slice_get k.variables v)) (is_free (slice_get p.truths v)) d.0 (is-free p.truths v l d.1))

ending-ends : (k : Setting) (p : Problem) (fs : Formulas) → IsAtLines k p fs → (e : Ending) → ending (lines_of fs) (length k.variables) ≡ e → IfEnds k p (by_ending k p (lines_of fs) e)
ending-ends k p fs a (contradiction picks) h = tt
ending-ends k p fs a (through us) h = (fs, us, a, h, refl)
ending-ends k p fs a (too_wide s) h = (fs, s, a, h, refl)

disjunction-ends : (k : Setting) (p : Problem) (fs : Formulas) → p.conjuncts ≡ Some fs → first_place_of fs ≡ None → first_truth_of fs ≡ None → (o : Option (List Problem)) → divided_into k p fs (by_split 0) ≡ o → IfEnds k p (by_disjunction k p fs o)
disjunction-ends k p fs i l v (Some ps) h = tt
disjunction-ends k p fs i l v None h = ending-ends k p fs (record { are = i; no_place = l; no_truth = v; no_disjunction = h }) (ending (lines_of fs) (length k.variables)) refl

variable-ends : (k : Setting) (p : Problem) (fs : Formulas) → HasLiterals k p → p.conjuncts ≡ Some fs → AllLiteralsOf (OpenPlace k p.cases) (OpenTruth k p.truths) fs → first_place_of fs ≡ None → (o : Option ℕ) → first_truth_of fs ≡ o → IfEnds k p (by_variable k p fs o)
variable-ends k p fs g i t l (Some v) h =
    divided-ends k p (by_truth v) (divided_into k p fs (by_truth v)) _ (truth-there k p g fs v (truths-fact (OpenPlace k p.cases) (OpenTruth k p.truths) fs v t h))
variable-ends k p fs g i t l None h = disjunction-ends k p fs i l h (divided_into k p fs (by_split 0)) refl

component-ends : (k : Setting) (p : Problem) (fs : Formulas) → HasLiterals k p → (o : Option ℕ) (c : ℕ) → o ≡ Some c → MayDecide k.control p.cases c → IfEnds k p (by_component k p fs o)
component-ends k p fs g o c e d =
    subst (λ (o : Option ℕ). IfEnds k p (by_component k p fs o)) (sym e) (divided-ends k p (by_case c) (divided_into k p fs (by_case c)) _ (case-there k p g fs c d))

place-ends : (k : Setting) → IsInOrder k.control → (p : Problem) (fs : Formulas) → IsReady k p → p.conjuncts ≡ Some fs → AllLiteralsOf (OpenPlace k p.cases) (OpenTruth k p.truths) fs → (o : Option ℕ) → first_place_of fs ≡ o → IfEnds k p (by_place k p fs o)
place-ends k o p fs g i t (Some l) h =
    let f = places-fact (OpenPlace k p.cases) (OpenTruth k p.truths) fs l t h in
    let c = chosen k.control p.cases o g.0 l f.0.0 f.0.1 f.0.2 f.1 in
    component-ends k p fs g.1 (component_for k.control p.cases l) c.0 c.1 c.2
place-ends k o p fs g i t None h = variable-ends k p fs g.1 i t h (first_truth_of fs) refl

move-ends : (k : Setting) → IsInOrder k.control → (p : Problem) → IsReady k p → IfEnds k p (move_of k p)
move-ends k o p g = by_problem p.conjuncts refl
  where
    by_problem : (q : Option Formulas) → p.conjuncts ≡ q → IfEnds k p (by_conjuncts k p q)
    by_problem None e = tt
    by_problem (Some fs) e = place-ends k o p fs g e (literals-of (OpenPlace k p.cases) (OpenTruth k p.truths) p.conjuncts fs e g.1.literals) (first_place_of fs) refl

-- ---- the walk
abbrev LedTo : Setting → Failure → Option Problem → Type 0
LedTo k e o = (e ≡ given_up stage.Tree) ⊎ There o (λ q. EndsSo k q e)

abbrev Led : Setting → Problem → Found → Type 0
Led k p (found t n) = Unit {0}
Led k p (stopped path e) = LedTo k e (problem_at k p path)

-- the j-th from the i-th on
abbrev LedAll : Setting → List Problem → ℕ → FoundAll → Type 0
LedAll k ps i (all ts n) = Unit {0}
LedAll k ps i (broke j path e) = (b : ℕ) × (j ≡ i + b) × LedTo k e (option_and_then (λ q. problem_at k q path) (slice_get ps b))

onto-led : (k : Setting) (p : Problem) (ps : List Problem) (i : ℕ) (t : Tree) (a : FoundAll) → LedAll k ps (i + 1) a → LedAll k (p ∷ ps) i (onto_trees t a)
onto-led k p ps i t (all ts n) h = tt
onto-led k p ps i t (broke j path e) h = (suc h.0, omega (arith, h.1), h.2)

rest-led : (k : Setting) (p : Problem) (ps : List Problem) (i : ℕ) (f : Found) (rest : ℕ → FoundAll) → Led k p f → ((n : ℕ) → LedAll k ps (i + 1) (rest n)) → LedAll k (p ∷ ps) i (then_rest i f rest)
rest-led k p ps i (found t n) rest h r = onto-led k p ps i t (rest n) (r n)
rest-led k p ps i (stopped path e) rest h r = (zero, omega arith, h)

all-led : (k : Setting) (rec : Problem → ℕ → Found) → ((p : Problem) (n : ℕ) → IsReady k p → Led k p (rec p n)) → (ps : List Problem) (i n : ℕ) → AllOf (IsReady k) ps → LedAll k ps i (walk_all rec ps i n)
all-led k rec f [] i n h = tt
all-led k rec f (p ∷ ps) i n h = rest-led k p ps i (rec p n) (walk_all rec ps (i + 1)) (f p n h.0) (λ m. all-led k rec f ps (i + 1) m h.1)

divided-led : (k : Setting) (p : Problem) (s : Step) (ps : List Problem) → division k p s ≡ Some ps → (a : FoundAll) → LedAll k ps 0 a → Led k p (divided_by s a)
divided-led k p s ps d (all ts n) h = tt
divided-led k p s ps d (broke j path e) h =
    let same : h.0 ≡ j = omega (arith, h.1) in
    let there = subst (λ (b : ℕ). LedTo k e (option_and_then (λ q. problem_at k q path) (slice_get ps b))) same h.2 in
    subst (λ (o : Option (List Problem)). LedTo k e (option_and_then (λ ps. option_and_then (λ q. problem_at k q path) (slice_get ps j)) o)) (sym d) there

ready-parts : (k : Setting) (p : Problem) (s : Step) (ps : List Problem) → IsReady k p → IsDivided k p s ps → AllOf (IsReady k) ps
ready-parts k p s ps g d = both-of (HasKnown k) (HasLiterals k) ps (division-known k p d.conjuncts s ps d.step g.0 d.division) (division-literals k p d.conjuncts s ps d.step g.1 d.are d.division)

node-led : (k : Setting) → IsInOrder k.control → (rec : Problem → ℕ → Found) → ((p : Problem) (n : ℕ) → IsReady k p → Led k p (rec p n)) → (p : Problem) → IsReady k p → (m : Move Problem) → move_of k p ≡ m → (n : ℕ) → Led k p (walk_node rec m n)
node-led k o rec f p g (closes t) h n = tt
node-led k o rec f p g (divides s ps) h n =
    let d = is-divided k p s ps h in
    let whole : division k p s ≡ Some ps = ap (option_and_then (λ fs. divided_into k p fs s)) d.are ∙ d.division in
    divided-led k p s ps whole (walk_all rec ps 0 n) (all-led k rec f ps 0 n (ready-parts k p s ps g d))
node-led k o rec f p g (fails e) h n = inr (subst (IfEnds k p) h (move-ends k o p g))

by_room : (k : Setting) (p : Problem) (b : Bool) (f : Found) → Led k p f → Led k p (if b then f else stopped [] (given_up stage.Tree))
by_room k p true f h = h
by_room k p false f h = inl refl

walk-led : (k : Setting) → IsInOrder k.control → (levels : ℕ) (p : Problem) (n : ℕ) → IsReady k p → Led k p (walk (move_of k) levels p n)
walk-led k o zero p n g = inl refl
walk-led k o (suc d) p n g =
    by_room k p (nat_lt n 100000) (walk_node (walk (move_of k) d) (move_of k p) (n + 1)) (node-led k o (walk (move_of k) d) (λ q m h. walk-led k o d q m h) p g (move_of k p) refl (n + 1))

-- ---- verdicts
open-is : (path qath : List PathStep) (e : Failure) (state : Option State) → failed_at path e ≡ open_at qath state → (path ≡ qath) × (e ≡ left_open state)
open-is path qath (left_open o) state h = let same : o ≡ state = cc in (cc, ap left_open same)
open-is path qath (given_up s) state h = absurd (cc)

wide-is : (path qath : List PathStep) (e : Failure) (w : WideStage) → failed_at path e ≡ wide_at qath w → (path ≡ qath) × (e ≡ given_up w)
wide-is path qath (left_open o) w h = absurd (cc)
wide-is path qath (given_up s) w h = let same : s ≡ w = cc in (cc, ap given_up same)

no-tree : (state : Option State) → left_open state ≡ given_up stage.Tree → ⊥
no-tree state h = absurd (cc)

open-led : (k : Setting) (p : Problem) (f : Found) → Led k p f → (path : List PathStep) (state : Option State) → verdict_of f ≡ open_at path state → There (problem_at k p path) (IsOpen k state)
open-led k p (found t n) h path state e = absurd (cc)
open-led k p (stopped qath c) h path state e =
    let r = open-is qath path c state e in
    let led : LedTo k (left_open state) (problem_at k p path) = subst (λ (c : Failure). LedTo k c (problem_at k p path)) r.1 (subst (λ (x : List PathStep). LedTo k c (problem_at k p x)) r.0 h) in
    by_side led
  where
    by_side : LedTo k (left_open state) (problem_at k p path) → There (problem_at k p path) (IsOpen k state)
    by_side (inl i) = absurd (no-tree state i)
    by_side (inr i) = i

wide-led : (k : Setting) (p : Problem) (f : Found) → Led k p f → (path : List PathStep) (w : WideStage) → verdict_of f ≡ wide_at path w → (w ≡ stage.Tree) ⊎ There (problem_at k p path) (IsWide k w)
wide-led k p (found t n) h path w e = absurd (cc)
wide-led k p (stopped qath c) h path w e =
    let r = wide-is qath path c w e in
    let led : LedTo k (given_up w) (problem_at k p path) = subst (λ (c : Failure). LedTo k c (problem_at k p path)) r.1 (subst (λ (x : List PathStep). LedTo k c (problem_at k p x)) r.0 h) in
    by_side led
  where
    by_side : LedTo k (given_up w) (problem_at k p path) → (w ≡ stage.Tree) ⊎ There (problem_at k p path) (IsWide k w)
    by_side (inl i) = inl (let same : w ≡ stage.Tree = cc in same)
    by_side (inr i) = inr i

pub ends-there : (k : Setting) (given shown : Formula) → IsInOrder k.control → IsTyped k given → IsTyped k shown → EndsThere k given shown
ends-there k given shown o g h =
    let p : Problem = first_problem k given shown in
    let led = walk-led k o 400 p 0 (first-known k given shown, first-literals k given shown g h) in
    record {
      open_path = λ path state e. open-led k p (searched (move_of k) p) led path state e;
      wide_path = λ path w e. wide-led k p (searched (move_of k) p) led path w e;
    }
