-- Conjunctions and disjunctions under decisions.
use Rattle.std.proofs.Common.{◌≡◌, ℕ, ◌+◌, ◌<◌, ◌≤◌, Bool, true, false, List, ◌++◌, length, drop, get_or, refl, ap, ◌∙◌, sym, All, Option, Some, None, arith, zero, suc, [], ◌∷◌, subst}
use Rattle.std.specs.Prelude.{option_and_then}
use Rattle.std.specs.Option.{option_map}
use Rattle.std.proofs.lemmas.List.{drop_all, drop_more}
use Rattle.st_form.specs.Formula.{Formula, Formulas, truth_value, none, more}
use Rattle.st_form.specs.Simple.{append, parts, gathered, joined_parts, simple, simples, TakesPart, Decided}
use Rattle.st_form.proofs.Simples.{gathered-goes, gathered-stops, append-none}
use Rattle.form_table.specs.Table.{formula, listed, joined, Is, Extends, AreThere}
use Rattle.form_table.specs.Nodes.{IsNode, Kept, formulas_in, parts_at}
use Rattle.form_table.specs.Contents.{Choice, decision_at}
use Rattle.form_table.specs.Lists.{IsListed}
use Rattle.form_table.specs.Memory.{IsEntry, Lasts}
use Rattle.form_table.specs.declared.memos.Entry.{Entry}
use Rattle.form_table.specs.declared.nodes.Node.TheVariants.{And, Or}
use Rattle.form_table.proofs.Making.{listed-later}
use Rattle.form_table.proofs.Taking.{now, takes-put}

simple-joined : (d : Decided) (all : Bool) (fs : Formulas) → simple d (joined all fs) true ≡ joined_parts all (gathered all (simples d fs true))
simple-joined d true fs = refl
simple-joined d false fs = refl

-- the parts under a decision, joined
pub joined-under : (d : Decided) (all : Bool) (ts vs : List Formula) (ks parts : List ℕ) (n k : ℕ) (whole : Option Formulas) → formula ts n ≡ joined all (listed ts ks) → parts ≡ ks
    → whole ≡ gathered all (simples d (listed ts parts) true) → Is vs k (joined_parts all whole) → Is vs k (simple d (formula ts n) true)
joined-under d all ts vs ks parts n k whole e p g h =
    (h.0, h.1 ∙ ap (joined_parts all) g ∙ ap (λ l. joined_parts all (gathered all (simples d (listed ts l) true))) p ∙ sym (simple-joined d all (listed ts ks)) ∙ ap (λ f. simple d f true) (sym e))

pub entry-is : (ts vs : List Formula) (cs : List Choice) (d n k : ℕ) (x : Entry) → x.decision ≡ d → x.number ≡ n → x.simple ≡ k → Extends ts vs → n < length ts
    → Is vs k (simple (decision_at cs d) (formula ts n) true) → IsEntry vs cs x
entry-is ts vs cs d n k x dd nn kk e l h =
    rw (dd, nn, kk) (omega (arith, l, e.longer), (h.0, h.1 ∙ ap (λ f. simple (decision_at cs d) f true) (sym (e.same n l))))

pub same-and : (t : Kept) (n a b : ℕ) → IsNode t n (And a b) → formula (formulas_in t) n ≡ joined true (listed (formulas_in t) (parts_at t.parts a b))
same-and t n a b h = h.same

pub same-or : (t : Kept) (n a b : ℕ) → IsNode t n (Or a b) → formula (formulas_in t) n ≡ joined false (listed (formulas_in t) (parts_at t.parts a b))
same-or t n a b h = h.same

pub below-and : (t : Kept) (n a b : ℕ) → IsNode t n (And a b) → All (λ k. k < n) (parts_at t.parts a b)
below-and t n a b h = h.formed.below

pub below-or : (t : Kept) (n a b : ℕ) → IsNode t n (Or a b) → All (λ k. k < n) (parts_at t.parts a b)
below-or t n a b h = h.formed.below

-- ---- the loop over parts
pub stops-none : (all goes : Bool) (ts us : List Formula) (out new : List ℕ) (n : ℕ) (left rest : Formulas) (whole : Option Formulas)
    → Extends ts us → AreThere ts out → left ≡ more (formula us n) rest → option_map (append (listed ts out)) (gathered all left) ≡ whole
    → TakesPart goes (listed us out) (listed us new) (parts all (formula us n)) → goes ≡ false → None ≡ whole
stops-none all goes ts us out new n left rest whole x h m k takes g =
    sym (gathered-stops all goes (listed us out) (listed us new) (formula us n) rest whole takes g (now all ts us out n left rest whole x h m k))

now-under : (all : Bool) (ts us : List Formula) (out : List ℕ) (f : Formula) (left rest : Formulas) (whole : Option Formulas)
    → Extends ts us → AreThere ts out → left ≡ more f rest → option_map (append (listed ts out)) (gathered all left) ≡ whole
    → option_map (append (listed us out)) (gathered all (more f rest)) ≡ whole
now-under all ts us out f left rest whole x h m k =
    ap (λ o. option_map (append o) (gathered all (more f rest))) (listed-later ts us out x h)
    ∙ ap (λ g. option_map (append (listed ts out)) (gathered all g)) (sym m) ∙ k

-- the same, where what the part is under a decision is told
pub goes-under : (all goes : Bool) (ts us : List Formula) (out new : List ℕ) (f : Formula) (left rest : Formulas) (whole : Option Formulas)
    → Extends ts us → AreThere ts out → left ≡ more f rest → option_map (append (listed ts out)) (gathered all left) ≡ whole
    → TakesPart goes (listed us out) (listed us new) (parts all f) → goes ≡ true → option_map (append (listed us new)) (gathered all rest) ≡ whole
goes-under all goes ts us out new f left rest whole x h m k takes g =
    gathered-goes all goes (listed us out) (listed us new) f rest whole takes g (now-under all ts us out f left rest whole x h m k)

pub stops-under : (all goes : Bool) (ts us : List Formula) (out new : List ℕ) (f : Formula) (left rest : Formulas) (whole : Option Formulas)
    → Extends ts us → AreThere ts out → left ≡ more f rest → option_map (append (listed ts out)) (gathered all left) ≡ whole
    → TakesPart goes (listed us out) (listed us new) (parts all f) → goes ≡ false → None ≡ whole
stops-under all goes ts us out new f left rest whole x h m k takes g =
    sym (gathered-stops all goes (listed us out) (listed us new) f rest whole takes g (now-under all ts us out f left rest whole x h m k))

pub takes-lasting : (ts : List Formula) (cs : List Choice) (d n : ℕ) (all : Bool) (old new : List ℕ) → all ≡ true → new ≡ old ++ n ∷ [] → Lasts ts cs d n
    → TakesPart true (listed ts old) (listed ts new) (parts all (simple (decision_at cs d) (formula ts n) true))
takes-lasting ts cs d n true old new a e h =
    let P : Formula → Type 0 = λ f. TakesPart true (listed ts old) (listed ts new) (parts true f) in
    subst P (sym h.same) (takes-put true ts old new n e h.single)
takes-lasting ts cs d n false old new a e h = absurd (cc)

pub is-now : (d : Decided) (ts us : List Formula) (n m : ℕ) → Extends ts us → n < length ts → Is us m (simple d (formula ts n) true) → Is us m (simple d (formula us n) true)
is-now d ts us n m e l h = (h.0, h.1 ∙ ap (λ f. simple d f true) (sym (e.same n l)))

pub takes-same : (all goes : Bool) (old new : Formulas) (f g : Formula) → f ≡ g → TakesPart goes old new (parts all f) → TakesPart goes old new (parts all g)
takes-same all goes old new f g e h = let P : Formula → Type 0 = λ x. TakesPart goes old new (parts all x) in subst P e h

pub ends-some : (all : Bool) (old left : Formulas) (whole : Option Formulas) → left ≡ none → option_map (append old) (gathered all left) ≡ whole → Some old ≡ whole
ends-some all old left whole e h = ap (λ x. Some x) (sym (append-none old)) ∙ ap (λ g. option_map (append old) (gathered all g)) (sym e) ∙ h

-- the same of parts that stay as they are
pub gather-goes : (all goes : Bool) (ts : List Formula) (ns : List ℕ) (i : ℕ) (out new : List ℕ) (whole : Option Formulas) → i < length ns
    → option_map (append (listed ts out)) (gathered all (listed ts (drop i ns))) ≡ whole → TakesPart goes (listed ts out) (listed ts new) (parts all (formula ts (get_or ns i 0))) → goes ≡ true
    → option_map (append (listed ts new)) (gathered all (listed ts (drop (i + 1) ns))) ≡ whole
gather-goes all goes ts ns i out new whole l h takes g =
    gathered-goes all goes (listed ts out) (listed ts new) (formula ts (get_or ns i 0)) (listed ts (drop (i + 1) ns)) whole takes g
    (sym (ap (λ x. option_map (append (listed ts out)) (gathered all (listed ts x))) (drop_more ns i 0 l)) ∙ h)

pub gather-stops : (all goes : Bool) (ts : List Formula) (ns : List ℕ) (i : ℕ) (out new : List ℕ) (whole : Option Formulas) → i < length ns
    → option_map (append (listed ts out)) (gathered all (listed ts (drop i ns))) ≡ whole → TakesPart goes (listed ts out) (listed ts new) (parts all (formula ts (get_or ns i 0))) → goes ≡ false → None ≡ whole
gather-stops all goes ts ns i out new whole l h takes g =
    sym (gathered-stops all goes (listed ts out) (listed ts new) (formula ts (get_or ns i 0)) (listed ts (drop (i + 1) ns)) whole takes g
    (sym (ap (λ x. option_map (append (listed ts out)) (gathered all (listed ts x))) (drop_more ns i 0 l)) ∙ h))

pub gather-ends : (all : Bool) (ts : List Formula) (ns : List ℕ) (i : ℕ) (out : List ℕ) (whole : Option Formulas) → length ns ≤ i
    → option_map (append (listed ts out)) (gathered all (listed ts (drop i ns))) ≡ whole → Some (listed ts out) ≡ whole
gather-ends all ts ns i out whole l h = ends-some all (listed ts out) (listed ts (drop i ns)) whole (ap (listed ts) (drop_all i ns l)) h

-- a list with a part that is false
and-none : (o : Option Formulas) → option_and_then (λ gs. option_map (append gs) None) o ≡ None
and-none None = refl
and-none (Some gs) = refl

pub refuted-at : (d : Decided) (ts : List Formula) (ns : List ℕ) (i : ℕ) → i < length ns → simple d (formula ts (get_or ns i 0)) true ≡ truth_value false → gathered true (simples d (listed ts ns) true) ≡ None
refuted-at d ts [] i l e = absurd (omega (arith, l))
refuted-at d ts (n ∷ ns) zero l e = ap (λ f. option_and_then (λ gs. option_map (append gs) (gathered true (simples d (listed ts ns) true))) (parts true f)) e
refuted-at d ts (n ∷ ns) (suc i) l e =
    ap (λ o. option_and_then (λ gs. option_map (append gs) o) (parts true (simple d (formula ts n) true))) (refuted-at d ts ns i (omega (arith, l)) e)
    ∙ and-none (parts true (simple d (formula ts n) true))

pub list-refuted : (d : Decided) (ts us : List Formula) (fs gs : Formulas) → fs ≡ gs → gathered true (simples d fs true) ≡ None → IsListed us None (gathered true (simples d gs true))
list-refuted d ts us fs gs e h = subst (IsListed us None) (sym h ∙ ap (λ x. gathered true (simples d x true)) e) tt

pub ruleset restricting = (same-and, same-or, below-and, below-or)
