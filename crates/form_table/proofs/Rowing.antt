-- The rows of the conjuncts of a list, and lists with a row more.
use Rattle.std.proofs.Common.{◌≡◌, ℕ, ◌+◌, ◌<◌, ◌≤◌, Bool, true, false, List, [], ◌∷◌, ◌++◌, length, drop, get_or, refl, ap, subst, ◌∙◌, sym, append_assoc, Option, Some, None}
use Rattle.std.specs.Option.{option_map}
use Rattle.std.proofs.lemmas.List.{append-nil, drop_all, drop_more}
use Rattle.st_linear.specs.Linear.{Linear}
use Rattle.st_linear.specs.Simple.{negated}
use Rattle.st_form.specs.Formula.{Formula, Formulas, truth_value, row, equal, bool_var, at, negation, every, some}
use Rattle.st_form.specs.Simple.{TakesPart, append, signed}
use Rattle.farkas_check.specs.Problem.{rows_with, rows_of}
use Rattle.form_table.specs.Table.{AreThere, Extends, Is, formula, listed}
use Rattle.form_table.specs.Nodes.{IsNode, Kept, formulas_in, parts_at, line}
use Rattle.form_table.specs.Lists.{IsListed}
use Rattle.form_table.specs.declared.nodes.Node.TheVariants.{Truth, Row, Equal, BoolVar, At, And, Or}
use Rattle.form_table.proofs.Making.{listed-later}
use Rattle.farkas_check.proofs.Loops.{rows_with-front}

no-row : (out : List Linear) (f g : Formula) → f ≡ g → rows_with g [] ≡ [] → out ≡ out ++ rows_with f []
no-row out f g e h = sym (append-nil out) ∙ ap (λ l. out ++ l) (sym h) ∙ ap (λ x. out ++ rows_with x []) (sym e)

signed-bool-row : (plus : Bool) (v : ℕ) → rows_with (signed plus (bool_var v)) [] ≡ []
signed-bool-row true v = refl
signed-bool-row false v = refl

signed-at-row : (plus : Bool) (l : ℕ) → rows_with (signed plus (at l)) [] ≡ []
signed-at-row true l = refl
signed-at-row false l = refl

pub row-truth : (t : Kept) (n : ℕ) (b : Bool) (out : List Linear) → IsNode t n (Truth b) → out ≡ out ++ rows_with (formula (formulas_in t) n) []
row-truth t n b out h = no-row out _ (truth_value b) h.same refl

pub row-bool : (t : Kept) (n v : ℕ) (plus : Bool) (out : List Linear) → IsNode t n (BoolVar v plus) → out ≡ out ++ rows_with (formula (formulas_in t) n) []
row-bool t n v plus out h = no-row out _ (signed plus (bool_var v)) h.same (signed-bool-row plus v)

pub row-at : (t : Kept) (n l : ℕ) (plus : Bool) (out : List Linear) → IsNode t n (At l plus) → out ≡ out ++ rows_with (formula (formulas_in t) n) []
row-at t n l plus out h = no-row out _ (signed plus (at l)) h.same (signed-at-row plus l)

pub row-and : (t : Kept) (n a b : ℕ) (out : List Linear) → IsNode t n (And a b) → out ≡ out ++ rows_with (formula (formulas_in t) n) []
row-and t n a b out h = no-row out _ (every (listed (formulas_in t) (parts_at t.parts a b))) h.same refl

pub row-or : (t : Kept) (n a b : ℕ) (out : List Linear) → IsNode t n (Or a b) → out ≡ out ++ rows_with (formula (formulas_in t) n) []
row-or t n a b out h = no-row out _ (some (listed (formulas_in t) (parts_at t.parts a b))) h.same refl

pub row-row : (t : Kept) (n l : ℕ) (out new : List Linear) (f : Linear) → IsNode t n (Row l) → f ≡ line t.lines l → new ≡ out ++ f ∷ []
    → new ≡ out ++ rows_with (formula (formulas_in t) n) []
row-row t n l out new f h e k = k ∙ ap (λ g. out ++ rows_with (row g) []) e ∙ ap (λ x. out ++ rows_with x []) (sym h.same)

pub row-equal : (t : Kept) (n l : ℕ) (out new : List Linear) (f : Linear) → IsNode t n (Equal l) → f ≡ line t.lines l → new ≡ out ++ f ∷ negated f ∷ []
    → new ≡ out ++ rows_with (formula (formulas_in t) n) []
row-equal t n l out new f h e k = k ∙ ap (λ g. out ++ rows_with (equal g) []) e ∙ ap (λ x. out ++ rows_with x []) (sym h.same)

pub ruleset rowing = (row-truth, row-bool, row-at, row-and, row-or, row-row, row-equal)

pub rows-next : (ts : List Formula) (ns : List ℕ) (i : ℕ) (out m whole : List Linear) → i < length ns → m ≡ out ++ rows_with (formula ts (get_or ns i 0)) []
    → out ++ rows_of (listed ts (drop i ns)) ≡ whole → m ++ rows_of (listed ts (drop (i + 1) ns)) ≡ whole
rows-next ts ns i out m whole l e h =
    ap (λ x. x ++ rows_of (listed ts (drop (i + 1) ns))) e
    ∙ append_assoc out (rows_with (formula ts (get_or ns i 0)) []) (rows_of (listed ts (drop (i + 1) ns)))
    ∙ ap (λ x. out ++ x) (sym (rows_with-front (formula ts (get_or ns i 0)) (rows_of (listed ts (drop (i + 1) ns)))))
    ∙ sym (ap (λ x. out ++ rows_of (listed ts x)) (drop_more ns i 0 l)) ∙ h

pub rows-end : (ts : List Formula) (ns : List ℕ) (i : ℕ) (out whole : List Linear) → length ns ≤ i → out ++ rows_of (listed ts (drop i ns)) ≡ whole → out ≡ whole
rows-end ts ns i out whole l h = sym (append-nil out) ∙ sym (ap (λ x. out ++ rows_of (listed ts x)) (drop_all i ns l)) ∙ h

-- ---- a list with a row more
row-goes : (goes : Bool) (old new : Formulas) (o : Option Formulas) → TakesPart goes old new o → goes ≡ true → Some new ≡ option_map (append old) o
row-goes goes old new None h e = let no' : false ≡ true = sym h ∙ e in absurd (cc)
row-goes goes old new (Some gs) h e = ap Some h.1

row-stops : (goes : Bool) (old new : Formulas) (o : Option Formulas) → TakesPart goes old new o → goes ≡ false → None ≡ option_map (append old) o
row-stops goes old new None h e = refl
row-stops goes old new (Some gs) h e = let no' : true ≡ false = sym h.0 ∙ e in absurd (cc)

pub row-joins : (ts us vs : List Formula) (fs : Formulas) (parts new : List ℕ) (goes : Bool) (f g : Formula) (n : ℕ) (all : Formula → Option Formulas) → Extends ts us → AreThere ts parts → listed ts parts ≡ fs → f ≡ g
    → TakesPart goes (listed us parts) (listed us new) (all f) → goes ≡ true → Is vs n (every (listed us new)) → IsListed vs (Some n) (option_map (append fs) (all g))
row-joins ts us vs fs parts new goes f g n all x h e k t s m =
    let same : listed us parts ≡ fs = listed-later ts us parts x h ∙ e in
    let whole : Some (listed us new) ≡ option_map (append fs) (all g) = row-goes goes (listed us parts) (listed us new) (all f) t s ∙ ap (λ gs. option_map (append gs) (all f)) same ∙ ap (λ y. option_map (append fs) (all y)) k in
    subst (IsListed vs (Some n)) whole m

pub row-ends : (ts us vs : List Formula) (fs : Formulas) (parts new : List ℕ) (goes : Bool) (f g : Formula) (all : Formula → Option Formulas) → Extends ts us → AreThere ts parts → listed ts parts ≡ fs → f ≡ g
    → TakesPart goes (listed us parts) (listed us new) (all f) → goes ≡ false → IsListed vs None (option_map (append fs) (all g))
row-ends ts us vs fs parts new goes f g all x h e k t s =
    let same : listed us parts ≡ fs = listed-later ts us parts x h ∙ e in
    let whole : None ≡ option_map (append fs) (all g) = row-stops goes (listed us parts) (listed us new) (all f) t s ∙ ap (λ gs. option_map (append gs) (all f)) same ∙ ap (λ y. option_map (append fs) (all y)) k in
    subst (IsListed vs None) whole tt
