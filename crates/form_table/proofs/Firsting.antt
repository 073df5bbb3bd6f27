-- The first location and the first boolean variable of nodes and of parts.
use Rattle.std.proofs.Common.{◌≡◌, ℕ, ◌+◌, ◌<◌, ◌≤◌, Bool, true, false, List, length, drop, get_or, refl, ap, ◌∙◌, sym, Option, Some, None}
use Rattle.std.proofs.lemmas.List.{drop_all, drop_more}
use Rattle.st_form.specs.Formula.{Formula, bool_var, at}
use Rattle.st_form.specs.Simple.{signed}
use Rattle.search_laws.specs.Moves.{or_else, first_place, first_place_of, first_truth, first_truth_of}
use Rattle.form_table.specs.Table.{formula, listed}
use Rattle.form_table.specs.Nodes.{IsNode, Kept, formulas_in, parts_at}
use Rattle.form_table.specs.declared.nodes.Node.TheVariants.{Truth, Row, Equal, BoolVar, At, And, Or}

place-signed-bool : (plus : Bool) (v : ℕ) → first_place (signed plus (bool_var v)) ≡ None
place-signed-bool true v = refl
place-signed-bool false v = refl

place-signed-at : (plus : Bool) (l : ℕ) → first_place (signed plus (at l)) ≡ Some l
place-signed-at true l = refl
place-signed-at false l = refl

truth-signed-bool : (plus : Bool) (v : ℕ) → first_truth (signed plus (bool_var v)) ≡ Some v
truth-signed-bool true v = refl
truth-signed-bool false v = refl

truth-signed-at : (plus : Bool) (l : ℕ) → first_truth (signed plus (at l)) ≡ None
truth-signed-at true l = refl
truth-signed-at false l = refl

pub place-truth : (t : Kept) (n : ℕ) (b : Bool) → IsNode t n (Truth b) → None ≡ first_place (formula (formulas_in t) n)
place-truth t n b h = sym (ap first_place h.same)

pub place-row : (t : Kept) (n l : ℕ) → IsNode t n (Row l) → None ≡ first_place (formula (formulas_in t) n)
place-row t n l h = sym (ap first_place h.same)

pub place-equal : (t : Kept) (n l : ℕ) → IsNode t n (Equal l) → None ≡ first_place (formula (formulas_in t) n)
place-equal t n l h = sym (ap first_place h.same)

pub place-bool : (t : Kept) (n v : ℕ) (plus : Bool) → IsNode t n (BoolVar v plus) → None ≡ first_place (formula (formulas_in t) n)
place-bool t n v plus h = sym (ap first_place h.same ∙ place-signed-bool plus v)

pub place-at : (t : Kept) (n l : ℕ) (plus : Bool) → IsNode t n (At l plus) → Some l ≡ first_place (formula (formulas_in t) n)
place-at t n l plus h = sym (ap first_place h.same ∙ place-signed-at plus l)

pub place-and : (t : Kept) (n a b : ℕ) (o : Option ℕ) → IsNode t n (And a b) → o ≡ first_place_of (listed (formulas_in t) (parts_at t.parts a b)) → o ≡ first_place (formula (formulas_in t) n)
place-and t n a b o h e = e ∙ sym (ap first_place h.same)

pub place-or : (t : Kept) (n a b : ℕ) (o : Option ℕ) → IsNode t n (Or a b) → o ≡ first_place_of (listed (formulas_in t) (parts_at t.parts a b)) → o ≡ first_place (formula (formulas_in t) n)
place-or t n a b o h e = e ∙ sym (ap first_place h.same)

pub truth-truth : (t : Kept) (n : ℕ) (b : Bool) → IsNode t n (Truth b) → None ≡ first_truth (formula (formulas_in t) n)
truth-truth t n b h = sym (ap first_truth h.same)

pub truth-row : (t : Kept) (n l : ℕ) → IsNode t n (Row l) → None ≡ first_truth (formula (formulas_in t) n)
truth-row t n l h = sym (ap first_truth h.same)

pub truth-equal : (t : Kept) (n l : ℕ) → IsNode t n (Equal l) → None ≡ first_truth (formula (formulas_in t) n)
truth-equal t n l h = sym (ap first_truth h.same)

pub truth-bool : (t : Kept) (n v : ℕ) (plus : Bool) → IsNode t n (BoolVar v plus) → Some v ≡ first_truth (formula (formulas_in t) n)
truth-bool t n v plus h = sym (ap first_truth h.same ∙ truth-signed-bool plus v)

pub truth-at : (t : Kept) (n l : ℕ) (plus : Bool) → IsNode t n (At l plus) → None ≡ first_truth (formula (formulas_in t) n)
truth-at t n l plus h = sym (ap first_truth h.same ∙ truth-signed-at plus l)

pub truth-and : (t : Kept) (n a b : ℕ) (o : Option ℕ) → IsNode t n (And a b) → o ≡ first_truth_of (listed (formulas_in t) (parts_at t.parts a b)) → o ≡ first_truth (formula (formulas_in t) n)
truth-and t n a b o h e = e ∙ sym (ap first_truth h.same)

pub truth-or : (t : Kept) (n a b : ℕ) (o : Option ℕ) → IsNode t n (Or a b) → o ≡ first_truth_of (listed (formulas_in t) (parts_at t.parts a b)) → o ≡ first_truth (formula (formulas_in t) n)
truth-or t n a b o h e = e ∙ sym (ap first_truth h.same)

-- ---- the loops over parts
place-next : (ts : List Formula) (ns : List ℕ) (i : ℕ) → i < length ns
    → first_place_of (listed ts (drop i ns)) ≡ or_else (first_place (formula ts (get_or ns i 0))) (first_place_of (listed ts (drop (i + 1) ns)))
place-next ts ns i l = ap (λ x. first_place_of (listed ts x)) (drop_more ns i 0 l)

pub place-past : (ts : List Formula) (ns : List ℕ) (i : ℕ) (whole : Option ℕ) → i < length ns → None ≡ first_place (formula ts (get_or ns i 0))
    → first_place_of (listed ts (drop i ns)) ≡ whole → first_place_of (listed ts (drop (i + 1) ns)) ≡ whole
place-past ts ns i whole l e h = ap (λ o. or_else o (first_place_of (listed ts (drop (i + 1) ns)))) e ∙ sym (place-next ts ns i l) ∙ h

pub place-here : (ts : List Formula) (ns : List ℕ) (i v : ℕ) (whole : Option ℕ) → i < length ns → Some v ≡ first_place (formula ts (get_or ns i 0))
    → first_place_of (listed ts (drop i ns)) ≡ whole → Some v ≡ whole
place-here ts ns i v whole l e h = ap (λ o. or_else o (first_place_of (listed ts (drop (i + 1) ns)))) e ∙ sym (place-next ts ns i l) ∙ h

pub place-ends : (ts : List Formula) (ns : List ℕ) (i : ℕ) (whole : Option ℕ) → length ns ≤ i → first_place_of (listed ts (drop i ns)) ≡ whole → None ≡ whole
place-ends ts ns i whole l h = sym (ap (λ x. first_place_of (listed ts x)) (drop_all i ns l)) ∙ h

truth-next : (ts : List Formula) (ns : List ℕ) (i : ℕ) → i < length ns
    → first_truth_of (listed ts (drop i ns)) ≡ or_else (first_truth (formula ts (get_or ns i 0))) (first_truth_of (listed ts (drop (i + 1) ns)))
truth-next ts ns i l = ap (λ x. first_truth_of (listed ts x)) (drop_more ns i 0 l)

pub truth-past : (ts : List Formula) (ns : List ℕ) (i : ℕ) (whole : Option ℕ) → i < length ns → None ≡ first_truth (formula ts (get_or ns i 0))
    → first_truth_of (listed ts (drop i ns)) ≡ whole → first_truth_of (listed ts (drop (i + 1) ns)) ≡ whole
truth-past ts ns i whole l e h = ap (λ o. or_else o (first_truth_of (listed ts (drop (i + 1) ns)))) e ∙ sym (truth-next ts ns i l) ∙ h

pub truth-here : (ts : List Formula) (ns : List ℕ) (i v : ℕ) (whole : Option ℕ) → i < length ns → Some v ≡ first_truth (formula ts (get_or ns i 0))
    → first_truth_of (listed ts (drop i ns)) ≡ whole → Some v ≡ whole
truth-here ts ns i v whole l e h = ap (λ o. or_else o (first_truth_of (listed ts (drop (i + 1) ns)))) e ∙ sym (truth-next ts ns i l) ∙ h

pub truth-ends : (ts : List Formula) (ns : List ℕ) (i : ℕ) (whole : Option ℕ) → length ns ≤ i → first_truth_of (listed ts (drop i ns)) ≡ whole → None ≡ whole
truth-ends ts ns i whole l h = sym (ap (λ x. first_truth_of (listed ts x)) (drop_all i ns l)) ∙ h

pub ruleset firsting = (place-truth, place-row, place-equal, place-bool, place-at, place-and, place-or, truth-truth, truth-row, truth-equal, truth-bool, truth-at, truth-and, truth-or)
