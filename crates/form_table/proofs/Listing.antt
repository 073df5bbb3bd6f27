-- The conjuncts of a list, and their lines.
use Rattle.std.proofs.Common.{◌≡◌, ℕ, ◌+◌, ◌<◌, ◌≤◌, Bool, true, false, [], ◌∷◌, length, refl, ap, ◌∙◌, sym, All}
use Rattle.st_linear.specs.Linear.{Linear}
use Rattle.st_form.specs.Formula.{Formula, Formulas, truth_value, row, equal, bool_var, at, every, some, none}
use Rattle.st_form.specs.Simple.{opened, signed}
use Rattle.farkas_check.specs.Problem.{lines_with}
use Rattle.form_table.specs.Table.{formula, listed}
use Rattle.form_table.specs.Nodes.{IsNode, Kept, formulas_in, parts_at, line}
use Rattle.form_table.specs.Lists.{IsList, conjuncts_of}
use Rattle.form_table.specs.declared.nodes.Node.TheVariants.{Truth, Row, Equal, BoolVar, At, And, Or}

-- a list is a conjunction and nothing else
clash-signed-bool : (plus : Bool) (v : ℕ) (gs : Formulas) → signed plus (bool_var v) ≡ every gs → ⊥
clash-signed-bool true v gs e = absurd (cc)
clash-signed-bool false v gs e = absurd (cc)

clash-signed-at : (plus : Bool) (l : ℕ) (gs : Formulas) → signed plus (at l) ≡ every gs → ⊥
clash-signed-at true l gs e = absurd (cc)
clash-signed-at false l gs e = absurd (cc)

pub list-truth : (t : Kept) (n : ℕ) (b : Bool) → IsNode t n (Truth b) → IsList (formulas_in t) n → none ≡ conjuncts_of (formulas_in t) n
list-truth t n b h k = let e : truth_value b ≡ every (conjuncts_of (formulas_in t) n) = sym h.same ∙ k.1 in absurd (cc)

pub list-row : (t : Kept) (n l : ℕ) → IsNode t n (Row l) → IsList (formulas_in t) n → none ≡ conjuncts_of (formulas_in t) n
list-row t n l h k = let e : row (line t.lines l) ≡ every (conjuncts_of (formulas_in t) n) = sym h.same ∙ k.1 in absurd (cc)

pub list-equal : (t : Kept) (n l : ℕ) → IsNode t n (Equal l) → IsList (formulas_in t) n → none ≡ conjuncts_of (formulas_in t) n
list-equal t n l h k = let e : equal (line t.lines l) ≡ every (conjuncts_of (formulas_in t) n) = sym h.same ∙ k.1 in absurd (cc)

pub list-bool : (t : Kept) (n v : ℕ) (plus : Bool) → IsNode t n (BoolVar v plus) → IsList (formulas_in t) n → none ≡ conjuncts_of (formulas_in t) n
list-bool t n v plus h k = absurd (clash-signed-bool plus v _ (sym h.same ∙ k.1))

pub list-at : (t : Kept) (n l : ℕ) (plus : Bool) → IsNode t n (At l plus) → IsList (formulas_in t) n → none ≡ conjuncts_of (formulas_in t) n
list-at t n l plus h k = absurd (clash-signed-at plus l _ (sym h.same ∙ k.1))

pub list-or : (t : Kept) (n a b : ℕ) → IsNode t n (Or a b) → IsList (formulas_in t) n → none ≡ conjuncts_of (formulas_in t) n
list-or t n a b h k = let e : some (listed (formulas_in t) (parts_at t.parts a b)) ≡ every (conjuncts_of (formulas_in t) n) = sym h.same ∙ k.1 in absurd (cc)

pub list-and : (t : Kept) (n a b : ℕ) → IsNode t n (And a b) → listed (formulas_in t) (parts_at t.parts a b) ≡ conjuncts_of (formulas_in t) n
list-and t n a b h = sym (ap opened h.same)

pub list-below : (t : Kept) (n a b : ℕ) → IsNode t n (And a b) → All (λ k. k < n) (parts_at t.parts a b)
list-below t n a b h = h.formed.below

pub list-within : (t : Kept) (n a b : ℕ) → IsNode t n (And a b) → a + b ≤ length t.parts
list-within t n a b h = h.formed.within

pub ruleset listing = (list-truth, list-row, list-equal, list-bool, list-at, list-or, list-and, list-below, list-within)

-- ---- lines
no-line : (f g : Formula) → f ≡ g → lines_with g [] ≡ [] → [] ≡ lines_with f []
no-line f g e h = sym h ∙ ap (λ x. lines_with x []) (sym e)

signed-bool-line : (plus : Bool) (v : ℕ) → lines_with (signed plus (bool_var v)) [] ≡ []
signed-bool-line true v = refl
signed-bool-line false v = refl

signed-at-line : (plus : Bool) (l : ℕ) → lines_with (signed plus (at l)) [] ≡ []
signed-at-line true l = refl
signed-at-line false l = refl

pub line-truth : (t : Kept) (n : ℕ) (b : Bool) → IsNode t n (Truth b) → [] ≡ lines_with (formula (formulas_in t) n) []
line-truth t n b h = no-line _ (truth_value b) h.same refl

pub line-bool : (t : Kept) (n v : ℕ) (plus : Bool) → IsNode t n (BoolVar v plus) → [] ≡ lines_with (formula (formulas_in t) n) []
line-bool t n v plus h = no-line _ (signed plus (bool_var v)) h.same (signed-bool-line plus v)

pub line-at : (t : Kept) (n l : ℕ) (plus : Bool) → IsNode t n (At l plus) → [] ≡ lines_with (formula (formulas_in t) n) []
line-at t n l plus h = no-line _ (signed plus (at l)) h.same (signed-at-line plus l)

pub line-and : (t : Kept) (n a b : ℕ) → IsNode t n (And a b) → [] ≡ lines_with (formula (formulas_in t) n) []
line-and t n a b h = no-line _ (every (listed (formulas_in t) (parts_at t.parts a b))) h.same refl

pub line-or : (t : Kept) (n a b : ℕ) → IsNode t n (Or a b) → [] ≡ lines_with (formula (formulas_in t) n) []
line-or t n a b h = no-line _ (some (listed (formulas_in t) (parts_at t.parts a b))) h.same refl

pub line-row : (t : Kept) (n l : ℕ) (f : Linear) → IsNode t n (Row l) → f ≡ line t.lines l → record { form = f; equal = false } ∷ [] ≡ lines_with (formula (formulas_in t) n) []
line-row t n l f h e = ap (λ g. lines_with (row g) []) e ∙ ap (λ x. lines_with x []) (sym h.same)

pub line-equal : (t : Kept) (n l : ℕ) (f : Linear) → IsNode t n (Equal l) → f ≡ line t.lines l → record { form = f; equal = true } ∷ [] ≡ lines_with (formula (formulas_in t) n) []
line-equal t n l f h e = ap (λ g. lines_with (equal g) []) e ∙ ap (λ x. lines_with x []) (sym h.same)

pub ruleset lining = (line-truth, line-bool, line-at, line-and, line-or, line-row, line-equal)
