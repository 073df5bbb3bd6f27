-- A node that is as wanted has the wanted formula.
use Rattle.std.proofs.Common.{◌≡◌, ℕ, ◌<◌, Bool, true, false, List, length, ap, ◌∙◌, sym}
use Rattle.st_linear.specs.Linear.{Linear}
use Rattle.st_form.specs.Formula.{every, some, row, equal, bool_var, at}
use Rattle.st_form.specs.Simple.{signed}
use Rattle.form_table.specs.Table.{listed, joined, Is}
use Rattle.form_table.specs.Nodes.{IsNode, Kept, formulas_in, parts_at, line}
use Rattle.form_table.specs.declared.nodes.Node.TheVariants.{Row, Equal, BoolVar, At, And, Or}

pub is-and : (t : Kept) (n a b : ℕ) (all : Bool) (ks : List ℕ) → n < length (formulas_in t) → IsNode t n (And a b) → all ≡ true → parts_at t.parts a b ≡ ks
    → Is (formulas_in t) n (joined all (listed (formulas_in t) ks))
is-and t n a b true ks l h e k = (l, h.same ∙ ap (λ x. every (listed (formulas_in t) x)) k)
is-and t n a b false ks l h e k = absurd (cc)

pub is-or : (t : Kept) (n a b : ℕ) (all : Bool) (ks : List ℕ) → n < length (formulas_in t) → IsNode t n (Or a b) → all ≡ false → parts_at t.parts a b ≡ ks
    → Is (formulas_in t) n (joined all (listed (formulas_in t) ks))
is-or t n a b false ks l h e k = (l, h.same ∙ ap (λ x. some (listed (formulas_in t) x)) k)
is-or t n a b true ks l h e k = absurd (cc)

pub is-boolean : (t : Kept) (n v w : ℕ) (p q : Bool) → n < length (formulas_in t) → IsNode t n (BoolVar v p) → v ≡ w → p ≡ q → Is (formulas_in t) n (signed q (bool_var w))
is-boolean t n v w p q l h e k = (l, h.same ∙ ap (λ s. signed s (bool_var v)) k ∙ ap (λ x. signed q (bool_var x)) e)

pub is-located : (t : Kept) (n v w : ℕ) (p q : Bool) → n < length (formulas_in t) → IsNode t n (At v p) → v ≡ w → p ≡ q → Is (formulas_in t) n (signed q (at w))
is-located t n v w p q l h e k = (l, h.same ∙ ap (λ s. signed s (at v)) k ∙ ap (λ x. signed q (at x)) e)

pub is-row : (t : Kept) (n l : ℕ) (f g : Linear) → n < length (formulas_in t) → IsNode t n (Row l) → f ≡ line t.lines l → f ≡ g → Is (formulas_in t) n (row g)
is-row t n l f g a h e k = (a, h.same ∙ ap row (sym e ∙ k))

pub is-equal : (t : Kept) (n l : ℕ) (f g : Linear) → n < length (formulas_in t) → IsNode t n (Equal l) → f ≡ line t.lines l → f ≡ g → Is (formulas_in t) n (equal g)
is-equal t n l f g a h e k = (a, h.same ∙ ap equal (sym e ∙ k))

pub ruleset hinting = (is-and, is-or, is-boolean, is-located, is-row, is-equal)
