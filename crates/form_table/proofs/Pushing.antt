-- What a push of a node, of a line or of parts does to a table.
use Rattle.std.proofs.Common.{◌≡◌, ℕ, ◌<◌, Bool, true, false, List, [], ◌∷◌, ◌++◌, length, take, drop, get_or, ap, subst, ◌∙◌, sym, All, arith}
use Rattle.std.proofs.lemmas.List.{get_or_at, get_or_default, length-append, append-nil, drop-append-le, take_all, drop_all}
use Rattle.std.proofs.lemmas.List.Elements.{All-weaker}
use Rattle.st_linear.specs.Linear.{Linear}
use Rattle.st_form.specs.Formula.{Formula, truth_value, every, some}
use Rattle.form_table.specs.Table.{listed, joined, Is, Extends, AreThere}
use Rattle.form_table.specs.Nodes.{line, formed, IsFormed, AreFormed, ArePartsBelow, parts_at, Kept, formulas_in, IsSound, IsNode}
use Rattle.form_table.specs.declared.nodes.Node.{Node}
use Rattle.form_table.proofs.Making.{extends-refl, extends-append, is-later, forms-append, are-formed-push, are-formed-wider, forms-wider, table-length, is-node}

pub record Pushed (t u : Kept) (number : ℕ) (n : Node) : Type 0 where
  pub sound : IsSound u
  pub extends : Extends (formulas_in t) (formulas_in u)
  pub made : Is (formulas_in u) number (formed t.parts t.lines (formulas_in t) n)

sound-later : (t u : Kept) → IsSound t → Extends (formulas_in t) (formulas_in u) → AreFormed u.parts u.lines 0 u.nodes → IsSound u
sound-later t u s e f = record { formed = f; zero = is-later (formulas_in t) (formulas_in u) 0 _ e s.zero; one = is-later (formulas_in t) (formulas_in u) 1 _ e s.one }

push-node : (t : Kept) (number : ℕ) (n : Node) → IsSound t → number ≡ length t.nodes → IsFormed t.parts t.lines (length t.nodes) n
    → Pushed t (record { nodes = t.nodes ++ n ∷ []; parts = t.parts; lines = t.lines }) number n
push-node t number n s m f =
    let u : Kept = record { nodes = t.nodes ++ n ∷ []; parts = t.parts; lines = t.lines } in
    let x : Formula = formed t.parts t.lines (formulas_in t) n in
    let e : formulas_in t ++ x ∷ [] ≡ formulas_in u = sym (forms-append t.parts t.lines [] t.nodes (n ∷ [])) in
    let P : List Formula → Type 0 = λ us. Extends (formulas_in t) us in
    let Q : List Formula → Type 0 = λ us. Is us number x in
    let extends : Extends (formulas_in t) (formulas_in u) = subst P e (extends-append (formulas_in t) (x ∷ [])) in
    let l : length (formulas_in t) ≡ number = table-length t ∙ sym m in
    record {
      sound = sound-later t u s extends (are-formed-push t.parts t.lines 0 (length t.nodes) t.nodes n (omega arith) s.formed f);
      extends = extends;
      made = subst Q e (omega (arith, l, length-append (formulas_in t) (x ∷ [])), get_or_at (formulas_in t) x [] _ number l);
    }

pub pushed : (s t : Kept) (ns : List Node) (number : ℕ) (n : Node) → s ≡ t → IsSound s → number ≡ length s.nodes → IsFormed t.parts t.lines (length t.nodes) n
    → ns ≡ s.nodes ++ n ∷ [] → Pushed t (record { nodes = ns; parts = s.parts; lines = s.lines }) number n
pushed s t ns number n e o m f a =
    let L : List Node → Kept = λ x. record { nodes = x; parts = s.parts; lines = s.lines } in
    let P : List Node → Type 0 = λ x. Pushed s (L x) number n in
    let Q : Kept → Type 0 = λ w. Pushed w (L ns) number n in
    let F : Kept → Type 0 = λ w. IsFormed w.parts w.lines (length w.nodes) n in
    subst Q e (subst P (sym a) (push-node s number n o m (subst F (sym e) f)))

pub record Widened (t u : Kept) : Type 0 where
  pub sound : IsSound u
  pub same : formulas_in u ≡ formulas_in t

-- more parts and lines change no formula
widen : (s : Kept) (k : List ℕ) (l : List Linear) → IsSound s → Widened s (record { nodes = s.nodes; parts = s.parts ++ k; lines = s.lines ++ l })
widen s k l o =
    let v : Kept = record { nodes = s.nodes; parts = s.parts ++ k; lines = s.lines ++ l } in
    let same : formulas_in v ≡ formulas_in s = forms-wider s.parts k s.lines l [] 0 s.nodes o.formed in
    let E : List Formula → Type 0 = λ us. Extends (formulas_in s) us in
    let x : Extends (formulas_in s) (formulas_in v) = subst E (sym same) (extends-refl (formulas_in s)) in
    record { sound = sound-later s v o x (are-formed-wider s.parts k s.lines l 0 s.nodes o.formed); same = same }

pub lined : (s t : Kept) (ls l : List Linear) → s ≡ t → IsSound s → ls ≡ s.lines ++ l → Widened t (record { nodes = s.nodes; parts = s.parts; lines = ls })
lined s t ls l e o a =
    let P : List ℕ → Type 0 = λ ks. Widened s (record { nodes = s.nodes; parts = ks; lines = s.lines ++ l }) in
    let Q : List Linear → Type 0 = λ x. Widened s (record { nodes = s.nodes; parts = s.parts; lines = x }) in
    let R : Kept → Type 0 = λ w. Widened w (record { nodes = s.nodes; parts = s.parts; lines = ls }) in
    subst R e (subst Q (sym a) (subst P (append-nil s.parts) (widen s [] l o)))

pub parted : (s t : Kept) (ks k : List ℕ) → s ≡ t → IsSound s → ks ≡ s.parts ++ k → Widened t (record { nodes = s.nodes; parts = ks; lines = s.lines })
parted s t ks k e o a =
    let P : List Linear → Type 0 = λ ls. Widened s (record { nodes = s.nodes; parts = s.parts ++ k; lines = ls }) in
    let Q : List ℕ → Type 0 = λ x. Widened s (record { nodes = s.nodes; parts = x; lines = s.lines }) in
    let R : Kept → Type 0 = λ w. Widened w (record { nodes = s.nodes; parts = ks; lines = s.lines }) in
    subst R e (subst Q (sym a) (subst P (append-nil s.lines) (widen s k [] o)))

-- the numbers that were just put behind others
pub put-parts : (ks old k : List ℕ) (from count : ℕ) → ks ≡ old ++ k → from ≡ length old → count ≡ length k → parts_at ks from count ≡ k
put-parts ks old k from count a m n =
    ap (λ x. take count (drop from x)) a ∙ ap (λ i. take count (drop i (old ++ k))) m
    ∙ ap (take count) (drop-append-le (length old) old k (omega arith) ∙ ap (λ x. x ++ k) (drop_all (length old) old (omega arith)))
    ∙ take_all count k (omega (arith, n))

pub put-below : (s t : Kept) (ks k : List ℕ) (from count : ℕ) → s ≡ t → AreThere (formulas_in t) k → ks ≡ s.parts ++ k → from ≡ length s.parts → count ≡ length k
    → ArePartsBelow ks (length s.nodes) from count
put-below s t ks k from count e h a m n =
    let P : List ℕ → Type 0 = λ x. All (λ i. i < length s.nodes) x in
    let l : length s.nodes ≡ length (formulas_in t) = sym (table-length s) ∙ ap (λ w. length (formulas_in w)) e in
    record {
      within = omega (arith, m, n, ap length a, length-append s.parts k);
      below = subst P (sym (put-parts ks s.parts k from count a m n)) (All-weaker (λ i. i < length (formulas_in t)) (λ i. i < length s.nodes) (λ i g. omega (arith, g, l)) k h);
    }

pub extends-from : (ts us vs : List Formula) → us ≡ ts → Extends us vs → Extends ts vs
extends-from ts us vs e h = let P : List Formula → Type 0 = λ x. Extends x vs in subst P e h

pub number-within : (s t : Kept) (n : ℕ) → s ≡ t → n < length (formulas_in t) → n < length s.nodes
number-within s t n e h = omega (arith, h, table-length s, ap (λ w. length (formulas_in w)) e)

pub size-is : (s t : Kept) (n : ℕ) → s ≡ t → n ≡ length s.nodes → n ≡ length (formulas_in t)
size-is s t n e h = h ∙ sym (table-length s) ∙ ap (λ w. length (formulas_in w)) e

pub line-within : (s t : Kept) (n : ℕ) → s ≡ t → n < length t.lines → n < length s.lines
line-within s t n e h = omega (arith, h, ap (λ w. length w.lines) e)

pub line-is : (s t : Kept) (n : ℕ) (f d : Linear) → s ≡ t → n < length s.lines → f ≡ get_or s.lines n d → f ≡ line t.lines n
line-is s t n f d e l h = h ∙ get_or_default s.lines n d _ l ∙ ap (λ w. line w.lines n) e

pub number-there : (s t : Kept) (n : ℕ) → s ≡ t → n < length s.nodes → n < length (formulas_in t)
number-there s t n e h = omega (arith, h, table-length s, ap (λ w. length (formulas_in w)) e)

pub node-is : (s t : Kept) (j : ℕ) (n d : Node) → s ≡ t → IsSound s → j < length (formulas_in t) → n ≡ get_or s.nodes j d → IsNode t j n
node-is s t j n d e o h a =
    let P : Kept → Type 0 = λ w. IsNode w j n in
    let l : j < length (formulas_in s) = omega (arith, h, ap (λ w. length (formulas_in w)) e) in
    subst P e (is-node s j n d o l a)

pub zero-is : (s t : Kept) (b : Bool) → s ≡ t → IsSound s → b ≡ false → Is (formulas_in t) 0 (truth_value b)
zero-is s t b e o h = let P : Kept → Type 0 = λ w. Is (formulas_in w) 0 (truth_value b) in subst P e (o.zero.0, o.zero.1 ∙ ap truth_value (sym h))

pub one-is : (s t : Kept) (b : Bool) → s ≡ t → IsSound s → b ≡ true → Is (formulas_in t) 1 (truth_value b)
one-is s t b e o h = let P : Kept → Type 0 = λ w. Is (formulas_in w) 1 (truth_value b) in subst P e (o.one.0, o.one.1 ∙ ap truth_value (sym h))

-- a conjunction's, or a disjunction's, formula in terms of the table before
pub joined-and : (t : Kept) (ts vs : List Formula) (ks k : List ℕ) (from count number : ℕ) (all : Bool) → ts ≡ formulas_in t → parts_at ks from count ≡ k → all ≡ true
    → Is vs number (every (listed ts (parts_at ks from count))) → Is vs number (joined all (listed (formulas_in t) k))
joined-and t ts vs ks k from count number true e p g h = (h.0, h.1 ∙ ap (λ x. every (listed ts x)) p ∙ ap (λ x. every (listed x k)) e)
joined-and t ts vs ks k from count number false e p g h = absurd (cc)

pub joined-or : (t : Kept) (ts vs : List Formula) (ks k : List ℕ) (from count number : ℕ) (all : Bool) → ts ≡ formulas_in t → parts_at ks from count ≡ k → all ≡ false
    → Is vs number (some (listed ts (parts_at ks from count))) → Is vs number (joined all (listed (formulas_in t) k))
joined-or t ts vs ks k from count number false e p g h = (h.0, h.1 ∙ ap (λ x. some (listed ts x)) p ∙ ap (λ x. some (listed x k)) e)
joined-or t ts vs ks k from count number true e p g h = absurd (cc)
