-- How a table grows: what was there stays.
use Rattle.std.proofs.Common.{◌≡◌, ℕ, ◌+◌, ◌<◌, ◌≤◌, true, zero, suc, List, [], ◌∷◌, ◌++◌, length, take, drop, get_or, refl, ap, subst, ◌∙◌, sym, All, arith}
use Rattle.std.proofs.lemmas.List.{get_or_at, get_or_append_left, length-append, length-drop, take-append-le, drop-append-le}
use Rattle.std.proofs.lemmas.List.Elements.{All-weaker, All-head, All-tail}
use Rattle.st_linear.specs.Linear.{Linear}
use Rattle.st_form.specs.Formula.{Formula, row, equal, every, some, more}
use Rattle.form_table.specs.Table.{formula, listed, Is, Extends, AreThere}
use Rattle.form_table.specs.Nodes.{formed, forms, IsFormed, AreFormed, ArePartsBelow, parts_at, Kept, formulas_in, IsSound, IsNode}
use Rattle.search_laws.specs.Steady.{IsSteady}
use Rattle.form_table.specs.declared.nodes.Node.{Node}
use Rattle.form_table.specs.declared.nodes.Node.TheVariants.{Truth, Row, Equal, BoolVar, At, And, Or}

pub extends-refl : (ts : List Formula) → Extends ts ts
extends-refl ts = record { longer = omega arith; same = λ n h. refl }

pub extends-trans : (ts us vs : List Formula) → Extends ts us → Extends us vs → Extends ts vs
extends-trans ts us vs h k = record {
  longer = omega (arith, h.longer, k.longer);
  same = λ n l. k.same n (omega (arith, l, h.longer)) ∙ h.same n l;
}

pub extends-append : (ts us : List Formula) → Extends ts (ts ++ us)
extends-append ts us = record {
  longer = omega (arith, length-append ts us);
  same = λ n l. get_or_append_left ts us _ n l;
}

-- a number has the same formula in a table that extends this one
pub is-later : (ts us : List Formula) (n : ℕ) (f : Formula) → Extends ts us → Is ts n f → Is us n f
is-later ts us n f h k = (omega (arith, k.0, h.longer), h.same n k.0 ∙ k.1)

pub listed-later : (ts us : List Formula) (ns : List ℕ) → Extends ts us → All (λ n. n < length ts) ns → listed us ns ≡ listed ts ns
listed-later ts us [] h k = refl
listed-later ts us (n ∷ ns) h k = ap (λ f. more f (listed us ns)) (h.same n (All-head (λ m. m < length ts) n ns k)) ∙ ap (more (formula ts n)) (listed-later ts us ns h (All-tail (λ m. m < length ts) n ns k))

pub forms-append : (ks : List ℕ) (ls : List Linear) (ts : List Formula) (ns ms : List Node) → forms ks ls ts (ns ++ ms) ≡ forms ks ls (forms ks ls ts ns) ms
forms-append ks ls ts [] ms = refl
forms-append ks ls ts (n ∷ ns) ms = forms-append ks ls (ts ++ formed ks ls ts n ∷ []) ns ms

pub forms-length : (ks : List ℕ) (ls : List Linear) (ts : List Formula) (ns : List Node) → length (forms ks ls ts ns) ≡ length ts + length ns
forms-length ks ls ts [] = omega arith
forms-length ks ls ts (n ∷ ns) = forms-length ks ls (ts ++ formed ks ls ts n ∷ []) ns ∙ omega (arith, length-append ts (formed ks ls ts n ∷ []))

pub forms-extend : (ks : List ℕ) (ls : List Linear) (ts : List Formula) (ns : List Node) → Extends ts (forms ks ls ts ns)
forms-extend ks ls ts [] = extends-refl ts
forms-extend ks ls ts (n ∷ ns) =
    let us = ts ++ formed ks ls ts n ∷ [] in
    extends-trans ts us (forms ks ls us ns) (extends-append ts (formed ks ls ts n ∷ [])) (forms-extend ks ls us ns)

pub are-formed-push : (ks : List ℕ) (ls : List Linear) (i j : ℕ) (ns : List Node) (n : Node) → j ≡ i + length ns → AreFormed ks ls i ns → IsFormed ks ls j n → AreFormed ks ls i (ns ++ n ∷ [])
are-formed-push ks ls i j [] n e h k = let P : ℕ → Type 0 = λ m. IsFormed ks ls m n in let d : j ≡ i = omega (arith, e) in (subst P d k, tt)
are-formed-push ks ls i j (m ∷ ns) n e h k = (h.0, are-formed-push ks ls (i + 1) j ns n (omega (arith, e)) h.1 k)

pub parts-wider : (ks k : List ℕ) (a b : ℕ) → a + b ≤ length ks → parts_at (ks ++ k) a b ≡ parts_at ks a b
parts-wider ks k a b h = ap (take b) (drop-append-le a ks k (omega (arith, h))) ∙ take-append-le b (drop a ks) k (omega (arith, h, length-drop a ks))

formed-wider : (ks k : List ℕ) (ls l : List Linear) (ts : List Formula) (i : ℕ) (n : Node) → IsFormed ks ls i n → formed (ks ++ k) (ls ++ l) ts n ≡ formed ks ls ts n
formed-wider ks k ls l ts i (Truth b) h = refl
formed-wider ks k ls l ts i (Row m) h = ap row (get_or_append_left ls l _ m h.0)
formed-wider ks k ls l ts i (Equal m) h = ap equal (get_or_append_left ls l _ m h.0)
formed-wider ks k ls l ts i (BoolVar v plus) h = refl
formed-wider ks k ls l ts i (At v plus) h = refl
formed-wider ks k ls l ts i (And a b) h = ap (λ p. every (listed ts p)) (parts-wider ks k a b h.within)
formed-wider ks k ls l ts i (Or a b) h = ap (λ p. some (listed ts p)) (parts-wider ks k a b h.within)

below-wider : (ks k : List ℕ) (i a b : ℕ) → ArePartsBelow ks i a b → ArePartsBelow (ks ++ k) i a b
below-wider ks k i a b h =
    let P : List ℕ → Type 0 = λ p. All (λ n. n < i) p in
    record { within = omega (arith, h.within, length-append ks k); below = subst P (sym (parts-wider ks k a b h.within)) h.below }

is-formed-wider : (ks k : List ℕ) (ls l : List Linear) (i : ℕ) (n : Node) → IsFormed ks ls i n → IsFormed (ks ++ k) (ls ++ l) i n
is-formed-wider ks k ls l i (Truth b) h = tt
is-formed-wider ks k ls l i (Row m) h =
    let P : Linear → Type 0 = λ f. IsSteady (row f) true in
    (omega (arith, h.0, length-append ls l), subst P (sym (get_or_append_left ls l _ m h.0)) h.1)
is-formed-wider ks k ls l i (Equal m) h =
    let P : Linear → Type 0 = λ f. IsSteady (equal f) true in
    (omega (arith, h.0, length-append ls l), subst P (sym (get_or_append_left ls l _ m h.0)) h.1)
is-formed-wider ks k ls l i (BoolVar v plus) h = tt
is-formed-wider ks k ls l i (At v plus) h = tt
is-formed-wider ks k ls l i (And a b) h = below-wider ks k i a b h
is-formed-wider ks k ls l i (Or a b) h = below-wider ks k i a b h

pub are-formed-wider : (ks k : List ℕ) (ls l : List Linear) (i : ℕ) (ns : List Node) → AreFormed ks ls i ns → AreFormed (ks ++ k) (ls ++ l) i ns
are-formed-wider ks k ls l i [] h = tt
are-formed-wider ks k ls l i (n ∷ ns) h = (is-formed-wider ks k ls l i n h.0, are-formed-wider ks k ls l (i + 1) ns h.1)

pub forms-wider : (ks k : List ℕ) (ls l : List Linear) (ts : List Formula) (i : ℕ) (ns : List Node) → AreFormed ks ls i ns → forms (ks ++ k) (ls ++ l) ts ns ≡ forms ks ls ts ns
forms-wider ks k ls l ts i [] h = refl
forms-wider ks k ls l ts i (n ∷ ns) h =
    ap (λ f. forms (ks ++ k) (ls ++ l) (ts ++ f ∷ []) ns) (formed-wider ks k ls l ts i n h.0) ∙ forms-wider ks k ls l (ts ++ formed ks ls ts n ∷ []) (i + 1) ns h.1

pub below-there : (i : ℕ) (ts : List Formula) (ns : List ℕ) → i ≤ length ts → All (λ n. n < i) ns → AreThere ts ns
below-there i ts ns e h = All-weaker (λ n. n < i) (λ n. n < length ts) (λ n l. omega (arith, l, e)) ns h

formed-later : (ks : List ℕ) (ls : List Linear) (i : ℕ) (ts us : List Formula) (n : Node) → IsFormed ks ls i n → i ≤ length ts → Extends ts us → formed ks ls us n ≡ formed ks ls ts n
formed-later ks ls i ts us (Truth b) h e x = refl
formed-later ks ls i ts us (Row m) h e x = refl
formed-later ks ls i ts us (Equal m) h e x = refl
formed-later ks ls i ts us (BoolVar v plus) h e x = refl
formed-later ks ls i ts us (At v plus) h e x = refl
formed-later ks ls i ts us (And a b) h e x = ap every (listed-later ts us (parts_at ks a b) x (below-there i ts (parts_at ks a b) e h.below))
formed-later ks ls i ts us (Or a b) h e x = ap some (listed-later ts us (parts_at ks a b) x (below-there i ts (parts_at ks a b) e h.below))

-- what a number's formula is made of
pub node-read : (ks : List ℕ) (ls : List Linear) (ts : List Formula) (ns : List Node) (j : ℕ) (d : Node) → AreFormed ks ls (length ts) ns → j < length ns
    → formula (forms ks ls ts ns) (length ts + j) ≡ formed ks ls (forms ks ls ts ns) (get_or ns j d)
node-read ks ls ts [] j d h k = absurd (omega (arith, k))
node-read ks ls ts (n ∷ ns) zero d h k =
    let us : List Formula = ts ++ formed ks ls ts n ∷ [] in
    let e : Extends us (forms ks ls us ns) = forms-extend ks ls us ns in
    let here : length ts < length us = omega (arith, length-append ts (formed ks ls ts n ∷ [])) in
    let i : length ts + zero ≡ length ts = omega arith in
    let whole : Extends ts (forms ks ls us ns) = extends-trans ts us (forms ks ls us ns) (extends-append ts (formed ks ls ts n ∷ [])) e in
    ap (formula (forms ks ls us ns)) i ∙ e.same (length ts) here ∙ get_or_at ts (formed ks ls ts n) [] _ (length ts) refl
    ∙ sym (formed-later ks ls (length ts) ts (forms ks ls us ns) n h.0 (omega arith) whole)
node-read ks ls ts (n ∷ ns) (suc j) d h k =
    let us : List Formula = ts ++ formed ks ls ts n ∷ [] in
    let P : ℕ → Type 0 = λ m. AreFormed ks ls m ns in
    let e : length ts + 1 ≡ length us = omega (arith, length-append ts (formed ks ls ts n ∷ [])) in
    let i : length ts + suc j ≡ length us + j = omega (arith, e) in
    ap (formula (forms ks ls us ns)) i ∙ node-read ks ls us ns j d (subst P e h.1) (omega (arith, k))

pub formed-read : (ks : List ℕ) (ls : List Linear) (i m j : ℕ) (ns : List Node) (d : Node) → AreFormed ks ls i ns → j < length ns → m ≡ i + j → IsFormed ks ls m (get_or ns j d)
formed-read ks ls i m j [] d h k e = absurd (omega (arith, k))
formed-read ks ls i m zero (n ∷ ns) d h k e = let P : ℕ → Type 0 = λ x. IsFormed ks ls x n in let s : i ≡ m = omega (arith, e) in subst P s h.0
formed-read ks ls i m (suc j) (n ∷ ns) d h k e = formed-read ks ls (i + 1) m j ns d h.1 (omega (arith, k)) (omega (arith, e))

pub table-length : (t : Kept) → length (formulas_in t) ≡ length t.nodes
table-length t = forms-length t.parts t.lines [] t.nodes ∙ omega arith

pub is-node : (t : Kept) (j : ℕ) (n d : Node) → IsSound t → j < length (formulas_in t) → n ≡ get_or t.nodes j d → IsNode t j n
is-node t j n d s h e =
    let l : j < length t.nodes = omega (arith, h, table-length t) in
    let i : length {A = Formula} [] + j ≡ j = omega arith in
    let P : Node → Type 0 = λ m. IsNode t j m in
    subst P (sym e) (record {
      same = ap (formula (formulas_in t)) (sym i) ∙ node-read t.parts t.lines [] t.nodes j d s.formed l;
      formed = formed-read t.parts t.lines 0 j j t.nodes d s.formed l (omega arith);
    })

pub ruleset growing = (extends-refl)
