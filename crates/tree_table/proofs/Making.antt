-- How a table grows: what was there stays.
use Rattle.std.proofs.Common.{◌≡◌, ℕ, ℤ, ◌+◌, ◌<◌, ◌≤◌, zero, suc, List, [], ◌∷◌, ◌++◌, length, take, drop, get_or, refl, ap, subst, ◌∙◌, sym, All, arith}
use Rattle.std.proofs.lemmas.List.{get_or_at, get_or_append_left, length-append, length-drop, take-append-le, drop-append-le}
use Rattle.std.proofs.lemmas.List.Elements.{All-weaker, All-head, All-tail}
use Rattle.st_certificate.specs.Tree.{Tree, linear, branch, with_tree}
use Rattle.tree_table.specs.Table.{tree, listed, step_of, Is, Extends, AreThere}
use Rattle.tree_table.specs.Nodes.{formed, grown, IsFormed, AreFormed, ArePartsBelow, parts_at}
use Rattle.tree_table.specs.declared.nodes.Node.{Node}
use Rattle.tree_table.specs.declared.nodes.Kind.{Kind}
use Rattle.tree_table.specs.declared.nodes.Kind.TheVariants.{Absurd, Linear, Branch}

pub extends-refl : (ts : List Tree) → Extends ts ts
extends-refl ts = record { longer = omega arith; same = λ n h. refl }

pub extends-trans : (ts us vs : List Tree) → Extends ts us → Extends us vs → Extends ts vs
extends-trans ts us vs h k = record {
  longer = omega (arith, h.longer, k.longer);
  same = λ n l. k.same n (omega (arith, l, h.longer)) ∙ h.same n l;
}

pub extends-append : (ts us : List Tree) → Extends ts (ts ++ us)
extends-append ts us = record {
  longer = omega (arith, length-append ts us);
  same = λ n l. get_or_append_left ts us _ n l;
}

-- a number has the same tree in a table that extends this one
pub is-later : (ts us : List Tree) (n : ℕ) (t : Tree) → Extends ts us → Is ts n t → Is us n t
is-later ts us n t h k = (omega (arith, k.0, h.longer), h.same n k.0 ∙ k.1)

pub there-later : (ts us : List Tree) (ns : List ℕ) → Extends ts us → AreThere ts ns → AreThere us ns
there-later ts us ns h k = All-weaker (λ n. n < length ts) (λ n. n < length us) (λ n l. omega (arith, l, h.longer)) ns k

pub listed-later : (ts us : List Tree) (ns : List ℕ) → Extends ts us → AreThere ts ns → listed us ns ≡ listed ts ns
listed-later ts us [] h k = refl
listed-later ts us (n ∷ ns) h k =
    ap (λ t. with_tree t (listed us ns)) (h.same n (All-head (λ m. m < length ts) n ns k))
    ∙ ap (with_tree (tree ts n)) (listed-later ts us ns h (All-tail (λ m. m < length ts) n ns k))

pub grown-append : (ks : List ℕ) (ps : List (ℕ × ℤ)) (ts : List Tree) (ns ms : List Node) → grown ks ps ts (ns ++ ms) ≡ grown ks ps (grown ks ps ts ns) ms
grown-append ks ps ts [] ms = refl
grown-append ks ps ts (n ∷ ns) ms = grown-append ks ps (ts ++ formed ks ps ts n.kind ∷ []) ns ms

pub grown-length : (ks : List ℕ) (ps : List (ℕ × ℤ)) (ts : List Tree) (ns : List Node) → length (grown ks ps ts ns) ≡ length ts + length ns
grown-length ks ps ts [] = omega arith
grown-length ks ps ts (n ∷ ns) = grown-length ks ps (ts ++ formed ks ps ts n.kind ∷ []) ns ∙ omega (arith, length-append ts (formed ks ps ts n.kind ∷ []))

pub grown-extends : (ks : List ℕ) (ps : List (ℕ × ℤ)) (ts : List Tree) (ns : List Node) → Extends ts (grown ks ps ts ns)
grown-extends ks ps ts [] = extends-refl ts
grown-extends ks ps ts (n ∷ ns) =
    let us : List Tree = ts ++ formed ks ps ts n.kind ∷ [] in
    extends-trans ts us (grown ks ps us ns) (extends-append ts (formed ks ps ts n.kind ∷ [])) (grown-extends ks ps us ns)

pub are-formed-push : (ks : List ℕ) (ps : List (ℕ × ℤ)) (i j : ℕ) (ns : List Node) (n : Node) → j ≡ i + length ns → AreFormed ks ps i ns → IsFormed ks ps j n.kind → AreFormed ks ps i (ns ++ n ∷ [])
are-formed-push ks ps i j [] n e h k = let P : ℕ → Type 0 = λ m. IsFormed ks ps m n.kind in let d : j ≡ i = omega (arith, e) in (subst P d k, tt)
are-formed-push ks ps i j (m ∷ ns) n e h k = (h.0, are-formed-push ks ps (i + 1) j ns n (omega (arith, e)) h.1 k)

-- what stands at a place in a list stands there too when more comes behind
pub range-wider : {A : Type 0} → (xs ys : List A) (a b : ℕ) → a + b ≤ length xs → take b (drop a (xs ++ ys)) ≡ take b (drop a xs)
range-wider xs ys a b h = ap (take b) (drop-append-le a xs ys (omega (arith, h))) ∙ take-append-le b (drop a xs) ys (omega (arith, h, length-drop a xs))

formed-wider : (ks k : List ℕ) (ps p : List (ℕ × ℤ)) (ts : List Tree) (i : ℕ) (n : Kind) → IsFormed ks ps i n → formed (ks ++ k) (ps ++ p) ts n ≡ formed ks ps ts n
formed-wider ks k ps p ts i Absurd h = refl
formed-wider ks k ps p ts i (Linear a b) h = ap linear (range-wider ps p a b h)
formed-wider ks k ps p ts i (Branch s a b) h = ap (λ x. branch (step_of s) (listed ts x)) (range-wider ks k a b h.within)

below-wider : (ks k : List ℕ) (i a b : ℕ) → ArePartsBelow ks i a b → ArePartsBelow (ks ++ k) i a b
below-wider ks k i a b h =
    let P : List ℕ → Type 0 = λ p. All (λ n. n < i) p in
    record { within = omega (arith, h.within, length-append ks k); below = subst P (sym (range-wider ks k a b h.within)) h.below }

is-formed-wider : (ks k : List ℕ) (ps p : List (ℕ × ℤ)) (i : ℕ) (n : Kind) → IsFormed ks ps i n → IsFormed (ks ++ k) (ps ++ p) i n
is-formed-wider ks k ps p i Absurd h = tt
is-formed-wider ks k ps p i (Linear a b) h = omega (arith, h, length-append ps p)
is-formed-wider ks k ps p i (Branch s a b) h = below-wider ks k i a b h

pub are-formed-wider : (ks k : List ℕ) (ps p : List (ℕ × ℤ)) (i : ℕ) (ns : List Node) → AreFormed ks ps i ns → AreFormed (ks ++ k) (ps ++ p) i ns
are-formed-wider ks k ps p i [] h = tt
are-formed-wider ks k ps p i (n ∷ ns) h = (is-formed-wider ks k ps p i n.kind h.0, are-formed-wider ks k ps p (i + 1) ns h.1)

pub grown-wider : (ks k : List ℕ) (ps p : List (ℕ × ℤ)) (ts : List Tree) (i : ℕ) (ns : List Node) → AreFormed ks ps i ns → grown (ks ++ k) (ps ++ p) ts ns ≡ grown ks ps ts ns
grown-wider ks k ps p ts i [] h = refl
grown-wider ks k ps p ts i (n ∷ ns) h =
    ap (λ t. grown (ks ++ k) (ps ++ p) (ts ++ t ∷ []) ns) (formed-wider ks k ps p ts i n.kind h.0) ∙ grown-wider ks k ps p (ts ++ formed ks ps ts n.kind ∷ []) (i + 1) ns h.1

pub below-there : (i : ℕ) (ts : List Tree) (ns : List ℕ) → i ≤ length ts → All (λ n. n < i) ns → AreThere ts ns
below-there i ts ns e h = All-weaker (λ n. n < i) (λ n. n < length ts) (λ n l. omega (arith, l, e)) ns h

formed-later : (ks : List ℕ) (ps : List (ℕ × ℤ)) (i : ℕ) (ts us : List Tree) (n : Kind) → IsFormed ks ps i n → i ≤ length ts → Extends ts us → formed ks ps us n ≡ formed ks ps ts n
formed-later ks ps i ts us Absurd h e x = refl
formed-later ks ps i ts us (Linear a b) h e x = refl
formed-later ks ps i ts us (Branch s a b) h e x = ap (branch (step_of s)) (listed-later ts us (parts_at ks a b) x (below-there i ts (parts_at ks a b) e h.below))

-- what a number's tree is made of
pub node-read : (ks : List ℕ) (ps : List (ℕ × ℤ)) (ts : List Tree) (ns : List Node) (j : ℕ) (d : Node) → AreFormed ks ps (length ts) ns → j < length ns
    → tree (grown ks ps ts ns) (length ts + j) ≡ formed ks ps (grown ks ps ts ns) (get_or ns j d).kind
node-read ks ps ts [] j d h k = absurd (omega (arith, k))
node-read ks ps ts (n ∷ ns) zero d h k =
    let t : Tree = formed ks ps ts n.kind in
    let us : List Tree = ts ++ t ∷ [] in
    let e : Extends us (grown ks ps us ns) = grown-extends ks ps us ns in
    let here : length ts < length us = omega (arith, length-append ts (t ∷ [])) in
    let i : length ts + zero ≡ length ts = omega arith in
    let whole : Extends ts (grown ks ps us ns) = extends-trans ts us (grown ks ps us ns) (extends-append ts (t ∷ [])) e in
    ap (tree (grown ks ps us ns)) i ∙ e.same (length ts) here ∙ get_or_at ts t [] _ (length ts) refl
    ∙ sym (formed-later ks ps (length ts) ts (grown ks ps us ns) n.kind h.0 (omega arith) whole)
node-read ks ps ts (n ∷ ns) (suc j) d h k =
    let us : List Tree = ts ++ formed ks ps ts n.kind ∷ [] in
    let P : ℕ → Type 0 = λ m. AreFormed ks ps m ns in
    let e : length ts + 1 ≡ length us = omega (arith, length-append ts (formed ks ps ts n.kind ∷ [])) in
    let i : length ts + suc j ≡ length us + j = omega (arith, e) in
    ap (tree (grown ks ps us ns)) i ∙ node-read ks ps us ns j d (subst P e h.1) (omega (arith, k))

pub formed-read : (ks : List ℕ) (ps : List (ℕ × ℤ)) (i m j : ℕ) (ns : List Node) (d : Node) → AreFormed ks ps i ns → j < length ns → m ≡ i + j → IsFormed ks ps m (get_or ns j d).kind
formed-read ks ps i m j [] d h k e = absurd (omega (arith, k))
formed-read ks ps i m zero (n ∷ ns) d h k e = let P : ℕ → Type 0 = λ x. IsFormed ks ps x n.kind in let s : i ≡ m = omega (arith, e) in subst P s h.0
formed-read ks ps i m (suc j) (n ∷ ns) d h k e = formed-read ks ps (i + 1) m j ns d h.1 (omega (arith, k)) (omega (arith, e))

pub ruleset growing = (extends-refl)
