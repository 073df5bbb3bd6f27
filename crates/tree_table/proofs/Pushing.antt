-- What a push of a node, of parts and of picks does to a table.
use Rattle.std.proofs.Common.{◌≡◌, ℕ, ℤ, ◌+◌, ◌<◌, ◌≤◌, ◌⊎◌, inl, inr, List, [], ◌∷◌, ◌++◌, length, get_or, ap, subst, ◌∙◌, sym, arith}
use Rattle.std.proofs.lemmas.List.{get_or_at, get_or_append_left, length-append, append-nil}
use Rattle.std.proofs.lemmas.Bool.{cases_lt}
use Rattle.st_certificate.specs.Tree.{Tree, impossible}
use Rattle.tree_table.specs.Table.{tree, Is, Extends}
use Rattle.tree_table.specs.Nodes.{formed, IsFormed, AreSized, IsSize, Kept, trees_in, IsSound, IsNode}
use Rattle.tree_table.specs.declared.nodes.Node.{Node}
use Rattle.tree_table.specs.declared.nodes.Kind.{Kind}
use Rattle.tree_table.proofs.Making.{extends-append, is-later, grown-append, grown-length, are-formed-push, are-formed-wider, grown-wider, node-read, formed-read}

pub table-length : (t : Kept) → length (trees_in t) ≡ length t.nodes
table-length t = grown-length t.parts t.picks [] t.nodes ∙ omega arith

pub is-node : (t : Kept) (j : ℕ) (n d : Node) → IsSound t → j < length (trees_in t) → n ≡ get_or t.nodes j d → IsNode t j n
is-node t j n d s h e =
    let l : j < length t.nodes = omega (arith, h, table-length t) in
    let i : length {A = Tree} [] + j ≡ j = omega arith in
    let P : Node → Type 0 = λ m. IsNode t j m in
    subst P (sym e) (record {
      same = ap (tree (trees_in t)) (sym i) ∙ node-read t.parts t.picks [] t.nodes j d s.formed l;
      formed = formed-read t.parts t.picks 0 j j t.nodes d s.formed l (omega arith);
      sized = s.sized j d l;
    })

pub record Pushed (t u : Kept) (number : ℕ) (k : Kind) : Type 0 where
  pub sound : IsSound u
  pub extends : Extends (trees_in t) (trees_in u)
  pub made : Is (trees_in u) number (formed t.parts t.picks (trees_in t) k)

sized-at : (m n : Node) (s t : Tree) → m ≡ n → s ≡ t → IsSize n.size t → IsSize m.size s
sized-at m n s t e f h =
    let P : Node → Type 0 = λ x. IsSize x.size t in
    let Q : Tree → Type 0 = λ x. IsSize m.size x in
    subst Q (sym f) (subst P (sym e) h)

sized-push : (ns : List Node) (ts : List Tree) (n : Node) (t : Tree) → length ts ≡ length ns → AreSized ns ts → IsSize n.size t → AreSized (ns ++ n ∷ []) (ts ++ t ∷ [])
sized-push ns ts n t e h k i d l = by (cases_lt i (length ns))
  where
    by : (i < length ns) ⊎ (length ns ≤ i) → IsSize (get_or (ns ++ n ∷ []) i d).size (tree (ts ++ t ∷ []) i)
    by (inl a) =
        let b : i < length ts = omega (arith, a, e) in
        sized-at _ _ _ _ (get_or_append_left ns (n ∷ []) d i a) (get_or_append_left ts (t ∷ []) _ i b) (h i d a)
    by (inr a) =
        let m : length ns ≡ i = omega (arith, a, l, length-append ns (n ∷ [])) in
        let o : length ts ≡ i = omega (arith, m, e) in
        sized-at _ _ _ _ (get_or_at ns n [] d i m) (get_or_at ts t [] _ i o) k

push-node : (t : Kept) (number : ℕ) (n : Node) → IsSound t → number ≡ length t.nodes → IsFormed t.parts t.picks (length t.nodes) n.kind
    → IsSize n.size (formed t.parts t.picks (trees_in t) n.kind) → Pushed t (record { nodes = t.nodes ++ n ∷ []; parts = t.parts; picks = t.picks }) number n.kind
push-node t number n s m f z =
    let u : Kept = record { nodes = t.nodes ++ n ∷ []; parts = t.parts; picks = t.picks } in
    let x : Tree = formed t.parts t.picks (trees_in t) n.kind in
    let e : trees_in t ++ x ∷ [] ≡ trees_in u = sym (grown-append t.parts t.picks [] t.nodes (n ∷ [])) in
    let P : List Tree → Type 0 = λ us. Extends (trees_in t) us in
    let Q : List Tree → Type 0 = λ us. Is us number x in
    let R : List Tree → Type 0 = λ us. AreSized u.nodes us in
    let extends : Extends (trees_in t) (trees_in u) = subst P e (extends-append (trees_in t) (x ∷ [])) in
    let l : length (trees_in t) ≡ number = table-length t ∙ sym m in
    record {
      sound = record {
        formed = are-formed-push t.parts t.picks 0 (length t.nodes) t.nodes n (omega arith) s.formed f;
        sized = subst R e (sized-push t.nodes (trees_in t) n x (table-length t) s.sized z);
        zero = is-later (trees_in t) (trees_in u) 0 impossible extends s.zero;
      };
      extends = extends;
      made = subst Q e (omega (arith, l, length-append (trees_in t) (x ∷ [])), get_or_at (trees_in t) x [] _ number l);
    }

pub pushed : (s t : Kept) (ns : List Node) (number : ℕ) (n : Node) → s ≡ t → IsSound s → number ≡ length s.nodes → IsFormed t.parts t.picks (length t.nodes) n.kind
    → IsSize n.size (formed t.parts t.picks (trees_in t) n.kind) → ns ≡ s.nodes ++ n ∷ [] → Pushed t (record { nodes = ns; parts = s.parts; picks = s.picks }) number n.kind
pushed s t ns number n e o m f z a =
    let L : List Node → Kept = λ x. record { nodes = x; parts = s.parts; picks = s.picks } in
    let P : List Node → Type 0 = λ x. Pushed s (L x) number n.kind in
    let Q : Kept → Type 0 = λ w. Pushed w (L ns) number n.kind in
    let F : Kept → Type 0 = λ w. IsFormed w.parts w.picks (length w.nodes) n.kind in
    let G : Kept → Type 0 = λ w. IsSize n.size (formed w.parts w.picks (trees_in w) n.kind) in
    subst Q e (subst P (sym a) (push-node s number n o m (subst F (sym e) f) (subst G (sym e) z)))

pub record Widened (t u : Kept) : Type 0 where
  pub sound : IsSound u
  pub same : trees_in u ≡ trees_in t

-- more parts and picks change no tree
widen : (s : Kept) (k : List ℕ) (p : List (ℕ × ℤ)) → IsSound s → Widened s (record { nodes = s.nodes; parts = s.parts ++ k; picks = s.picks ++ p })
widen s k p o =
    let v : Kept = record { nodes = s.nodes; parts = s.parts ++ k; picks = s.picks ++ p } in
    let same : trees_in v ≡ trees_in s = grown-wider s.parts k s.picks p [] 0 s.nodes o.formed in
    let P : List Tree → Type 0 = λ us. AreSized s.nodes us in
    let Q : List Tree → Type 0 = λ us. Is us 0 impossible in
    record {
      sound = record {
        formed = are-formed-wider s.parts k s.picks p 0 s.nodes o.formed;
        sized = subst P (sym same) o.sized;
        zero = subst Q (sym same) o.zero;
      };
      same = same;
    }

pub picked : (s t : Kept) (ps p : List (ℕ × ℤ)) → s ≡ t → IsSound s → ps ≡ s.picks ++ p → Widened t (record { nodes = s.nodes; parts = s.parts; picks = ps })
picked s t ps p e o a =
    let P : List ℕ → Type 0 = λ ks. Widened s (record { nodes = s.nodes; parts = ks; picks = s.picks ++ p }) in
    let Q : List (ℕ × ℤ) → Type 0 = λ x. Widened s (record { nodes = s.nodes; parts = s.parts; picks = x }) in
    let R : Kept → Type 0 = λ w. Widened w (record { nodes = s.nodes; parts = s.parts; picks = ps }) in
    subst R e (subst Q (sym a) (subst P (append-nil s.parts) (widen s [] p o)))

pub parted : (s t : Kept) (ks k : List ℕ) → s ≡ t → IsSound s → ks ≡ s.parts ++ k → Widened t (record { nodes = s.nodes; parts = ks; picks = s.picks })
parted s t ks k e o a =
    let P : List (ℕ × ℤ) → Type 0 = λ ps. Widened s (record { nodes = s.nodes; parts = s.parts ++ k; picks = ps }) in
    let Q : List ℕ → Type 0 = λ x. Widened s (record { nodes = s.nodes; parts = x; picks = s.picks }) in
    let R : Kept → Type 0 = λ w. Widened w (record { nodes = s.nodes; parts = ks; picks = s.picks }) in
    subst R e (subst Q (sym a) (subst P (append-nil s.picks) (widen s k [] o)))

pub extends-from : (ts us vs : List Tree) → us ≡ ts → Extends us vs → Extends ts vs
extends-from ts us vs e h = let P : List Tree → Type 0 = λ x. Extends x vs in subst P e h

pub number-within : (s t : Kept) (n : ℕ) → s ≡ t → n < length (trees_in t) → n < length s.nodes
number-within s t n e h = omega (arith, h, table-length s, ap (λ w. length (trees_in w)) e)

pub number-there : (s t : Kept) (n : ℕ) → s ≡ t → n < length s.nodes → n < length (trees_in t)
number-there s t n e h = omega (arith, h, table-length s, ap (λ w. length (trees_in w)) e)

pub node-is : (s t : Kept) (j : ℕ) (n d : Node) → s ≡ t → IsSound s → j < length (trees_in t) → n ≡ get_or s.nodes j d → IsNode t j n
node-is s t j n d e o h a =
    let P : Kept → Type 0 = λ w. IsNode w j n in
    let l : j < length (trees_in s) = omega (arith, h, ap (λ w. length (trees_in w)) e) in
    subst P e (is-node s j n d o l a)

pub zero-is : (s t : Kept) → s ≡ t → IsSound s → Is (trees_in t) 0 impossible
zero-is s t e o = let P : Kept → Type 0 = λ w. Is (trees_in w) 0 impossible in subst P e o.zero
