-- How a table of nodes grows: a node that is kept is its tree, and a node behind the others is the next one.
use Rattle.std.proofs.Common.{◌≡◌, ℕ, zero, suc, ◌+◌, ◌<◌, ◌≤◌, Bool, true, false, cond, nat_lt, List, [], ◌∷◌, ◌++◌, length, map, take, get_or, refl, ap, subst, ◌∙◌, sym, All, arith, Result, Ok, Err}
use Rattle.std.proofs.lemmas.List.{get_or_at, length-append, length-map, length-take-le, map-append, take_all, take_more}
use Rattle.std.proofs.lemmas.List.Elements.{All-head, All-tail, All-push, All-weaker}
use Rattle.st_certificate.specs.Tree.{Tree, Step, branch, trees}
use Rattle.st_certificate.specs.Plain.{plain}
use Rattle.st_certificate.specs.declared.Certificate.{Certificate}
use Rattle.tree_table.specs.Table.{AreThere, Extends, Is}
use Rattle.tree_table.proofs.Making.{extends-append, extends-refl, extends-trans, is-later, there-later}
use Rattle.shared_certificates.specs.Nodes.{Node, Shared, contradiction, farkas_sum, linear_sum, division, node_view, table_view, tree, trees_of, unfolded}
use Rattle.shared_certificates.specs.declared.refusals.Refusal.TheVariants.{Limit}
use Rattle.shared_certificates.specs.Reading.{Read, added, judged, level}
use Rattle.shared_certificates.specs.declared.nodes.Node as code_node
use Rattle.shared_certificates.specs.declared.nodes.Node.TheVariants.{Absurd}
use Rattle.shared_certificates.specs.declared.nodes.Table.{Table}
use Rattle.certificate_unfolding.proofs.Unfolding.{number-there, trees-extend, trees-length}
use Rattle.certificate_sharing.specs.Sharing.{Has, HasAll, HasPartsBelow, IsKept, trees_by, trees_in}

-- trees of some numbers are the same in a table that extends this one
pub all-later : (ts us : List Tree) (ns : List ℕ) → Extends ts us → AreThere ts ns → map (tree us) ns ≡ map (tree ts) ns
all-later ts us [] h k = refl
all-later ts us (n ∷ ns) h k =
    ap (λ t. t ∷ map (tree us) ns) (h.same n (All-head (λ m. m < length ts) n ns k))
    ∙ ap (λ us. tree ts n ∷ us) (all-later ts us ns h (All-tail (λ m. m < length ts) n ns k))

unfolded-later : (ts us : List Tree) (n : Node) → HasPartsBelow (length ts) n → Extends ts us → unfolded us n ≡ unfolded ts n
unfolded-later ts us contradiction h e = refl
unfolded-later ts us (farkas_sum ps) h e = refl
unfolded-later ts us (linear_sum ps) h e = refl
unfolded-later ts us (division s ns) h e = ap (λ t. branch s (trees t)) (all-later ts us ns e h)

trees-append : (ts : List Tree) (ns ms : List Node) → trees_of ts (ns ++ ms) ≡ trees_of (trees_of ts ns) ms
trees-append ts [] ms = refl
trees-append ts (n ∷ ns) ms = trees-append (ts ++ unfolded ts n ∷ []) ns ms

front-extends : (ns : List code_node.Node) (k : ℕ) → Extends (trees_by (take k ns)) (trees_by ns)
front-extends ns k = from [] ns k where
  from : (ts : List Tree) (ns : List code_node.Node) (k : ℕ) → Extends (trees_of ts (map node_view (take k ns))) (trees_of ts (map node_view ns))
  from ts ns zero = trees-extend ts (map node_view ns)
  from ts [] (suc k) = extends-refl ts
  from ts (n ∷ ns) (suc k) = from (ts ++ unfolded ts (node_view n) ∷ []) ns k

front-length : (ns : List code_node.Node) (k : ℕ) → k ≤ length ns → length (trees_by (take k ns)) ≡ k
front-length ns k h = trees-length [] (map node_view (take k ns)) ∙ omega (arith, length-map (take k ns) node_view, length-take-le k ns h)

-- a node that is kept under a number is its tree
pub kept-is : (ns : List code_node.Node) (k : ℕ) (n : Node) → IsKept ns k n → Is (trees_by ns) k (unfolded (trees_by ns) n)
kept-is ns k n h =
    let front : List Tree = trees_by (take k ns) in
    let e : length front ≡ k = front-length ns k (omega (arith, h.there)) in (
      omega (arith, h.there, trees-length [] (map node_view ns), length-map ns node_view),
      number-there ns k Absurd h.there ∙ ap (unfolded front) h.same ∙ sym (unfolded-later front (trees_by ns) n (subst (λ m. HasPartsBelow m n) (sym e) h.below) (front-extends ns k)),
    )

pub stays : (ts : List Tree) (n : ℕ) (t : Tree) → Is ts n t → Has ts ts n t
stays ts n t h = record { extends = extends-refl ts; is = h }

abbrev nodes_read : Read Shared → List Node
nodes_read (Ok t) = t.nodes
nodes_read (Err e) = []

-- a node that is judged stands behind the others
added-nodes : (t u : Shared) (n : Node) → judged t n ≡ Ok u → u.nodes ≡ t.nodes ++ n ∷ []
added-nodes t u n h = by (nat_lt 400 (level t.levels n)) h where
  by : (b : Bool) → cond b (Err Limit) (Ok (added t n)) ≡ Ok u → u.nodes ≡ t.nodes ++ n ∷ []
  by true e = absurd (cc)
  by false e = ap nodes_read (sym e)

pub pushed : (t u : Shared) (n : Node) (k : ℕ) → judged t n ≡ Ok u → k ≡ length t.nodes → Has (trees_of [] t.nodes) (trees_of [] u.nodes) k (unfolded (trees_of [] t.nodes) n)
pushed t u n k h e =
    let ts : List Tree = trees_of [] t.nodes in
    let s : Tree = unfolded ts n in
    let l : k ≡ length ts = omega (arith, e, trees-length [] t.nodes) in
    let i : trees_of [] u.nodes ≡ ts ++ s ∷ [] = ap (trees_of []) (added-nodes t u n h) ∙ trees-append [] t.nodes (n ∷ []) in
    subst (λ us. Has ts us k s) (sym i) (record {
      extends = extends-append ts (s ∷ []);
      is = (omega (arith, l, length-append ts (s ∷ [])), get_or_at ts s [] _ k (sym l));
    })

pub pushed-in : (old new : Table) (n : Node) (k : ℕ) → judged (table_view old) n ≡ Ok (table_view new) → k ≡ length old.nodes.items → Has (trees_in old) (trees_in new) k (unfolded (trees_in old) n)
pushed-in old new n k h e = pushed (table_view old) (table_view new) n k h (e ∙ sym (length-map old.nodes.items node_view))

-- a tree more
pub one-more : (old mid new : List Tree) (ns : List ℕ) (ts : List Tree) (n : ℕ) (t : Tree) → HasAll old mid ns ts → Has mid new n t → HasAll old new (ns ++ n ∷ []) (ts ++ t ∷ [])
one-more old mid new ns ts n t h k = record {
  extends = extends-trans old mid new h.extends k.extends;
  there = All-push (λ m. m < length new) ns n (there-later mid new ns k.extends h.there) k.is.0;
  same = map-append (tree new) ns (n ∷ []) ∙ ap (λ a. a ++ tree new n ∷ []) (all-later mid new ns k.extends h.there ∙ h.same) ∙ ap (λ x. ts ++ x ∷ []) k.is.1;
}

-- a certificate more is entered
pub taken-more : (old mid new : List Tree) (cs : List Certificate) (i : ℕ) (x : Certificate) (ns more : List ℕ) (n : ℕ) → i < length cs → x ≡ get_or cs i x → more ≡ ns ++ n ∷ []
    → HasAll old mid ns (map plain (take i cs)) → Has mid new n (plain x) → HasAll old new more (map plain (take (i + 1) cs))
taken-more old mid new cs i x ns more n h e m all one =
    let ts : List Tree = map plain (take i cs) in
    let next : map plain (take (i + 1) cs) ≡ ts ++ plain x ∷ [] = ap (map plain) (take_more cs i x h) ∙ map-append plain (take i cs) (get_or cs i x ∷ []) ∙ ap (λ y. ts ++ plain y ∷ []) (sym e) in
    subst (λ ms. HasAll old new ms (map plain (take (i + 1) cs))) (sym m) (subst (HasAll old new (ns ++ n ∷ [])) (sym next) (one-more old mid new ns ts n (plain x) all one))

-- the parts have numbers, and then the branch over them
pub branch-has : (old mid new : List Tree) (s : Step) (ns : List ℕ) (ts : List Tree) (n : ℕ) → HasAll old mid ns ts → Has mid new n (branch s (trees (map (tree mid) ns))) → Has old new n (branch s (trees ts))
branch-has old mid new s ns ts n h k = record {
  extends = extends-trans old mid new h.extends k.extends;
  is = subst (λ us. Is new n (branch s (trees us))) h.same k.is;
}

-- numbers that are below a count, and one more
pub below-more : (m : ℕ) (ns : List ℕ) (i d : ℕ) → i < length ns → All (λ n. n < m) (take i ns) → get_or ns i d < m → All (λ n. n < m) (take (i + 1) ns)
below-more m ns i d h all one = subst (All (λ n. n < m)) (sym (take_more ns i d h)) (All-push (λ n. n < m) (take i ns) (get_or ns i d) all one)

pub below-all : (m : ℕ) (ns : List ℕ) (i : ℕ) → length ns ≤ i → All (λ n. n < m) (take i ns) → All (λ n. n < m) ns
below-all m ns i h all = subst (All (λ n. n < m)) (take_all i ns h) all

pub ruleset sharing = (kept-is, stays)
