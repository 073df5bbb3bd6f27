-- What a number means is what its node says of all trees, since a node refers to nodes before it.
use Rattle.std.proofs.Common.{true, ◌≡◌, ℕ, ◌<◌, List, [], ◌∷◌, ◌++◌, length, map, take, drop, get_or, refl, ap, ◌∙◌, sym, subst, arith}
use Rattle.std.specs.Prelude.{ltb}
use Rattle.std.proofs.lemmas.List.{take-append-drop, length-take, length-map, map-append}
use Rattle.std.proofs.lemmas.List.Elements.{All-weaker}
use Rattle.std.proofs.lemmas.Bool.Decides.{nat_tests}
use Rattle.st_certificate.specs.Tree.{Tree, branch}
use Rattle.tree_table.specs.Table.{Extends}
use Rattle.tree_table.proofs.Making.{listed-later}
use Rattle.shared_certificates.specs.Nodes.{Node, contradiction, farkas_sum, linear_sum, division, node_view, tree, trees_of, unfolded}
use Rattle.shared_certificates.specs.Grammar.{IsNode}
use Rattle.shared_certificates.specs.declared.nodes.Node as code_node
use Rattle.certificate_unfolding.proofs.Unfolding.{number-there, trees-extend, trees-length}
use Rattle.table_check.specs.Nodes.{AreNodes, trees_by}

trees-append : (ts : List Tree) (ns ms : List Node) → trees_of ts (ns ++ ms) ≡ trees_of (trees_of ts ns) ms
trees-append ts [] ms = refl
trees-append ts (n ∷ ns) ms = trees-append (ts ++ unfolded ts n ∷ []) ns ms

before-extends : (ns : List code_node.Node) (k : ℕ) → Extends (trees_by (take k ns)) (trees_by ns)
before-extends ns k =
    let front : List Node = map node_view (take k ns) in
    let behind : List Node = map node_view (drop k ns) in
    let whole : map node_view ns ≡ front ++ behind = ap (map node_view) (sym (take-append-drop k ns)) ∙ map-append node_view (take k ns) (drop k ns) in
    subst (Extends (trees_by (take k ns))) (sym (ap (trees_of []) whole ∙ trees-append [] front behind)) (trees-extend (trees_of [] front) behind)

unfolded-later : (ts us : List Tree) (n : Node) → IsNode (length ts) n → Extends ts us → unfolded us n ≡ unfolded ts n
unfolded-later ts us contradiction h x = refl
unfolded-later ts us (farkas_sum ps) h x = refl
unfolded-later ts us (linear_sum ps) h x = refl
unfolded-later ts us (division s ns) h x = ap (branch s) (listed-later ts us ns x (All-weaker (λ n. (n < length ts) × (n < 4294967295)) (λ n. n < length ts) (λ n l. l.0) ns h.1))

-- a number's tree by all trees
pub number-whole : (ns : List code_node.Node) (k : ℕ) (d : code_node.Node) → AreNodes ns → k < length ns → tree (trees_by ns) k ≡ unfolded (trees_by ns) (node_view (get_or ns k d))
number-whole ns k d h l =
    let n : Node = node_view (get_or ns k d) in
    let few : length (trees_by (take k ns)) ≡ k = trees-length [] (map node_view (take k ns)) ∙ omega (arith, l, length-take k ns, length-map (take k ns) node_view) in
    number-there ns k d l ∙ sym (unfolded-later (trees_by (take k ns)) (trees_by ns) n (subst (λ m. IsNode m n) (sym few) (h.each k d l)) (before-extends ns k))

-- what a node says of all trees is the tree of its number
pub same-node : (us : List Tree) (ns : List code_node.Node) (found given : ℕ) (n : code_node.Node) → AreNodes ns → true ≡ ltb given (length ns) → n ≡ get_or ns given n
    → tree us found ≡ unfolded (trees_by ns) (node_view n) → tree us found ≡ tree (trees_by ns) given
same-node us ns found given n h there is e =
    let below : given < length ns = grind (arith, nat_tests) in
    e ∙ ap (λ m. unfolded (trees_by ns) (node_view m)) is ∙ sym (number-whole ns given n h below)

-- the tree of a node, by the nodes before it
pub node-tree : (ns before : List code_node.Node) (k : ℕ) (n : code_node.Node) → true ≡ ltb k (length ns) → n ≡ get_or ns k n → before ≡ take k ns → unfolded (trees_by before) (node_view n) ≡ tree (trees_by ns) k
node-tree ns before k n there is e =
    let below : k < length ns = grind (arith, nat_tests) in
    ap (λ ms. unfolded (trees_by ms) (node_view n)) e ∙ ap (λ m. unfolded (trees_by (take k ns)) (node_view m)) is ∙ sym (number-there ns k n below)
