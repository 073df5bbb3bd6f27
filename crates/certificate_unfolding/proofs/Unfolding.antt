-- The trees of nodes in a row: what a number means is what its node says of the trees before it.
use Rattle.std.proofs.Common.{◌≡◌, ℕ, zero, suc, ◌+◌, ◌<◌, ◌≤◌, List, [], ◌∷◌, ◌++◌, length, map, take, get_or, refl, ap, ◌∙◌, sym, arith}
use Rattle.std.proofs.lemmas.List.{get_or_at, get_or_past, length-append, length-map}
use Rattle.st_certificate.specs.Tree.{Tree, impossible}
use Rattle.tree_table.specs.Table.{Extends}
use Rattle.tree_table.proofs.Making.{extends-append, extends-refl, extends-trans}
use Rattle.shared_certificates.specs.Nodes.{Node, node_view, tree, trees_of, unfolded}
use Rattle.shared_certificates.specs.declared.nodes.Node as code_node

pub trees-extend : (ts : List Tree) (ns : List Node) → Extends ts (trees_of ts ns)
trees-extend ts [] = extends-refl ts
trees-extend ts (n ∷ ns) =
    let us : List Tree = ts ++ unfolded ts n ∷ [] in
    extends-trans ts us (trees_of us ns) (extends-append ts (unfolded ts n ∷ [])) (trees-extend us ns)

pub trees-length : (ts : List Tree) (ns : List Node) → length (trees_of ts ns) ≡ length ts + length ns
trees-length ts [] = omega arith
trees-length ts (n ∷ ns) = trees-length (ts ++ unfolded ts n ∷ []) ns ∙ omega (arith, length-append ts (unfolded ts n ∷ []))

there : (ts : List Tree) (ns : List code_node.Node) (k : ℕ) (d : code_node.Node) → k < length ns → tree (trees_of ts (map node_view ns)) (length ts + k) ≡ unfolded (trees_of ts (map node_view (take k ns))) (node_view (get_or ns k d))
there ts [] k d h = absurd (omega (arith, h))
there ts (n ∷ ns) zero d h =
    let t : Tree = unfolded ts (node_view n) in
    let us : List Tree = ts ++ t ∷ [] in
    let here : length ts < length us = omega (arith, length-append ts (t ∷ [])) in
    let i : length ts + zero ≡ length ts = omega arith in
    ap (tree (trees_of us (map node_view ns))) i ∙ (trees-extend us (map node_view ns)).same (length ts) here ∙ get_or_at ts t [] _ (length ts) refl
there ts (n ∷ ns) (suc k) d h =
    let t : Tree = unfolded ts (node_view n) in
    let us : List Tree = ts ++ t ∷ [] in
    let i : length ts + suc k ≡ length us + k = omega (arith, length-append ts (t ∷ [])) in
    ap (tree (trees_of us (map node_view ns))) i ∙ there us ns k d (omega (arith, h))

-- a number's tree is its node, by the nodes before it
pub number-there : (ns : List code_node.Node) (k : ℕ) (d : code_node.Node) → k < length ns → tree (trees_of [] (map node_view ns)) k ≡ unfolded (trees_of [] (map node_view (take k ns))) (node_view (get_or ns k d))
number-there ns k d h = ap (tree (trees_of [] (map node_view ns))) (omega arith) ∙ there [] ns k d h

-- where there is no node, that of a false problem
pub number-none : (ns : List code_node.Node) (k : ℕ) → length ns ≤ k → tree (trees_of [] (map node_view ns)) k ≡ impossible
number-none ns k h = get_or_past (trees_of [] (map node_view ns)) k impossible (omega (arith, h, trees-length [] (map node_view ns), length-map ns node_view))

pub ruleset numbering = (number-there, number-none)
