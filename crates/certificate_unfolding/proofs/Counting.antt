-- Sizes that are counted to just above the limit tell which trees are above it.
use Rattle.std.proofs.Common.{◌≡◌, ℕ, zero, suc, ◌+◌, ◌<◌, ◌≤◌, min, Bool, true, false, cond, nat_lt, List, [], ◌∷◌, ◌++◌, length, map, get_or, refl, ap, ◌∙◌, sym, arith, Option, Some, None}
use Rattle.std.proofs.lemmas.List.{get_or_past, map-append}
use Rattle.std.proofs.lemmas.Bool.Decides.{nat_tests}
use Rattle.st_certificate.specs.Tree.{Tree, impossible, trees}
use Rattle.search_laws.specs.Sizes.{nodes, nodes_of}
use Rattle.shared_certificates.specs.Nodes.{Node, contradiction, farkas_sum, linear_sum, division, certificates, node_view, table_view, tree, trees_of, unfolded}
use Rattle.shared_certificates.specs.declared.nodes.Node as code_node
use Rattle.shared_certificates.specs.declared.nodes.Table.{Table}
use Rattle.certificate_unfolding.specs.Sizes.{large_at, size_in, size_of, sizes_behind, sum_in}
use Rattle.certificate_unfolding.specs.Texts.{large_from}

size-at : (ts : List Tree) (n : ℕ) → get_or (map size_of ts) n 1 ≡ size_of (tree ts n)
size-at [] n = get_or_past (map size_of []) n 1 (omega arith) ∙ sym (ap size_of (get_or_past [] n impossible (omega arith)))
size-at (t ∷ ts) zero = refl
size-at (t ∷ ts) (suc n) = size-at ts n

limited : (a x n most : ℕ) → min ((a + min x most) + n) most ≡ min (a + (x + n)) most
limited a x n most = omega arith

regrouped : (a b n : ℕ) → a + (b + n) ≡ (a + b) + n
regrouped a b n = omega arith

sum-limited : (ts : List Tree) (a : ℕ) (ns : List ℕ) → min (a + sum_in (map size_of ts) ns) 100001 ≡ min (a + nodes_of (trees (map (tree ts) ns))) 100001
sum-limited ts a [] = refl
sum-limited ts a (n ∷ ns) =
    let s : ℕ = sum_in (map size_of ts) ns in
    let m : ℕ = nodes_of (trees (map (tree ts) ns)) in
    ap (λ x. min (a + (x + s)) 100001) (size-at ts n)
    ∙ ap (λ x. min x 100001) (regrouped a (size_of (tree ts n)) s)
    ∙ sum-limited ts (a + size_of (tree ts n)) ns
    ∙ limited a (nodes (tree ts n)) m 100001

size-of-node : (ts : List Tree) (n : Node) → size_in (map size_of ts) n ≡ size_of (unfolded ts n)
size-of-node ts contradiction = refl
size-of-node ts (farkas_sum ps) = refl
size-of-node ts (linear_sum ps) = refl
size-of-node ts (division s ns) = sum-limited ts 1 ns

sizes-of : (ts : List Tree) (ns : List Node) → sizes_behind (map size_of ts) ns ≡ map size_of (trees_of ts ns)
sizes-of ts [] = refl
sizes-of ts (n ∷ ns) =
    ap (λ s. sizes_behind (map size_of ts ++ s ∷ []) ns) (size-of-node ts n)
    ∙ ap (λ ss. sizes_behind ss ns) (sym (map-append size_of ts (unfolded ts n ∷ [])))
    ∙ sizes-of (ts ++ unfolded ts n ∷ []) ns

above : (x most : ℕ) → nat_lt most (min x (suc most)) ≡ nat_lt most x
above x most = grind (arith, nat_tests)

large-of : (ts : List Tree) (i : ℕ) (ns : List ℕ) → large_at (map size_of ts) i ns ≡ large_from i (map (tree ts) ns)
large-of ts i [] = refl
large-of ts i (n ∷ ns) =
    ap (λ x. cond (nat_lt 100000 x) (Some i) (large_at (map size_of ts) (i + 1) ns)) (size-at ts n)
    ∙ ap (λ b. cond b (Some i) (large_at (map size_of ts) (i + 1) ns)) (above (nodes (tree ts n)) 100000)
    ∙ ap (cond (nat_lt 100000 (nodes (tree ts n))) (Some i)) (large-of ts (i + 1) ns)

-- the first that is large, by the sizes of all
pub large-told : (sizes : List ℕ) (ns : List Node) (roots : List ℕ) → sizes ≡ sizes_behind [] ns → large_at sizes 0 roots ≡ large_from 0 (map (tree (trees_of [] ns)) roots)
large-told sizes ns roots e = ap (λ ss. large_at ss 0 roots) (e ∙ sizes-of [] ns) ∙ large-of (trees_of [] ns) 0 roots

-- the same of a table's slices
pub large-in : (t : Table) (sizes roots : List ℕ) (ns : List code_node.Node) → ns ≡ t.nodes.items → roots ≡ t.roots.items → sizes ≡ sizes_behind [] (map node_view ns) → large_at sizes 0 roots ≡ large_from 0 (certificates (table_view t))
large-in t sizes roots ns en er es =
    ap (large_at sizes 0) er ∙ large-told sizes (map node_view t.nodes.items) t.roots.items (es ∙ ap (λ xs. sizes_behind [] (map node_view xs)) en)

pub certificates-in : (t : Table) (roots : List ℕ) (ns : List code_node.Node) → ns ≡ t.nodes.items → roots ≡ t.roots.items → map (tree (trees_of [] (map node_view ns))) roots ≡ certificates (table_view t)
certificates-in t roots ns en er = ap (map (tree (trees_of [] (map node_view ns)))) er ∙ ap (λ xs. map (tree (trees_of [] (map node_view xs))) t.roots.items) en
