-- Trees of certificates that refer to one another by number. What a number means is its tree, unfolded.
use Rattle.std.specs.Prelude.{ℕ, ℤ, List, [], ◌∷◌, ◌++◌, map, slice_index_or}
use Rattle.st_certificate.specs.Tree.{Tree, Step, trees, impossible, farkas, linear, branch, by_case, by_truth, by_split, by_cut}
use Rattle.shared_certificates.specs.declared.nodes.Step as code_step
use Rattle.shared_certificates.specs.declared.nodes.Step.TheVariants as code_steps
use Rattle.shared_certificates.specs.declared.nodes.Node as code_node
use Rattle.shared_certificates.specs.declared.nodes.Node.TheVariants as code_nodes
use Rattle.shared_certificates.specs.declared.nodes.Table.{Table}

-- a tree whose parts are the numbers of trees before it, which count from 0
pub data Node : Type 0 where
  contradiction : Node
  farkas_sum : List (ℕ × ℕ) → Node
  linear_sum : List (ℕ × ℤ) → Node
  division : Step → List ℕ → Node

-- trees by number, how many levels each has, and the number of each condition's tree, in the order of the conditions
pub record Shared : Type 0 where
  pub nodes : List Node
  pub levels : List ℕ
  pub roots : List ℕ

abbrev pub nothing_shared : Shared
nothing_shared = record { nodes = []; levels = []; roots = [] }

-- a number's tree
abbrev pub tree : List Tree → ℕ → Tree
tree ts n = slice_index_or ts n impossible

-- what a node means, by the trees before it
abbrev pub unfolded : List Tree → Node → Tree
unfolded ts contradiction = impossible
unfolded ts (farkas_sum ps) = farkas ps
unfolded ts (linear_sum ps) = linear ps
unfolded ts (division s ns) = branch s (trees (map (tree ts) ns))

-- the trees of nodes, behind others
abbrev pub trees_of : List Tree → List Node → List Tree
trees_of ts [] = ts
trees_of ts (n ∷ ns) = trees_of (ts ++ unfolded ts n ∷ []) ns

-- the certificate of each condition
abbrev pub certificates : Shared → List Tree
certificates t = map (tree (trees_of [] t.nodes)) t.roots

-- the code's nodes as plain data
abbrev pub step_view : code_step.Step → Step
step_view (code_steps.Case c) = by_case c
step_view (code_steps.Truth v) = by_truth v
step_view (code_steps.Split k) = by_split k
step_view (code_steps.Cut f) = by_cut f.value

abbrev pub node_view : code_node.Node → Node
node_view code_nodes.Absurd = contradiction
node_view (code_nodes.Farkas ps) = farkas_sum ps.items
node_view (code_nodes.Linear ps) = linear_sum ps.items
node_view (code_nodes.Branch s ns) = division (step_view s) ns.items

abbrev pub table_view : Table → Shared
table_view t = record { nodes = map node_view t.nodes.items; levels = t.levels.items; roots = t.roots.items }
