-- A table that grows: each number keeps its tree.
use Rattle.std.specs.Prelude.{◌≡◌, ℕ, ◌<◌, All, List, [], map, length, slice_index_or}
use Rattle.st_certificate.specs.Tree.{Tree}
use Rattle.tree_table.specs.Table.{AreThere, Extends, Is}
use Rattle.shared_certificates.specs.Nodes.{Node, contradiction, farkas_sum, linear_sum, division, node_view, tree, trees_of}
use Rattle.shared_certificates.specs.declared.nodes.Node as code_node
use Rattle.shared_certificates.specs.declared.nodes.Node.TheVariants.{Absurd}
use Rattle.shared_certificates.specs.declared.nodes.Table.{Table}

-- the trees of nodes in a row, and those of a table
abbrev pub trees_by : List code_node.Node → List Tree
trees_by ns = trees_of [] (map node_view ns)

abbrev pub trees_in : Table → List Tree
trees_in t = trees_by t.nodes.items

-- a node refers to trees of smaller numbers than this one alone
abbrev pub HasPartsBelow : ℕ → Node → Type 0
HasPartsBelow count contradiction = Unit {0}
HasPartsBelow count (farkas_sum ps) = Unit {0}
HasPartsBelow count (linear_sum ps) = Unit {0}
HasPartsBelow count (division s ns) = All (λ n. n < count) ns

-- a node is kept under a number, and refers to smaller ones
pub record IsKept (ns : List code_node.Node) (number : ℕ) (n : Node) : Type 0 where
  pub there : number < length ns
  pub same : node_view (slice_index_or ns number Absurd) ≡ n
  pub below : HasPartsBelow number n

-- the trees that were there have their numbers, and this tree has one
pub record Has (old new : List Tree) (number : ℕ) (t : Tree) : Type 0 where
  pub extends : Extends old new
  pub is : Is new number t

-- and so have these trees
pub record HasAll (old new : List Tree) (numbers : List ℕ) (ts : List Tree) : Type 0 where
  pub extends : Extends old new
  pub there : AreThere new numbers
  pub same : map (tree new) numbers ≡ ts
