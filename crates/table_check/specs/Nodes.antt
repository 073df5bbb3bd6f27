-- The nodes of a table that was read, and the trees that they are.
use Rattle.std.specs.Prelude.{◌≡◌, ℕ, ◌<◌, List, [], length, map, slice_index_or, Ok}
use Rattle.st_certificate.specs.Tree.{Tree}
use Rattle.shared_certificates.specs.declared.nodes.Node as code_node
use Rattle.shared_certificates.specs.declared.nodes.Table.{Table}
use Rattle.shared_certificates.specs.Nodes.{node_view, table_view, trees_of}
use Rattle.shared_certificates.specs.Lines.{lines}
use Rattle.shared_certificates.specs.Reading.{text_read}
use Rattle.shared_certificates.specs.Grammar.{IsNode}

-- the trees of nodes, by number
abbrev pub trees_by : List code_node.Node → List Tree
trees_by ns = trees_of [] (map node_view ns)

-- some text spells the table
abbrev pub IsSpelled : Table → Type 0
IsSpelled t = (text : List ℕ) × (text_read (lines text) ≡ Ok (table_view t))

-- each node is within the limits, and refers to nodes before it alone
pub record AreNodes (ns : List code_node.Node) : Type 0 where
  pub each : (i : ℕ) (d : code_node.Node) → i < length ns → IsNode i (node_view (slice_index_or ns i d))
