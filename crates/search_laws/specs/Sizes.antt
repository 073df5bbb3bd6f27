-- How large a certificate is.
use Rattle.std.specs.Prelude.{ℕ, ◌+◌, ◌<◌, ◌≤◌, max, List, [], ◌∷◌, length}
use Rattle.st_certificate.specs.Tree.{Tree, Trees, impossible, branch, farkas, linear, no_tree, with_tree}
use Rattle.search_laws.specs.Walks.{PathStep, Found, found, stopped}

abbrev mutual
  -- the number of nodes
  pub nodes : Tree → ℕ
  nodes impossible = 1
  nodes (branch s ts) = 1 + nodes_of ts
  nodes (farkas ps) = 1
  nodes (linear ps) = 1

  pub nodes_of : Trees → ℕ
  nodes_of no_tree = 0
  nodes_of (with_tree t ts) = nodes t + nodes_of ts

abbrev mutual
  -- the number of nodes on the longest way down
  pub levels : Tree → ℕ
  levels impossible = 1
  levels (branch s ts) = 1 + levels_of ts
  levels (farkas ps) = 1
  levels (linear ps) = 1

  pub levels_of : Trees → ℕ
  levels_of no_tree = 0
  levels_of (with_tree t ts) = max (levels t) (levels_of ts)

-- at most 100,000 nodes, and no node with 400 nodes round it
pub record IsModestTree (t : Tree) : Type 0 where
  pub count : nodes t ≤ 100000
  pub depth : levels t ≤ 400

abbrev pub BranchesAreFew : List PathStep → Type 0
BranchesAreFew [] = Unit {0}
BranchesAreFew (x ∷ path) = (x.branch < 100000) × BranchesAreFew path

-- at most 400 steps, and each branch's number is below 100,000
pub record IsShort (path : List PathStep) : Type 0 where
  pub steps : length path ≤ 400
  pub branches : BranchesAreFew path

-- the path of a failure
abbrev pub FailsShort : Found → Type 0
FailsShort (found t n) = Unit {0}
FailsShort (stopped path e) = IsShort path
