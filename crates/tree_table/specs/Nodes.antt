-- What the nodes of a table mean: its trees, made one after the other, each of those before it.
use Rattle.std.specs.Prelude.{◌≡◌, ℕ, ℤ, ◌+◌, ◌<◌, ◌≤◌, min, List, [], ◌∷◌, ◌++◌, length, take, drop, All, slice_index_or}
use Rattle.st_certificate.specs.Tree.{Tree, impossible, branch, linear}
use Rattle.search_laws.specs.Sizes.{nodes, levels}
use Rattle.tree_table.specs.Table.{Is, tree, listed, step_of}
use Rattle.tree_table.specs.declared.nodes.Node.{Node}
use Rattle.tree_table.specs.declared.nodes.Size.{Size}
use Rattle.tree_table.specs.declared.nodes.Kind.{Kind}
use Rattle.tree_table.specs.declared.nodes.Kind.TheVariants.{Absurd, Linear, Branch}

-- the numbers of a branch's parts
abbrev pub parts_at : List ℕ → ℕ → ℕ → List ℕ
parts_at ks a b = take b (drop a ks)

-- the picks of a leaf
abbrev pub picks_at : List (ℕ × ℤ) → ℕ → ℕ → List (ℕ × ℤ)
picks_at ps a b = take b (drop a ps)

-- the tree of a kind, by the trees of smaller numbers
abbrev pub formed : List ℕ → List (ℕ × ℤ) → List Tree → Kind → Tree
formed ks ps ts Absurd = impossible
formed ks ps ts (Linear a b) = linear (picks_at ps a b)
formed ks ps ts (Branch s a b) = branch (step_of s) (listed ts (parts_at ks a b))

-- the trees of nodes, behind others
abbrev pub grown : List ℕ → List (ℕ × ℤ) → List Tree → List Node → List Tree
grown ks ps ts [] = ts
grown ks ps ts (n ∷ ns) = grown ks ps (ts ++ formed ks ps ts n.kind ∷ []) ns

pub record ArePartsBelow (ks : List ℕ) (i a b : ℕ) : Type 0 where
  pub within : a + b ≤ length ks
  pub below : All (λ k. k < i) (parts_at ks a b)

-- what a kind refers to is there, and its parts have smaller numbers than i
abbrev pub IsFormed : List ℕ → List (ℕ × ℤ) → ℕ → Kind → Type 0
IsFormed ks ps i Absurd = Unit {0}
IsFormed ks ps i (Linear a b) = a + b ≤ length ps
IsFormed ks ps i (Branch s a b) = ArePartsBelow ks i a b

-- the same of each node, the first of which has the number i
abbrev pub AreFormed : List ℕ → List (ℕ × ℤ) → ℕ → List Node → Type 0
AreFormed ks ps i [] = Unit {0}
AreFormed ks ps i (n ∷ ns) = IsFormed ks ps i n.kind × AreFormed ks ps (i + 1) ns

-- the size of a tree, where what is above the limits counts as just above them
pub record IsSize (s : Size) (t : Tree) : Type 0 where
  pub count : s.nodes ≡ min (nodes t) 100001
  pub depth : s.levels ≡ min (levels t) 401

-- each node has the size of the tree with its number
abbrev pub AreSized : List Node → List Tree → Type 0
AreSized ns ts = (i : ℕ) (n : Node) → i < length ns → IsSize (slice_index_or ns i n).size (tree ts i)

-- a table as it is kept
pub record Kept : Type 0 where
  pub nodes : List Node
  pub parts : List ℕ
  pub picks : List (ℕ × ℤ)

-- the trees of a table
abbrev pub trees_in : Kept → List Tree
trees_in t = grown t.parts t.picks [] t.nodes

-- the nodes are formed and sized, and the first is the tree of a false problem
pub record IsSound (t : Kept) : Type 0 where
  pub formed : AreFormed t.parts t.picks 0 t.nodes
  pub sized : AreSized t.nodes (trees_in t)
  pub zero : Is (trees_in t) 0 impossible

-- a node is kept under a number
pub record IsNode (t : Kept) (number : ℕ) (n : Node) : Type 0 where
  pub same : tree (trees_in t) number ≡ formed t.parts t.picks (trees_in t) n.kind
  pub formed : IsFormed t.parts t.picks number n.kind
  pub sized : IsSize n.size (tree (trees_in t) number)
