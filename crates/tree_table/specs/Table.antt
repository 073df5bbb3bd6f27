-- A table of trees as callers see it: the list of the trees that have a number.
use Rattle.std.specs.Prelude.{◌≡◌, ℕ, ◌<◌, ◌≤◌, All, List, length, map, slice_index_or}
use Rattle.st_certificate.specs.Tree.{Tree, Trees, impossible, trees, by_case, by_truth, by_split, Step as PlainStep}
use Rattle.tree_table.specs.declared.nodes.Step.{Step}
use Rattle.tree_table.specs.declared.nodes.Step.TheVariants.{Case, Truth, Split}

-- a number's tree
abbrev pub tree : List Tree → ℕ → Tree
tree ts n = slice_index_or ts n impossible

-- the trees of some numbers
abbrev pub listed : List Tree → List ℕ → Trees
listed ts ns = trees (map (tree ts) ns)

-- a step of the program as plain data
abbrev pub step_of : Step → PlainStep
step_of (Case c) = by_case c
step_of (Truth v) = by_truth v
step_of (Split k) = by_split k

-- these numbers have trees
abbrev pub AreThere : List Tree → List ℕ → Type 0
AreThere ts ns = All (λ n. n < length ts) ns

-- a number has this tree
abbrev pub Is : List Tree → ℕ → Tree → Type 0
Is ts n t = (n < length ts) × (tree ts n ≡ t)

-- each number that had a tree has the same one
pub record Extends (old new : List Tree) : Type 0 where
  pub longer : length old ≤ length new
  pub same : (n : ℕ) → n < length old → tree new n ≡ tree old n
