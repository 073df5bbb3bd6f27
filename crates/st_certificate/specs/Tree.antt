-- Certificates as plain data: a step divides a problem, and has a certificate for each part; a leaf refutes its part.
use Rattle.std.specs.Prelude.{ℕ, ℤ, List, [], ◌∷◌}
use Rattle.st_linear.specs.Linear.{Linear}

-- how a certificate divides a problem
pub data Step : Type 0 where
  by_case : ℕ → Step
  by_truth : ℕ → Step
  by_split : ℕ → Step
  by_cut : Linear → Step

-- a certificate as plain data
mutual
  pub data Tree : Type 0 where
    impossible : Tree
    branch : Step → Trees → Tree
    farkas : List (ℕ × ℕ) → Tree
    linear : List (ℕ × ℤ) → Tree

  pub data Trees : Type 0 where
    no_tree : Trees
    with_tree : Tree → Trees → Trees

abbrev pub trees : List Tree → Trees
trees [] = no_tree
trees (t ∷ ts) = with_tree t (trees ts)
