-- The tree that a search finds where none of its problems fails: at each problem the move is a leaf, which is the tree, or
-- a division, whose trees are those of its problems. No count of nodes or levels enters.
use Rattle.std.specs.Prelude.{◌≡◌, List, [], ◌∷◌}
use Rattle.st_certificate.specs.Tree.{Tree, Trees, impossible, branch, farkas, linear, no_tree, with_tree}
use Rattle.search_laws.specs.Walks.{Move, closes, divides}

abbrev mutual
  pub Finds : {P : Type 0} → (P → Move P) → Tree → P → Type 0
  Finds move impossible p = move p ≡ closes impossible
  Finds move (farkas picks) p = move p ≡ closes (farkas picks)
  Finds move (linear picks) p = move p ≡ closes (linear picks)
  Finds {P} move (branch s ts) p = (ps : List P) × (move p ≡ divides s ps) × FindsAll move ts ps

  pub FindsAll : {P : Type 0} → (P → Move P) → Trees → List P → Type 0
  FindsAll move no_tree [] = Unit {0}
  FindsAll move no_tree (p ∷ ps) = ⊥
  FindsAll move (with_tree t ts) [] = ⊥
  FindsAll move (with_tree t ts) (p ∷ ps) = Finds move t p × FindsAll move ts ps
