use Rattle.std.specs.Prelude.{List, map}
use Rattle.st_certificate.specs.Tree.{by_case, by_truth, by_split, by_cut, Tree, Trees, impossible, branch, farkas, linear, trees}
use Rattle.st_certificate.specs.declared.Certificate.{Certificate}
use Rattle.st_certificate.specs.declared.Certificate.TheOpen.{Certificate-F}
use Rattle.st_certificate.specs.declared.Certificate.TheFolds.{fold-Certificate}

-- one node, with the plain data of each part in its place
abbrev pub node : Certificate-F Tree → Tree
node (Certificate-F.Case c ts) = branch (by_case c) (trees ts.items)
node (Certificate-F.Bool v ts) = branch (by_truth v) (trees ts.items)
node (Certificate-F.Split k ts) = branch (by_split k) (trees ts.items)
node (Certificate-F.Cut f ts) = branch (by_cut f.value) (trees ts.items)
node Certificate-F.Absurd = impossible
node (Certificate-F.Farkas ps) = farkas ps.items
node (Certificate-F.Linear ps) = linear ps.items

-- a certificate of the program as plain data
abbrev pub plain : Certificate → Tree
plain = fold-Certificate Tree node

abbrev pub plain_trees : List Certificate → Trees
plain_trees ts = trees (map plain ts)
