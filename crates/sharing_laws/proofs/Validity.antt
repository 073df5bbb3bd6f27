-- What the search over lists finds is a valid certificate, whatever its size: each move of the search over problems is sound, and the walk's
-- counts of nodes and levels enter nowhere.
use Rattle.std.proofs.Common.{◌≡◌, List, [], ◌∷◌, length}
use Rattle.st_certificate.specs.Tree.{Tree, Trees, impossible, branch, farkas, linear, no_tree, with_tree}
use Rattle.farkas_check.specs.Problem.{Setting, Problem, first_problem}
use Rattle.search_laws.specs.Forms.{IsProper}
use Rattle.search_laws.specs.Walks.{closes, divides}
use Rattle.search_laws.specs.Moves.{move_of}
use Rattle.search_laws.proofs.Finding.{Sound, Good, search-sound, proper-keeps}
use Rattle.search_laws.proofs.Shapes.{first-shaped}
use Rattle.search_laws.proofs.Walking.{AllOf, EachOf}
use Rattle.sharing_laws.specs.Contexts.{FoundTreesAreValid}
use Rattle.sharing_laws.specs.Finds.{Finds, FindsAll}
use Rattle.sharing_laws.proofs.Moving.{problems-find}

mutual
  finds-sound : (k : Setting) (t : Tree) (p : Problem) → Good k p → Finds (move_of k) t p → Sound k t p
  finds-sound k impossible p g h = (search-sound k).closing p impossible g h
  finds-sound k (farkas picks) p g h = (search-sound k).closing p (farkas picks) g h
  finds-sound k (linear picks) p g h = (search-sound k).closing p (linear picks) g h
  finds-sound k (branch s ts) p g h = (search-sound k).dividing p s h.0 ts g h.1 (all-sound k ts h.0 ((search-sound k).keeping p s h.0 g h.1) h.2)

  all-sound : (k : Setting) (ts : Trees) (ps : List Problem) → AllOf (Good k) ps → FindsAll (move_of k) ts ps → EachOf (Sound k) ts ps
  all-sound k no_tree [] g h = tt
  all-sound k no_tree (p ∷ ps) g h = absurd h
  all-sound k (with_tree t ts) [] g h = absurd h
  all-sound k (with_tree t ts) (p ∷ ps) g h = (finds-sound k t p g.0 h.0, all-sound k ts ps g.1 h.1)

pub found-valid : FoundTreesAreValid
found-valid k given shown t g s h =
    let p : Problem = first_problem k given shown in
    (finds-sound k t p (first-shaped (IsProper (length k.variables)) (proper-keeps (length k.variables)) k given shown g s) (problems-find k given shown t h)).0
