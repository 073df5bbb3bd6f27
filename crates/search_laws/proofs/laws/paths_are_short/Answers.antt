use Rattle.search_laws.specs.Moves.{move_of}
use Rattle.farkas_check.specs.Problem.{first_problem}
use Rattle.search_laws.proofs.Counting.{searched-short}
use Rattle.search_laws.proofs.laws.paths_are_short.Goals as goal

pub returns : goal.returns
returns c k given shown = searched-short (move_of k) (first_problem k given shown)
