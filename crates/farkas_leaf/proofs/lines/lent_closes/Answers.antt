use Rattle.std.proofs.Common.{map}
use Rattle.farkas_leaf.specs.Lent.{lent_line}
use Rattle.farkas_leaf.proofs.RowLines.{picks-same}
use Rattle.farkas_leaf.proofs.Laws.{lines_no_solution}
use Rattle.farkas_leaf.proofs.lines.lent_closes.Goals as goal

pub returns-clause-exact : goal.returns-clause-exact
returns-clause-exact c = rw (picks-same c.args.picks.now) at c.closes.ensures

pub returns-clause-sound : goal.returns-clause-sound
returns-clause-sound c = λ yes'. lines_no_solution (map lent_line c.args.lines.now) c.args.picks.now ((returns-clause-exact c).0 yes')
