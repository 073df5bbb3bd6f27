use Rattle.farkas_leaf.proofs.RowLines.{lines-same, picks-same}
use Rattle.farkas_leaf.proofs.Laws.{lines_no_solution}
use Rattle.farkas_leaf.proofs.lines.linear_closes.Goals as goal

pub returns-clause-exact : goal.returns-clause-exact
returns-clause-exact c = rw (lines-same c.args.lines.now, picks-same c.args.picks.now) at c.closes.ensures

pub returns-clause-sound : goal.returns-clause-sound
returns-clause-sound c = λ yes'. lines_no_solution c.args.lines.now c.args.picks.now ((returns-clause-exact c).0 yes')
