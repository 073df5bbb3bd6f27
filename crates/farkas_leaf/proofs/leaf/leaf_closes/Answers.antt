use Rattle.farkas_leaf.proofs.RowLines.{closes-lines}
use Rattle.farkas_leaf.proofs.Laws.{rows_no_solution}
use Rattle.farkas_leaf.proofs.leaf.leaf_closes.Goals as goal

pub returns-clause-exact : goal.returns-clause-exact
returns-clause-exact c =
    let same = closes-lines c.args.rows.now c.args.picks.now in
    (λ yes'. same.1 (c.closes.ensures.0 yes'), λ h. c.closes.ensures.1 (same.0 h))

pub returns-clause-sound : goal.returns-clause-sound
returns-clause-sound c = λ yes'. rows_no_solution c.args.rows.now c.args.picks.now ((returns-clause-exact c).0 yes')
