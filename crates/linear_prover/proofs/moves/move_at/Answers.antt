use Rattle.linear_prover.proofs.moves.move_at.Goals as goal

pub returns-in-Some-clause-applies : goal.returns-in-Some-clause-applies
returns-in-Some-clause-applies c = c.by_component.ensures.applies c.args.fs.now

pub returns-in-Some-first_truth_among-clause-applies : goal.returns-in-Some-first_truth_among-clause-applies
returns-in-Some-first_truth_among-clause-applies c = c.by_truth.ensures.applies c.args.fs.now
