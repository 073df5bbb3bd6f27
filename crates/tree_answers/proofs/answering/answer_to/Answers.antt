use Rattle.tree_answers.proofs.answering.answer_to.Goals as goal

pub returns : goal.returns
returns c = λ pt qt of by. c.in_ok-certified.ensures pt qt of by (c.in_ok-has_trees.ensures c.if-not-branch.false)
