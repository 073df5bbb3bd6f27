use Rattle.farkas_check.specs.PlainProblem.{setting}
use Rattle.shared_certificates.specs.Nodes.{certificates, table_view}
use Rattle.table_answers.proofs.Holding.{each-has}
use Rattle.table_answers.proofs.answering.answer_to.Goals as goal

pub returns : goal.returns
returns c = λ pt qt of by.
    (let trees = c.in_ok-has_trees.ensures c.if-not-branch.false in
    let k = setting c.args.posed.now.source.components c.args.posed.now.source.program.variables in
    (trees, c.in_ok-certified.ensures pt qt of by (each-has k c.args.posed.now.proof.conditions.items (certificates (table_view c.args.table.now)) trees)))
