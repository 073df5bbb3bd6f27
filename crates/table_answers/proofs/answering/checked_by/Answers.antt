use Rattle.std.proofs.lemmas.Result.{IfOk-weaker}
use Rattle.shared_certificates.specs.Nodes.{table_view}
use Rattle.table_answers.proofs.Holding.{held}
use Rattle.table_answers.proofs.answering.checked_by.Goals as goal

pub answer_to-requires : goal.answer_to-requires
answer_to-requires c =
    let made = rw c.in-Some.is at c.in_ok-posed.ensures in
    record { translated = made.0.made; searchable = made.1.made.searchable; spelled = c.requires }

pub returns-in-Some : goal.returns-in-Some
returns-in-Some c = λ ct is.
    (let made = rw c.in-Some.is at c.in_ok-posed.ensures in
    IfOk-weaker c.answer_to.result _ _ (λ o h. held c.args.program.now c.args.proof.now ct c.in-Some.posed (table_view c.args.table.now) o made.0 made.1 is h) c.answer_to.ensures)
