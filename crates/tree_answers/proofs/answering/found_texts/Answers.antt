use Rattle.std.proofs.lemmas.Result.{IfOk-weaker}
use Rattle.tree_answers.proofs.Finding.{held}
use Rattle.tree_answers.proofs.answering.found_texts.Goals as goal

pub answer_to-requires : goal.answer_to-requires
answer_to-requires c =
    let made = rw c.in-Some.is at c.in_ok-posed.ensures in
    record { translated = made.0.made; searchable = made.1.made.searchable }

pub returns-in-Some : goal.returns-in-Some
returns-in-Some c =
    (let made = rw c.in-Some.is at c.in_ok-posed.ensures in
    IfOk-weaker c.answer_to.result _ _ (λ o h. held c.args.program.now c.args.proof.now c.in-Some.posed o made.0 made.1 h) c.answer_to.ensures)
