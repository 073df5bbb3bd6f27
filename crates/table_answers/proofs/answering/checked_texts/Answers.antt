use Rattle.shared_certificates.specs.Nodes.{table_view}
use Rattle.table_answers.proofs.answering.checked_texts.Goals as goal

pub checked_by-requires : goal.checked_by-requires
checked_by-requires c = (c.args.third.now, rw c.in-Some.is at c.in_ok-table.ensures)

pub returns-in-Some : goal.returns-in-Some
returns-in-Some c = c.checked_by.ensures c.args.third.now ((c.text_is_exact.ensures c.args.third.now (table_view c.in-Some.table)).0 (rw c.in-Some.is at c.in_ok-table.ensures))
