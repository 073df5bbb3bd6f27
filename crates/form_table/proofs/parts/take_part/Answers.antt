use Rattle.form_table.proofs.Taking.{takes-constant-true, takes-constant-false}
use Rattle.form_table.proofs.parts.take_part.Goals as goal

pub returns-then-value-clause-takes : goal.returns-then-value-clause-takes
returns-then-value-clause-takes c = takes-constant-true c.args.all c.args.store.now c.args.part c.in-Truth.value _ c.in-Truth.ensures c.if-value.true

pub returns-else-value-clause-takes : goal.returns-else-value-clause-takes
returns-else-value-clause-takes c = takes-constant-false c.args.all c.args.store.now c.args.part c.in-Truth.value _ c.in-Truth.ensures c.if-value.false
