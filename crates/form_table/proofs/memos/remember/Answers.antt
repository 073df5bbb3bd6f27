use Rattle.form_table.proofs.memos.remember.Goals as goal

pub returns-clause-entries : goal.returns-clause-entries
returns-clause-entries c ts cs h k = c.put.ensures ts cs (c.widen.ensures.entries ts cs h) k

pub returns-in_err-widen-clause-entries : goal.returns-in_err-widen-clause-entries
returns-in_err-widen-clause-entries c ts cs h k = c.widen.ensures.entries ts cs h
