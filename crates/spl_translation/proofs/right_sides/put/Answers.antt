use Rattle.spl_translation.proofs.Insertions.{on_plain}
use Rattle.spl_translation.proofs.right_sides.put.Goals as goal

pub returns-in-Truth-clause-truths : goal.returns-in-Truth-clause-truths
returns-in-Truth-clause-truths c =
    rw c.in-Truth.is (on_plain c.put_pair-in-Truth.result c.args.var c.in-Truth.form c.put_pair-in-Truth.new.pairs.items c.args.values.now.truths.items c.put_pair-in-Truth.ensures)
