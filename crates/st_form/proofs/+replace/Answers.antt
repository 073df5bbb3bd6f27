use Rattle.std.proofs.Common.{arith}
use Rattle.st_form.proofs.Exchanging.{onto-step, onto-end}
use Rattle.st_form.specs.Plain.{plain_change}
use Rattle.st_form.proofs.+replace.Goals as goal

pub replacement::replace_all-loop-f-preserved : goal.replacement::replace_all-loop-f-preserved
replacement::replace_all-loop-f-preserved t c =
    rw c.in_ok-push.ensures.items
    (onto-step (plain_change c.args.change.now) c.args.fs.now c.loop-f.out.items c.loop-f.f-index _ c.in_ok-after.after _ (omega arith) c.f-item.is c.in_ok-after.ensures c.loop-f.invariant)

pub replacement::replace_all-returns : goal.replacement::replace_all-returns
replacement::replace_all-returns t c = onto-end (plain_change c.args.change.now) c.args.fs.now _ c.loop-f.f-index _ c.loop-f-test.false c.loop-f.invariant
