use Rattle.std.proofs.Common.{subst, sym}
use Rattle.form_table.specs.Memory.{AreRead}
use Rattle.form_table.proofs.Recalling.{read-more}
use Rattle.form_table.proofs.readings.widen.Goals as goal

pub returns-in_err-push : goal.returns-in_err-push
returns-in_err-push c ts h = subst (AreRead ts) (sym c.in_err-push.ensures.items) (c.loop.invariant ts h)

pub loop-preserved : goal.loop-preserved
loop-preserved c ts h = read-more ts _ _ c.in_ok-push.ensures.items (c.loop.invariant ts h)

pub returns-in_ok-push : goal.returns-in_ok-push
returns-in_ok-push c ts h = read-more ts _ _ c.in_ok-push.ensures.items (c.loop.invariant ts h)
