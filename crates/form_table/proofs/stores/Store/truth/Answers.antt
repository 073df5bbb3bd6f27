use Rattle.form_table.proofs.Pushing.{one-is, zero-is}
use Rattle.form_table.proofs.stores.Store.truth.Goals as goal

pub returns-then-value : goal.returns-then-value
returns-then-value c = one-is _ _ _ c.self.view_is c.self.invariant c.if-value.true

pub returns-else-value : goal.returns-else-value
returns-else-value c = zero-is _ _ _ c.self.view_is c.self.invariant c.if-value.false
