use Rattle.form_table.proofs.Pushing.{lined, extends-from}
use Rattle.form_table.proofs.stores.Store.equal.Goals as goal

pub invariant_of-self-2 : goal.invariant_of-self-2
invariant_of-self-2 c = (lined _ _ _ _ c.self.view_is c.self.invariant c.in_ok-push.ensures.items).sound

pub returns-clause-extends : goal.returns-clause-extends
returns-clause-extends c = extends-from _ _ _ (lined _ _ _ _ c.self.view_is c.self.invariant c.in_ok-push.ensures.items).same c.push-2.ensures.extends
