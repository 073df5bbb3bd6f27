use Rattle.tree_table.proofs.Pushing.{picked, extends-from}
use Rattle.tree_table.proofs.tables.TreeTable.linear.Goals as goal

pub invariant_of-self-2 : goal.invariant_of-self-2
invariant_of-self-2 c = (picked _ _ _ _ c.self.view_is c.self.invariant c.in_ok-extend_from_slice.ensures.items).sound

pub returns-clause-extends : goal.returns-clause-extends
returns-clause-extends c = extends-from _ _ _ (picked _ _ _ _ c.self.view_is c.self.invariant c.in_ok-extend_from_slice.ensures.items).same c.push.ensures.extends
