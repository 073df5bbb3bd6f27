use Rattle.tree_table.proofs.Pushing.{zero-is}
use Rattle.tree_table.proofs.tables.TreeTable.absurd.Goals as goal

pub returns : goal.returns
returns c = zero-is _ _ c.self.view_is c.self.invariant
