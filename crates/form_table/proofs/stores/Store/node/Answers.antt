use Rattle.std.proofs.Common.{arith}
use Rattle.form_table.proofs.Pushing.{number-within, node-is}
use Rattle.form_table.proofs.stores.Store.node.Goals as goal

pub index-requires : goal.index-requires
index-requires c = omega (arith, number-within _ _ _ c.self.view_is c.requires, c.self.inside.nodes.ok.0)

pub returns : goal.returns
returns c = node-is _ _ _ _ _ c.self.view_is c.self.invariant c.requires c.index.ensures
