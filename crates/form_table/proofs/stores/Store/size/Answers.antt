use Rattle.std.proofs.Common.{arith}
use Rattle.form_table.proofs.Pushing.{size-is}
use Rattle.form_table.proofs.stores.Store.size.Goals as goal

pub returns : goal.returns
returns c = size-is _ _ _ c.self.view_is (omega (arith, c.len.ensures, c.self.inside.nodes.ok.0))
