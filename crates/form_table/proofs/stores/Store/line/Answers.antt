use Rattle.std.proofs.Common.{arith}
use Rattle.form_table.proofs.Pushing.{line-within, line-is}
use Rattle.form_table.proofs.stores.Store.line.Goals as goal

pub index-requires : goal.index-requires
index-requires c = omega (arith, line-within _ _ _ c.self.view_is c.requires, c.self.inside.lines.ok.0)

pub returns : goal.returns
returns c = line-is _ _ _ _ _ c.self.view_is (line-within _ _ _ c.self.view_is c.requires) c.index.ensures
