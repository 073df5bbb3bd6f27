use Rattle.std.proofs.Common.{◌<◌, length, arith}
use Rattle.form_table.proofs.Pushing.{number-there}
use Rattle.form_table.proofs.stores.Store.has.Goals as goal

pub returns-then-number-len : goal.returns-then-number-len
returns-then-number-len c h =
    let there : c.args.number < length c.self.inside.nodes.items = omega (arith, c.if-number-len.true, c.len.ensures, c.self.inside.nodes.ok.0) in
    number-there _ _ _ c.self.view_is there
