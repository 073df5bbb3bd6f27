use Rattle.std.proofs.Common.{arith}
use Rattle.spl_semantics.proofs.Placing.{same-length, set-place}
use Rattle.spl_semantics.proofs.children.placed.Goals as goal

pub index_mut-requires : goal.index_mut-requires
index_mut-requires c = omega (arith, c.requires, same-length c.in_ok-all.all.items c.args.residuals.now c.in_ok-all.ensures)

pub returns : goal.returns
returns c = set-place c.in_ok-all.all.items c.args.residuals.now c.args.place c.args.left c.in_ok-all.ensures c.requires
