use Rattle.std.proofs.Common.{arith}
use Rattle.std.proofs.lemmas.Grind.{common_steps}
use Rattle.std.proofs.lemmas.Option.{gets}
use Rattle.nested_net.proofs.Reading.{group_some, group_none}
use Rattle.nested_net.proofs.levels.group_at.Goals as goal

pub returns-in-Some : goal.returns-in-Some
returns-in-Some c = group_some c.args.levels.now c.args.depth c.in-Some.level.now (grind (arith, common_steps, gets))

pub returns-in-None : goal.returns-in-None
returns-in-None c = group_none c.args.levels.now c.args.depth (grind (arith, common_steps, gets))
