use Rattle.std.proofs.Common.{arith}
use Rattle.std.proofs.lemmas.Grind.{common_steps}
use Rattle.std.proofs.lemmas.Option.{gets}
use Rattle.nested_net.proofs.Reading.{top_some, top_none}
use Rattle.nested_net.proofs.levels.top_at.Goals as goal

pub returns-in-Some : goal.returns-in-Some
returns-in-Some c = top_some c.args.levels.now c.args.depth c.in-Some.level.now c.args.delay.now (grind (arith, common_steps, gets))

pub returns-in-None : goal.returns-in-None
returns-in-None c = top_none c.args.levels.now c.args.depth c.args.delay.now (grind (arith, common_steps, gets))
