use Rattle.std.proofs.Common.{arith}
use Rattle.std.proofs.lemmas.Grind.{common_steps}
use Rattle.std.proofs.lemmas.Option.{gets}
use Rattle.ranked_net.proofs.Found.{enabled_none}
use Rattle.ranked_net.proofs.fairness.enabled_among.Goals as goal

pub returns-in-None : goal.returns-in-None
returns-in-None c = enabled_none c.args.transitions.now c.args.number (grind (arith, common_steps, gets))
