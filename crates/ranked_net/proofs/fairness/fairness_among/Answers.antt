use Rattle.std.proofs.Common.{arith}
use Rattle.std.proofs.lemmas.Grind.{common_steps}
use Rattle.std.proofs.lemmas.Option.{gets}
use Rattle.ranked_net.proofs.Found.{fairness_some, fairness_none}
use Rattle.ranked_net.proofs.fairness.fairness_among.Goals as goal

pub returns-in-Some : goal.returns-in-Some
returns-in-Some c = fairness_some c.args.transitions.now c.args.number c.in-Some.transition.now (grind (arith, common_steps, gets))

pub returns-in-None : goal.returns-in-None
returns-in-None c = fairness_none c.args.transitions.now c.args.number (grind (arith, common_steps, gets))
