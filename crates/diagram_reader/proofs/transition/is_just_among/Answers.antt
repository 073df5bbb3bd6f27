use Rattle.std.proofs.Common.{arith}
use Rattle.std.proofs.lemmas.Grind.{common_steps}
use Rattle.std.proofs.lemmas.Option.{gets}
use Rattle.diagram_reader.proofs.Justice.{just_some, just_none}
use Rattle.diagram_reader.proofs.transition.is_just_among.Goals as goal

pub returns-in-Some : goal.returns-in-Some
returns-in-Some c = just_some c.args.transitions.now c.args.number c.in-Some.transition.now _ (grind (arith, common_steps, gets)) c.is_just.ensures

pub returns-in-None : goal.returns-in-None
returns-in-None c = just_none c.args.transitions.now c.args.number (grind (arith, common_steps, gets))
