use Rattle.std.proofs.Common.{inr}
use Rattle.posed_conditions.proofs.posing.pose.Goals as goal

pub returns-in-Err-clause-refused : goal.returns-in-Err-clause-refused
returns-in-Err-clause-refused c = inr (c.in_ok-source.source, c.in_ok-source.ensures.made, c.in-Err.ensures.refused)
