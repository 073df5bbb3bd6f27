use Rattle.trace_player.proofs.Controls.{end_found, end_absent}
use Rattle.trace_player.proofs.fronts.end_at.Goals as goal

pub returns-in-Some : goal.returns-in-Some
returns-in-Some c = end_found c.args.children.now c.args.place c.in-Some.child.now c.in-Some.ensures.lookup.0 c.in-Some.ensures.lookup.1

pub returns-in-None : goal.returns-in-None
returns-in-None c = end_absent c.args.children.now c.args.place c.in-None.ensures.lookup.0
