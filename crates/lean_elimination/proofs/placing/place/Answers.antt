use Rattle.lean_elimination.proofs.Growing.{under-push}
use Rattle.lean_elimination.proofs.placing.place.Goals as goal

pub returns-in_ok-push-in-Stays-clause-under : goal.returns-in_ok-push-in-Stays-clause-under
returns-in_ok-push-in-Stays-clause-under c = rw c.in_ok-push-in-Stays.ensures.items (under-push _ c.args.next.now.items c.args.k c.requires.list c.requires.row)
