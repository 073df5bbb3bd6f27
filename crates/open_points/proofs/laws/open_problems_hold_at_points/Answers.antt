use Rattle.open_points.proofs.Holding.{holds}
use Rattle.open_points.proofs.laws.open_problems_hold_at_points.Goals as goal

pub returns : goal.returns
returns c = holds c.searches_end_there.ensures
