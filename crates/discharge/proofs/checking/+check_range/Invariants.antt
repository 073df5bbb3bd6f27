use Rattle.std.proofs.Common.{◌*◌, ◌+◌}
use Rattle.discharge.proofs.checking.+check_range.Given as goal

abbrev pub decreases-check_range : goal.decreases-check_range
decreases-check_range g l = 4 * l.share.workers + 3

abbrev pub decreases-check_both : goal.decreases-check_both
decreases-check_both g l = 4 * l.share.workers + 2

abbrev pub decreases-check_both-join+arg2 : goal.decreases-check_both-join+arg2
decreases-check_both-join+arg2 g l = 4 * l.left.workers + 4

abbrev pub decreases-check_both-join+arg3 : goal.decreases-check_both-join+arg3
decreases-check_both-join+arg3 g l = 4 * l.right.workers + 4
