use Rattle.std.proofs.Common.{◌*◌, ◌+◌}
use Rattle.discharge.proofs.searching.+search_range.Given as goal

abbrev pub decreases-search_range : goal.decreases-search_range
decreases-search_range g l = 4 * l.range.workers + 3

abbrev pub decreases-search_both : goal.decreases-search_both
decreases-search_both g l = 4 * l.range.workers + 2

abbrev pub decreases-search_both-join+arg2 : goal.decreases-search_both-join+arg2
decreases-search_both-join+arg2 g l = 4 * l.left.workers + 4

abbrev pub decreases-search_both-join+arg3 : goal.decreases-search_both-join+arg3
decreases-search_both-join+arg3 g l = 4 * l.right.workers + 4
