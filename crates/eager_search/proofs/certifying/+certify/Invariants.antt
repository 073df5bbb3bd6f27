use Rattle.std.proofs.Common.{◌+◌, ◌*◌}
use Rattle.eager_search.proofs.certifying.+certify.Given as goal

abbrev pub decreases-certified : goal.decreases-certified
decreases-certified l = 4 * l.levels

abbrev pub decreases-divided : goal.decreases-divided
decreases-divided l = 4 * l.levels + 3

abbrev pub decreases-of_cases : goal.decreases-of_cases
decreases-of_cases l = 4 * l.levels + 2

abbrev pub decreases-of_truths : goal.decreases-of_truths
decreases-of_truths l = 4 * l.levels + 2

abbrev pub decreases-of_parts : goal.decreases-of_parts
decreases-of_parts l = 4 * l.levels + 2

abbrev pub decreases-under : goal.decreases-under
decreases-under l = 4 * l.levels + 1

abbrev pub decreases-of_sides : goal.decreases-of_sides
decreases-of_sides l = 4 * l.levels + 2
