use Rattle.std.proofs.Common.{◌+◌, ◌*◌}
use Rattle.eager_search.proofs.walk.+walk.Given as goal

abbrev pub decreases-walk : goal.decreases-walk
decreases-walk l = 5 * l.levels

abbrev pub decreases-walk_place : goal.decreases-walk_place
decreases-walk_place l = 5 * l.levels + 4

abbrev pub decreases-walk_cases : goal.decreases-walk_cases
decreases-walk_cases l = 5 * l.levels + 3

abbrev pub decreases-case_branch : goal.decreases-case_branch
decreases-case_branch l = 5 * l.levels + 2

abbrev pub decreases-walk_truths : goal.decreases-walk_truths
decreases-walk_truths l = 5 * l.levels + 3

abbrev pub decreases-truth_branch : goal.decreases-truth_branch
decreases-truth_branch l = 5 * l.levels + 2

abbrev pub decreases-walk_decided : goal.decreases-walk_decided
decreases-walk_decided l = 5 * l.levels + 1

abbrev pub decreases-walk_parts : goal.decreases-walk_parts
decreases-walk_parts l = 5 * l.levels + 2

abbrev pub decreases-part_branch : goal.decreases-part_branch
decreases-part_branch l = 5 * l.levels + 1

abbrev pub decreases-walk_lines : goal.decreases-walk_lines
decreases-walk_lines l = 5 * l.levels + 4

abbrev pub decreases-walk_sides : goal.decreases-walk_sides
decreases-walk_sides l = 5 * l.levels + 3

abbrev pub decreases-side_branch : goal.decreases-side_branch
decreases-side_branch l = 5 * l.levels + 2
