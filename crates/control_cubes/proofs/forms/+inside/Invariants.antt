use Rattle.std.proofs.Common.{◌+◌, ◌*◌, ◌<◌}
use Rattle.control_cubes.proofs.forms.+inside.Given as goal

abbrev pub decreases-push_alternative : goal.decreases-push_alternative
decreases-push_alternative l = 2 * l.levels + 1

abbrev pub decreases-push_inside : goal.decreases-push_inside
decreases-push_inside l = 2 * l.levels

abbrev pub invariant-push_inside-loop-alternative : goal.invariant-push_inside-loop-alternative
invariant-push_inside-loop-alternative l = 0 < l.levels
