use Rattle.std.proofs.Common.{◌≡◌, map, take}
use Rattle.temporal_goals.specs.Plain.{plain_level}
use Rattle.temporal_goals.proofs.nested.copy_levels.Given as goal

abbrev pub invariant-loop-level : goal.invariant-loop-level
invariant-loop-level l = map plain_level l.out.items ≡ map plain_level (take l.level-index l.levels)
