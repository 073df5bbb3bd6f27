use Rattle.std.proofs.Common.{◌≡◌, ◌+◌, map, drop}
use Rattle.temporal_goals.specs.Plain.{plain_level}
use Rattle.nested_net.specs.Walk.{outside}
use Rattle.nested_net.proofs.levels.outside.Given as goal

abbrev pub invariant-loop-depth : goal.invariant-loop-depth
invariant-loop-depth l = l.depth + outside l.fn.number (map plain_level (drop l.depth l.fn.levels)) ≡ outside l.fn.number (map plain_level l.fn.levels)
