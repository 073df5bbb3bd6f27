use Rattle.std.proofs.Common.{◌≡◌, map, drop}
use Rattle.transition_system.specs.Plain.{plain_system}
use Rattle.temporal_goals.specs.Plain.{plain_level}
use Rattle.nested_net.specs.Making.{some_uncompassionate}
use Rattle.nested_net.proofs.making.some_uncompassionate.Given as goal

abbrev pub invariant-loop-level : goal.invariant-loop-level
invariant-loop-level l = some_uncompassionate (plain_system l.fn.fts) (map plain_level (drop l.level-index l.levels)) ≡ some_uncompassionate (plain_system l.fn.fts) (map plain_level l.fn.levels)
