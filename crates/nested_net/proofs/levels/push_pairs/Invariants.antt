use Rattle.std.proofs.Common.{◌≡◌, ◌-◌, ◌++◌, map, drop}
use Rattle.temporal_goals.specs.Plain.{plain_level}
use Rattle.rule_laws.specs.NestedNet.{pairs_below}
use Rattle.nested_net.proofs.levels.push_pairs.Given as goal

abbrev pub invariant-loop-index : goal.invariant-loop-index
invariant-loop-index l =
    l.falls.items ++ pairs_below (l.fn.depth - l.index) (map plain_level (drop l.index l.fn.levels)) (map plain_level (drop l.index l.fn.other))
    ≡ l.fn.falls.items ++ pairs_below l.fn.depth (map plain_level l.fn.levels) (map plain_level l.fn.other)
