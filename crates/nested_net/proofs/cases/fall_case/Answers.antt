use Rattle.std.proofs.Common.{map}
use Rattle.temporal_goals.specs.Plain.{plain_level}
use Rattle.nested_net.proofs.Reading.{base-can-fall}
use Rattle.nested_net.proofs.cases.fall_case.Goals as goal

pub lowered-requires : goal.lowered-requires
lowered-requires c =
    let falls = base-can-fall (map plain_level c.args.node.now.levels.items) c.args.node.now.delay c.args.depth c.requires.1 c.requires.0 in
    rw (c.base_at.ensures, c.deref-2.ensures.value) falls
