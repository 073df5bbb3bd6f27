use Rattle.std.proofs.Common.{◌≡◌, ◌++◌, map, take}
use Rattle.st_form.specs.Plain.{plain}
use Rattle.temporal_goals.specs.Plain.{plain_level}
use Rattle.rule_laws.specs.NestedNet.{enabled_groups}
use Rattle.vc_generator.specs.Asked.{system_of}
use Rattle.nested_net.proofs.forms.push_enabled.Given as goal

abbrev pub invariant-loop-level : goal.invariant-loop-level
invariant-loop-level l = map plain l.out.items ≡ map plain l.fn.out.items ++ enabled_groups (system_of l.fn.asking) (map plain_level (take l.level-index l.levels))
