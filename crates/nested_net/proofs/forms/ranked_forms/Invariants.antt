use Rattle.std.proofs.Common.{◌≡◌, ◌++◌, map, drop}
use Rattle.st_form.specs.Plain.{plain}
use Rattle.temporal_goals.specs.Plain.{plain_level}
use Rattle.rule_laws.specs.NestedNet.{ranked_forms}
use Rattle.nested_net.proofs.forms.ranked_forms.Given as goal

abbrev pub invariant-loop-index : goal.invariant-loop-index
invariant-loop-index l = map plain l.forms.items ++ ranked_forms (map plain_level (drop l.index l.fn.levels)) l.fn.delay ≡ ranked_forms (map plain_level l.fn.levels) l.fn.delay
