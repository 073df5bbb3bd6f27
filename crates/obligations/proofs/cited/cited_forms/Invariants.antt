use Rattle.std.proofs.Common.{◌≡◌, ◌++◌, map, drop}
use Rattle.st_form.specs.Plain.{plain}
use Rattle.temporal_goals.specs.Plain.{plain_step}
use Rattle.script_laws.specs.Script.{cited_of}
use Rattle.obligations.proofs.cited.cited_forms.Given as goal

abbrev pub invariant-loop-number : goal.invariant-loop-number
invariant-loop-number l =
    map plain l.forms.items ++ cited_of (map plain_step l.fn.earlier) (drop l.number-index l.fn.cited) ≡ cited_of (map plain_step l.fn.earlier) l.fn.cited
