-- The problems of the code as plain data.
use Rattle.std.specs.Prelude.{List, map, Option, Some, None}
use Rattle.std.specs.declared.vec.Vec.{Vec}
use Rattle.std.specs.declared.alloc.Global.{Global}
use Rattle.st_form.specs.declared.variables.Variable.{Variable}
use Rattle.control_states.specs.Control.{ControlFacts}
use Rattle.st_form.specs.Plain.{plain_conjuncts}
use Rattle.farkas_check.specs.Problem.{Setting, Problem}
use Rattle.farkas_check.specs.declared.problems.Posed.{Posed}

-- a problem of the program as plain data
abbrev pub plain_posed : Posed → Problem
plain_posed p = record { cases = p.cases.items; truths = p.truths.items; conjuncts = plain_conjuncts p.conjuncts }

abbrev pub plain_division : Option (Vec Posed Global) → Option (List Problem)
plain_division None = None
plain_division (Some ps) = Some (map plain_posed ps.items)

abbrev pub setting : ControlFacts → List Variable → Setting
setting k vs = record { control = k; variables = vs }
