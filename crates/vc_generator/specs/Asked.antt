-- What a rule is asked for, as plain data: the system, and the formulas of the steps that it cites.
use Rattle.std.specs.Prelude.{List, map}
use Rattle.st_form.specs.Formula.{Formula}
use Rattle.st_form.specs.Plain.{plain}
use Rattle.transition_system.specs.Plain.{plain_system}
use Rattle.transition_system.specs.Systems.{System}
use Rattle.vc_generator.specs.declared.asking.Asking.{Asking}

abbrev pub system_of : Asking → System
system_of a = plain_system a.fts.now

abbrev pub lemmas_of : Asking → List Formula
lemmas_of a = map plain a.lemmas.now
