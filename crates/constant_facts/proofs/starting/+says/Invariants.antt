use Rattle.std.proofs.Common.{◌≡◌, drop}
use Rattle.st_form.specs.Plain.{plain_list}
use Rattle.constant_facts.specs.Rules.{one_says}
use Rattle.constant_facts.proofs.starting.+says.Given as goal

abbrev pub invariant-one_says-loop-form : goal.invariant-one_says-loop-form
invariant-one_says-loop-form l = one_says (plain_list (drop l.form-index l.forms)) l.variable l.value ≡ one_says (plain_list l.forms) l.variable l.value
