use Rattle.std.proofs.Common.{◌≡◌, drop}
use Rattle.std.specs.Prelude.{is_some}
use Rattle.st_linear.specs.Linear.{form_for}
use Rattle.constant_facts.proofs.keeping.changes_number.Given as goal

abbrev pub invariant-loop-pair : goal.invariant-loop-pair
invariant-loop-pair l = is_some (form_for l.variable (drop l.pair-index l.numbers)) ≡ is_some (form_for l.variable l.numbers)
