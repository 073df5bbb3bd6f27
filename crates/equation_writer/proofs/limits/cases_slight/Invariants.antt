use Rattle.std.proofs.Common.{◌≡◌, drop, map}
use Rattle.equation_forms.specs.Formulas.{cases_slight}
use Rattle.linear_invariants.specs.Plain.{plain_equation}
use Rattle.equation_writer.specs.Plain.{plain_case}
use Rattle.equation_writer.specs.Sums.{AreModest}
use Rattle.equation_writer.proofs.limits.cases_slight.Given as goal

abbrev pub invariant-loop-case : goal.invariant-loop-case
invariant-loop-case l = record {
  modest : AreModest (map plain_case (drop l.case-index l.cases));
  same : cases_slight (plain_equation l.equation) (map plain_case (drop l.case-index l.cases)) ≡ cases_slight (plain_equation l.equation) (map plain_case l.cases);
}
