use Rattle.std.proofs.Common.{◌≡◌, ◌++◌, drop, map}
use Rattle.equation_writer.specs.Plain.{plain_case}
use Rattle.equation_writer.specs.Sums.{AreModest, with_class}
use Rattle.equation_writer.proofs.cases.push_with_class.Given as goal

abbrev pub invariant-loop-case : goal.invariant-loop-case
invariant-loop-case l = record {
  modest : AreModest (map plain_case (drop l.case-index l.cases));
  same : map plain_case l.out.items ++ map (with_class l.terms l.class) (map plain_case (drop l.case-index l.cases)) ≡ map plain_case l.fn.out.items ++ map (with_class l.terms l.class) (map plain_case l.cases);
}
