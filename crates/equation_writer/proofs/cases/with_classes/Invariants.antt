use Rattle.std.proofs.Common.{◌≡◌, ◌++◌, drop, map}
use Rattle.equation_writer.specs.Plain.{plain_case}
use Rattle.equation_writer.specs.Sums.{AreSmall, with_classes}
use Rattle.equation_writer.proofs.cases.with_classes.Given as goal

abbrev pub invariant-loop-class : goal.invariant-loop-class
invariant-loop-class l = record {
  small : AreSmall (drop l.class-index l.classes);
  same : map plain_case l.out.items ++ with_classes l.terms (drop l.class-index l.classes) (map plain_case l.cases) ≡ with_classes l.terms l.classes (map plain_case l.cases);
}
