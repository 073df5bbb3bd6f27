use Rattle.std.proofs.Common.{◌≡◌, ◌≤◌, ◌+◌, ◌*◌, ◌^◌, drop}
use Rattle.equation_writer.specs.Sizes.{classes_atoms}
use Rattle.equation_writer.proofs.limits.classes_atoms.Given as goal

abbrev pub invariant-loop-class : goal.invariant-loop-class
invariant-loop-class l = record {
  most : l.count ≤ l.class-index * 2 ^ 64;
  same : l.count + classes_atoms l.terms (drop l.class-index l.classes) ≡ classes_atoms l.terms l.classes;
}
