use Rattle.std.proofs.Common.{◌≡◌, ◌≤◌, ◌+◌, drop, length}
use Rattle.std.specs.Prelude.{filter}
use Rattle.std.specs.Ordering.{int_eq}
use Rattle.equation_writer.proofs.limits.class_atoms.Given as goal

abbrev pub invariant-loop-t : goal.invariant-loop-t
invariant-loop-t l = record {
  most : l.count ≤ l.t-index;
  same : l.count + length (filter (λ t. int_eq t.1 l.class) (drop l.t-index l.terms)) ≡ length (filter (λ t. int_eq t.1 l.class) l.terms);
}
