use Rattle.std.proofs.Common.{◌≡◌, drop}
use Rattle.std.specs.List.{list_any}
use Rattle.std.specs.Ordering.{int_eq}
use Rattle.equation_writer.proofs.classes.is_seen.Given as goal

abbrev pub invariant-loop-k : goal.invariant-loop-k
invariant-loop-k l = list_any (λ k. int_eq k l.number) (drop l.k-index l.seen) ≡ list_any (λ k. int_eq k l.number) l.seen
