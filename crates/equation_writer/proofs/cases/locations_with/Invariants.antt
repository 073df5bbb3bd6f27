use Rattle.std.proofs.Common.{◌≡◌, ◌++◌, drop, map}
use Rattle.std.specs.Prelude.{filter}
use Rattle.std.specs.Ordering.{int_eq}
use Rattle.st_form.specs.Formula.{at}
use Rattle.st_form.specs.Plain.{plain}
use Rattle.equation_writer.proofs.cases.locations_with.Given as goal

abbrev pub invariant-loop-t : goal.invariant-loop-t
invariant-loop-t l =
    map plain l.out.items ++ map (λ t. at t.0) (filter (λ t. int_eq t.1 l.coefficient) (drop l.t-index l.terms)) ≡ map (λ t. at t.0) (filter (λ t. int_eq t.1 l.coefficient) l.terms)
