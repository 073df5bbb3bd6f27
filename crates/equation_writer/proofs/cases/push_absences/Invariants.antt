use Rattle.std.proofs.Common.{◌≡◌, ◌++◌, drop, map}
use Rattle.st_form.specs.Formula.{at, negation}
use Rattle.st_form.specs.Plain.{plain}
use Rattle.equation_writer.proofs.cases.push_absences.Given as goal

abbrev pub invariant-loop-t : goal.invariant-loop-t
invariant-loop-t l = map plain l.out.items ++ map (λ t. negation (at t.0)) (drop l.t-index l.terms) ≡ map plain l.fn.out.items ++ map (λ t. negation (at t.0)) l.terms
