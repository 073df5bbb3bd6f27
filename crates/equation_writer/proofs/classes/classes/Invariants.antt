use Rattle.std.proofs.Common.{◌≡◌, ◌++◌, drop}
use Rattle.equation_forms.specs.Formulas.{fresh, classes}
use Rattle.equation_writer.proofs.classes.classes.Given as goal

abbrev pub invariant-loop-t : goal.invariant-loop-t
invariant-loop-t l = l.out.items ++ fresh l.out.items (drop l.t-index l.terms) ≡ classes l.terms
