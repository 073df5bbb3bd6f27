use Rattle.std.proofs.Common.{◌≡◌, ◌++◌, drop}
use Rattle.equation_forms.specs.Formulas.{terms_of}
use Rattle.equation_writer.proofs.classes.terms_of.Given as goal

abbrev pub invariant-loop-t : goal.invariant-loop-t
invariant-loop-t l = l.out.items ++ terms_of l.owners l.component (drop l.t-index l.places) ≡ terms_of l.owners l.component l.places
