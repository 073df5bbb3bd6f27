use Rattle.std.proofs.Common.{◌≡◌, ◌++◌, ◌-◌}
use Rattle.equation_forms.specs.Formulas.{groups}
use Rattle.equation_writer.specs.Plain.{plain_terms}
use Rattle.equation_writer.proofs.classes.groups.Given as goal

abbrev pub invariant-loop-component : goal.invariant-loop-component
invariant-loop-component l = plain_terms l.out.items ++ groups l.owners l.places (l.components - l.component) l.component ≡ groups l.owners l.places l.components 0
