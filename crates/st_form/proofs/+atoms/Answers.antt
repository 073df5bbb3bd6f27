use Rattle.std.proofs.Common.{arith, List}
use Rattle.std.proofs.lemmas.List.{at_drop_all}
use Rattle.st_form.specs.Formula.{atoms_of}
use Rattle.st_form.specs.Plain.{plain_list}
use Rattle.st_form.specs.declared.formulas.Form.{Form}
use Rattle.st_form.proofs.+atoms.Goals as goal

pub counts::sum_of_atoms-returns : goal.counts::sum_of_atoms-returns
counts::sum_of_atoms-returns t c =
    omega (arith, c.loop-f.invariant, at_drop_all (λ (xs : List Form). atoms_of (plain_list xs)) c.args.fs.now c.loop-f.f-index (omega arith))
