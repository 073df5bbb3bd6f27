use Rattle.std.proofs.Common.{arith, List, map}
use Rattle.std.proofs.lemmas.List.{at_drop_all}
use Rattle.st_form.specs.Plain.{plain}
use Rattle.st_form.specs.declared.formulas.Form.{Form}
use Rattle.vc_generator.specs.Atoms.{atoms_in}
use Rattle.vc_generator.proofs.counts.atoms_in_all.Goals as goal

pub returns : goal.returns
returns c =
    omega (arith, c.loop-form.invariant, at_drop_all (λ (xs : List Form). atoms_in (map plain xs)) c.args.forms.now c.loop-form.form-index (omega arith))
