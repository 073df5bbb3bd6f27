use Rattle.std.proofs.Common.{arith, List}
use Rattle.std.proofs.lemmas.List.{at_drop_all}
use Rattle.st_form.specs.Formula.{weight_of}
use Rattle.st_form.specs.Plain.{plain_list}
use Rattle.st_form.specs.declared.formulas.Form.{Form}
use Rattle.vc_generator.proofs.weighing.weight_of_all.Goals as goal

pub returns : goal.returns
returns c =
    omega (arith, c.loop-form.invariant, at_drop_all (λ (xs : List Form). weight_of (plain_list xs)) c.args.forms.now c.loop-form.form-index (omega arith))
