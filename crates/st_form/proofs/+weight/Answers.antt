use Rattle.std.proofs.Common.{arith, List}
use Rattle.std.proofs.lemmas.List.{at_drop_all}
use Rattle.st_form.specs.Formula.{weight_of}
use Rattle.st_form.specs.Plain.{plain_list}
use Rattle.st_form.specs.declared.formulas.Form.{Form}
use Rattle.st_form.proofs.+weight.Goals as goal

pub counts::sum_of_weights-returns : goal.counts::sum_of_weights-returns
counts::sum_of_weights-returns t c =
    omega (arith, c.loop-f.invariant, at_drop_all (λ (xs : List Form). weight_of (plain_list xs)) c.args.fs.now c.loop-f.f-index (omega arith))
