use Rattle.std.proofs.Common.{arith, List}
use Rattle.std.proofs.lemmas.List.{at_drop_all}
use Rattle.st_form.specs.Plain.{plain_list, plain_change}
use Rattle.st_form.specs.declared.formulas.Form.{Form}
use Rattle.st_form.specs.Exchange.{all_behind}
use Rattle.st_form.proofs.+behind.Goals as goal

pub behind::sum_behind-returns : goal.behind::sum_behind-returns
behind::sum_behind-returns t c =
    omega (arith, c.loop-f.invariant, at_drop_all (λ (xs : List Form). all_behind (plain_change c.args.change.now) (plain_list xs)) c.args.fs.now c.loop-f.f-index (omega arith))
