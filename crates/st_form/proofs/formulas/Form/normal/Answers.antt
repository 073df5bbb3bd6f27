use Rattle.std.proofs.Common.{◌∙◌, ap, true}
use Rattle.std.proofs.lemmas.Result.{IfOk-weaker}
use Rattle.st_form.specs.Formula.{truth}
use Rattle.st_form.specs.Plain.{plain}
use Rattle.st_form.proofs.SimpleTruths.{truth-simple, agrees-nothing}
use Rattle.st_form.specs.Simple.{nothing}
use Rattle.st_form.proofs.formulas.Form.normal.Goals as goal

pub returns-clause-truth : goal.returns-clause-truth
returns-clause-truth c = IfOk-weaker c.simplified.result _ _ (λ f h s. ap (truth s) h ∙ truth-simple nothing (plain c.args.self.now) true s (agrees-nothing s)) c.simplified.ensures
