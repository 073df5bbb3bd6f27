use Rattle.st_linear.proofs.Answering.{IfOk-from_gives}
use Rattle.st_form.specs.Plain.{plain}
use Rattle.st_form.specs.Plain.{plain_change}
use Rattle.st_form.proofs.Truths.{truth-exchanged}
use Rattle.st_form.proofs.formulas.Form.replace.Goals as goal

pub returns-clause-truth : goal.returns-clause-truth
returns-clause-truth c = IfOk-from_gives plain _ c.exchange.result _ (λ f h s. truth-exchanged (plain c.args.self.now) s (plain_change c.args.change.now) (plain f) h) c.exchange.ensures
