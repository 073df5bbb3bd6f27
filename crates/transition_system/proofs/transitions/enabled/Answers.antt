use Rattle.std.proofs.Common.{◌≡◌, ap, ◌∙◌, arith}
use Rattle.std.proofs.lemmas.Grind.{common_steps}
use Rattle.st_form.specs.Formula.{truth}
use Rattle.st_form.specs.Plain.{plain}
use Rattle.st_form.specs.declared.formulas.Form.{Or}
use Rattle.st_form.proofs.Nodes.{nodes}
use Rattle.transition_system.specs.Meaning.{enabled_form}
use Rattle.transition_system.specs.Plain.{plain_transition}
use Rattle.transition_system.proofs.Enabling.{enabled-truth}
use Rattle.transition_system.proofs.transitions.enabled.Goals as goal

pub returns-clause-truth : goal.returns-clause-truth
returns-clause-truth c = λ s.
    let form : plain (Or c.loop-mode.ways) ≡ enabled_form (plain_transition c.args.transition.now) = grind (arith, common_steps, nodes) in
    ap (truth s) form ∙ enabled-truth (plain_transition c.args.transition.now) s
