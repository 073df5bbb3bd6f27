use Rattle.std.proofs.Common.{◌∙◌, ap, length}
use Rattle.st_form.specs.Shared.{given_of, shown_of}
use Rattle.st_certificate.specs.Plain.{plain as tree_of}
use Rattle.farkas_check.specs.PlainProblem.{setting}
use Rattle.search_laws.specs.Moves.{valid}
use Rattle.search_laws.proofs.Finding.{proved}
use Rattle.linear_prover.proofs.Readying.{proper}
use Rattle.linear_prover.proofs.sameness.is_found.Goals as goal

pub returns-in-Some-clause-valid : goal.returns-in-Some-clause-valid
returns-in-Some-clause-valid c =
    let found = rw c.in-Some.is at c.in_ok-find.ensures.found in
    let below = c.is_condition_below.ensures c.if-not-is_condition_below.false in
    λ same.
    (proved (setting c.args.components.now c.args.variables.now) (given_of c.args.condition.now) (shown_of c.args.condition.now) (tree_of c.args.certificate.now)
    (proper (length c.args.variables.now) (given_of c.args.condition.now) c.look_at_condition.ensures.given below.0) (proper (length c.args.variables.now) (shown_of c.args.condition.now) c.look_at_condition.ensures.shown below.1)
    (found.1 ∙ ap valid (c.is_same.ensures same))).certificate
