use Rattle.std.proofs.Common.{◌∙◌, ap, sym, length}
use Rattle.st_form.specs.Shared.{given_of, shown_of}
use Rattle.farkas_check.specs.Problem.{Setting}
use Rattle.farkas_check.specs.PlainProblem.{setting}
use Rattle.search_laws.specs.Moves.{valid}
use Rattle.search_laws.proofs.Finding.{proved}
use Rattle.st_certificate.specs.Plain.{plain as tree_of}
use Rattle.linear_prover.proofs.Readying.{proper}
use Rattle.linear_prover.proofs.deciding.decide.Goals as goal

pub returns-in-Some-clause-exact : goal.returns-in-Some-clause-exact
returns-in-Some-clause-exact c =
    let found = rw c.in-Some.is at c.in_ok-number.ensures.found in
    ap valid c.in_ok-certificate.ensures ∙ sym found.1

pub returns-in-Some-clause-right : goal.returns-in-Some-clause-right
returns-in-Some-clause-right c =
    let k : Setting = setting c.args.components.now c.args.variables.now in
    let found = rw c.in-Some.is at c.in_ok-number.ensures.found in
    proved k (given_of c.args.condition.now) (shown_of c.args.condition.now) (tree_of c.in_ok-certificate.field-0)
    (proper (length c.args.variables.now) (given_of c.args.condition.now) c.look_at_condition.ensures.given c.requires.given_below)
    (proper (length c.args.variables.now) (shown_of c.args.condition.now) c.look_at_condition.ensures.shown c.requires.shown_below)
    (found.1 ∙ ap valid (sym c.in_ok-certificate.ensures))
