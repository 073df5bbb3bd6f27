use Rattle.st_form.specs.Shared.{given_of, shown_of}
use Rattle.farkas_check.specs.PlainProblem.{setting}
use Rattle.std.proofs.Common.{ap}
use Rattle.linear_prover.specs.Verdicts.{is_valid}
use Rattle.linear_prover.proofs.deciding.unless_valid.Goals as goal

pub returns-in-Some-clause-exact : goal.returns-in-Some-clause-exact
returns-in-Some-clause-exact c =
    let found = rw c.in-Some.is at c.in_ok-find.ensures.found in
    ap is_valid found.1

pub returns-clause-exact : goal.returns-clause-exact
returns-clause-exact c =
    c.left_of.ensures (setting c.args.components.now c.args.variables.now) (given_of c.args.condition.now) (shown_of c.args.condition.now) c.in_ok-over_problems.ensures.exact
    c.in_ok-over_problems.ensures.right
