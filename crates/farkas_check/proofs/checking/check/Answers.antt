use Rattle.std.proofs.Common.{ap, subst}
use Rattle.std.proofs.lemmas.Result.{IfOk-weaker}
use Rattle.st_form.specs.Shared.{given_of, shown_of}
use Rattle.st_form.specs.Simple.{nothing}
use Rattle.farkas_check.specs.Problem.{Problem, Setting}
use Rattle.st_certificate.specs.Plain.{plain as tree_of}
use Rattle.farkas_check.specs.PlainProblem.{setting}
use Rattle.farkas_check.specs.Valid.{Valid}
use Rattle.farkas_check.proofs.Bounds.{fit-first}
use Rattle.farkas_check.proofs.Law.{certified}
use Rattle.farkas_check.proofs.checking.check.Goals as goal

pub closes-requires-clause-fit : goal.closes-requires-clause-fit
closes-requires-clause-fit c =
    rw (ap (λ p. p.conjuncts) c.in_ok-problem.ensures) (fit-first nothing (given_of c.args.condition.now) (shown_of c.args.condition.now) c.requires.given c.requires.shown)

pub returns-clause-sound : goal.returns-clause-sound
returns-clause-sound c =
    let k : Setting = setting c.args.components.now c.args.variables.now in
    IfOk-weaker c.closes.result _ _ (λ yes h y.
    certified k (given_of c.args.condition.now) (shown_of c.args.condition.now) (tree_of c.args.certificate.now)
    (subst (λ (p : Problem). Valid k (tree_of c.args.certificate.now) p) c.in_ok-problem.ensures (h.0 y))) c.closes.ensures
