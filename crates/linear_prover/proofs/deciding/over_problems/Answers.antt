use Rattle.std.proofs.Common.{◌∙◌, ap, sym, subst, length}
use Rattle.st_form.specs.Shared.{given_of, shown_of}
use Rattle.farkas_check.specs.Problem.{Setting, Problem}
use Rattle.farkas_check.specs.PlainProblem.{setting}
use Rattle.search_laws.specs.Walks.{searched}
use Rattle.search_laws.specs.Moves.{move_of, verdict_of}
use Rattle.linear_prover.specs.Ready.{IfReady}
use Rattle.linear_prover.proofs.Readying.{first-ready, proper}
use Rattle.linear_prover.proofs.Rights.{right-from}
use Rattle.linear_prover.proofs.deciding.over_problems.Goals as goal

pub walk-requires-clause-ready : goal.walk-requires-clause-ready
walk-requires-clause-ready c =
    subst (λ (p : Problem). IfReady (length c.args.variables.now) p.conjuncts) (sym (c.in_ok-node.ensures ∙ c.in_ok-problem.ensures))
    (first-ready (length c.args.variables.now) (setting c.args.components.now c.args.variables.now) (given_of c.args.condition.now) (shown_of c.args.condition.now) c.requires.given c.requires.shown c.look_at_condition.ensures.given c.look_at_condition.ensures.shown
    c.requires.given_below c.requires.shown_below)

pub returns-clause-right : goal.returns-clause-right
returns-clause-right c =
    let k : Setting = setting c.args.components.now c.args.variables.now in
    right-from k (given_of c.args.condition.now) (shown_of c.args.condition.now) c.verdict_of.result
    (proper (length c.args.variables.now) (given_of c.args.condition.now) c.look_at_condition.ensures.given c.requires.given_below)
    (proper (length c.args.variables.now) (shown_of c.args.condition.now) c.look_at_condition.ensures.shown c.requires.shown_below)
    (c.verdict_of.ensures ∙ ap verdict_of (c.in_ok-outcome.ensures.exact ∙ ap (searched (move_of k)) (c.in_ok-node.ensures ∙ c.in_ok-problem.ensures)))
