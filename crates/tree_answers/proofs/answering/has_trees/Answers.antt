use Rattle.std.proofs.Common.{◌≡◌, ◌∙◌, ap}
use Rattle.farkas_check.specs.PlainProblem.{setting}
use Rattle.tree_answers.proofs.Finding.{certified-here, setting-of}
use Rattle.tree_answers.proofs.answering.has_trees.Goals as goal

pub returns-in-true : goal.returns-in-true
returns-in-true c = λ yes.
    (let posed = c.args.posed.now in
    let components = c.components_of-components.result.now in
    let variables = c.variables_of-variables.result.now in
    let same : setting components variables ≡ setting-of posed =
    ap (λ k. setting k variables) c.components_of-components.ensures ∙ ap (λ vs. setting posed.source.components vs) c.variables_of-variables.ensures in
    certified-here (setting components variables) (setting-of posed) c.conditions_of-conditions.result.now posed.proof.conditions.items same
    c.conditions_of-conditions.ensures (c.in_ok-have_trees.ensures c.in-true.is))
