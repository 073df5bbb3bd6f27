use Rattle.std.proofs.Common.{◌↔◌, ◌∙◌, IfOk, IfSome, IsTrue, List, ap, length, replicate, subst, sym, Option, None}
use Rattle.st_form.specs.Formula.{every}
use Rattle.st_form.specs.Plain.{plain_list}
use Rattle.st_form.specs.Shared.{given_of, shown_of}
use Rattle.st_form.specs.Simple.{AreModest}
use Rattle.control_states.specs.Control.{ComponentFacts}
use Rattle.control_states.specs.declared.alternative.Alternative.{Alternative}
use Rattle.farkas_check.specs.Problem.{Problem}
use Rattle.farkas_check.specs.PlainProblem.{setting}
use Rattle.farkas_check.specs.Valid.{Valid}
use Rattle.farkas_check.proofs.Bounds.{modest-narrow}
use Rattle.form_table.specs.Contents.{formulas_of}
use Rattle.form_table.specs.Lists.{IsListed, first_conjuncts}
use Rattle.shared_certificates.specs.Nodes.{tree}
use Rattle.shared_check.proofs.Answering.{first-ready, first-same}
use Rattle.table_check.specs.Nodes.{trees_by}
use Rattle.table_check.proofs.checking.is_closed.Goals as goal

pub first_list-requires-clause-given : goal.first_list-requires-clause-given
first_list-requires-clause-given c = subst (λ fs. AreModest (plain_list fs)) (sym c.as_slice.ensures.value) (modest-narrow (given_of c.args.condition.now) c.requires.searchable.given)

pub first_list-requires-clause-shown : goal.first_list-requires-clause-shown
first_list-requires-clause-shown c = modest-narrow (shown_of c.args.condition.now) c.requires.searchable.shown

pub closes-requires-clause-ready : goal.closes-requires-clause-ready
closes-requires-clause-ready c =
    let k = setting c.args.components.now c.args.variables.now in
    let ts = formulas_of c.first_list.new.self in
    let made = subst (λ fs. IsListed ts c.in_ok-list.list (first_conjuncts (every (plain_list fs)) (shown_of c.args.condition.now))) c.as_slice.ensures.value c.in_ok-list.ensures.made in
    let cases = c.in_ok-problem.ensures.cases ∙ ap (λ (ps : List ComponentFacts). replicate {A = Option Alternative} (length ps) None) c.parts.ensures in
    let same = first-same k ts (given_of c.args.condition.now) (shown_of c.args.condition.now) c.in_ok-problem.problem c.in_ok-list.list made cases c.in_ok-problem.ensures.truths c.in_ok-problem.ensures.list in
    first-ready k ts (given_of c.args.condition.now) (shown_of c.args.condition.now) c.in_ok-problem.problem c.in_ok-list.list c.requires.searchable.given c.requires.searchable.shown made c.in_ok-problem.ensures.list same

pub returns-clause-exact : goal.returns-clause-exact
returns-clause-exact c =
    let k = setting c.args.components.now c.args.variables.now in
    let ts = formulas_of c.first_list.new.self in
    let made = subst (λ fs. IsListed ts c.in_ok-list.list (first_conjuncts (every (plain_list fs)) (shown_of c.args.condition.now))) c.as_slice.ensures.value c.in_ok-list.ensures.made in
    let cases = c.in_ok-problem.ensures.cases ∙ ap (λ (ps : List ComponentFacts). replicate {A = Option Alternative} (length ps) None) c.parts.ensures in
    let same = first-same k ts (given_of c.args.condition.now) (shown_of c.args.condition.now) c.in_ok-problem.problem c.in_ok-list.list made cases c.in_ok-problem.ensures.truths c.in_ok-problem.ensures.list in
    subst (λ (x : Problem). IfOk c.closes.result (λ o. IfSome o (λ yes. IsTrue yes ↔ Valid k (tree (trees_by c.args.nodes.now) c.args.number) x))) same c.closes.ensures.exact
