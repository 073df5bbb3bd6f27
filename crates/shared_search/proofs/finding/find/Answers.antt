use Rattle.st_form.specs.Shared.{given_of, shown_of}
use Rattle.farkas_check.specs.PlainProblem.{setting}
use Rattle.shared_search.proofs.Certifying.{modest-found}
use Rattle.shared_search.proofs.finding.find.Goals as goal

pub returns-then-is_modest-clause-found : goal.returns-then-is_modest-clause-found
returns-then-is_modest-clause-found c =
    modest-found (setting c.args.components.now c.args.variables.now) (given_of c.args.condition.now) (shown_of c.args.condition.now) c.find_tree.new.book c.in-Some.tree
    (rw c.in-Some.is at c.in_ok-find_tree.ensures.found) (c.is_modest.ensures c.if-is_modest.true)
