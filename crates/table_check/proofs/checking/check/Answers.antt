use Rattle.std.proofs.Common.{◌↔◌, IfOk, IfSome, IsTrue, List, map, subst, sym}
use Rattle.st_form.specs.Shared.{plain_condition}
use Rattle.st_certificate.specs.Tree.{Tree}
use Rattle.farkas_check.specs.PlainProblem.{setting}
use Rattle.certificate_unfolding.proofs.Counting.{certificates-in}
use Rattle.table_check.specs.Conditions.{HaveTrees}
use Rattle.table_check.specs.Nodes.{AreNodes}
use Rattle.table_check.proofs.Spelled.{spelled-nodes}
use Rattle.table_check.proofs.checking.check.Goals as goal

pub check_each-requires-clause-nodes : goal.check_each-requires-clause-nodes
check_each-requires-clause-nodes c = subst AreNodes (sym c.as_slice-nodes.ensures.value) (spelled-nodes c.args.table.now c.text_is_exact.ensures c.requires.spelled)

pub returns : goal.returns
returns c =
    subst (λ (ts : List Tree). IfOk c.check_each.result (λ o. IfSome o (λ yes. IsTrue yes ↔ HaveTrees (setting c.args.components.now c.args.variables.now) (map plain_condition c.args.conditions.now) ts)))
    (certificates-in c.args.table.now _ _ c.as_slice-nodes.ensures.value c.as_slice-roots.ensures.value) c.check_each.ensures
