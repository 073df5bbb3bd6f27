use Rattle.std.proofs.Common.{◌≤◌, length, take, refl, arith}
use Rattle.farkas_check.specs.PlainProblem.{setting}
use Rattle.form_table.specs.Contents.{formulas_of}
use Rattle.shared_check.specs.Problems.{problem_of}
use Rattle.certificate_unfolding.proofs.Unfolding.{number-none}
use Rattle.table_check.specs.Nodes.{trees_by}
use Rattle.table_check.proofs.Answering.{answered-none, answered-tree, equal-lengths}
use Rattle.table_check.proofs.Numbered.{node-tree}
use Rattle.table_check.proofs.closing.+closes.Goals as goal

pub close_each-returns-then-parts-problems-clause-exact : goal.close_each-returns-then-parts-problems-clause-exact
close_each-returns-then-parts-problems-clause-exact t c =
    (λ no. absurd (cc), λ v. absurd (c.if-parts-problems.true (equal-lengths _ (formulas_of c.args.table.now) (trees_by c.args.nodes.now) c.args.parts.now c.args.problems.now v)))

pub closes-returns-in-Some-clause-exact : goal.closes-returns-in-Some-clause-exact
closes-returns-in-Some-clause-exact t c =
    answered-tree (setting c.args.components.now c.args.variables.now) (problem_of (formulas_of c.args.table.now) c.args.problem.now) _ _ c.node_closes.result
    (node-tree c.args.nodes.now (take c.args.number c.args.nodes.now) c.args.number c.in-Some.node.now c.in-Some.ensures.lookup.0 c.in-Some.ensures.lookup.1 refl) c.node_closes.ensures.exact

pub closes-returns-in-None-clause-exact : goal.closes-returns-in-None-clause-exact
closes-returns-in-None-clause-exact t c =
    let past : length c.args.nodes.now ≤ c.args.number = omega (arith, c.in-None.ensures.lookup) in
    answered-none (setting c.args.components.now c.args.variables.now) (formulas_of c.args.table.now) c.args.problem.now _ c.is_none.result (number-none c.args.nodes.now c.args.number past) c.is_none.ensures
