use Rattle.farkas_check.specs.PlainProblem.{setting}
use Rattle.found_trees.proofs.Trees.{found-certified}
use Rattle.found_trees.proofs.finding.has_tree.Goals as goal

pub find_tree-requires : goal.find_tree-requires
find_tree-requires c = record { given = c.requires.searchable.given; shown = c.requires.searchable.shown; knows = c.requires.knows }

pub returns-clause-certified : goal.returns-clause-certified
returns-clause-certified c =
    found-certified c.found_trees_are_valid.ensures (setting c.args.components.now c.args.variables.now) c.args.condition.now c.find_tree.new.book c.in_ok-found.found c.look_at_condition.ensures.given
    c.look_at_condition.ensures.shown c.requires.searchable c.in_ok-found.ensures.found c.is_some.result c.is_some.ensures
