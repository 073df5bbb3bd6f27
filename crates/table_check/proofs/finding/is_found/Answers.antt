use Rattle.std.proofs.Common.{length, subst}
use Rattle.std.proofs.lemmas.Result.{IfOk-weaker}
use Rattle.st_form.specs.Shared.{given_of, shown_of}
use Rattle.farkas_check.specs.PlainProblem.{setting}
use Rattle.farkas_check.specs.Valid.{IsCertificate}
use Rattle.tree_table.specs.Nodes.{trees_in}
use Rattle.shared_search.specs.Books.{tree_in}
use Rattle.table_check.specs.Nodes.{trees_by}
use Rattle.table_check.proofs.Proper.{proper}
use Rattle.table_check.proofs.Remembered.{turn-begins, turn-ends, turn-passes}
use Rattle.table_check.proofs.finding.is_found.Goals as goal

pub find_tree-requires : goal.find_tree-requires
find_tree-requires c = record { given = c.requires.searchable.given; shown = c.requires.searchable.shown; knows = c.requires.knows }

pub returns-in-None-clause-known : goal.returns-in-None-clause-known
returns-in-None-clause-known c = turn-passes c.args.root.place c.args.known.now.items c.requires.known

pub is_same-requires : goal.is_same-requires
is_same-requires c =
    let found = rw c.in-Some.is at c.in_ok-find_tree.ensures.found in
    record {
      nodes = c.requires.nodes;
      there = found.there;
      known = turn-begins c.args.root.place (trees_in c.find_tree.new.book.memo.trees) (trees_by c.args.nodes.now) c.args.known.now.items c.requires.known;
    }

pub returns-in-Some-clause-known : goal.returns-in-Some-clause-known
returns-in-Some-clause-known c =
    IfOk-weaker c.is_same.result _ _ (λ yes known. turn-ends c.args.root.place (trees_in c.find_tree.new.book.memo.trees) (trees_by c.args.nodes.now) c.is_same.new.known.items known) c.is_same.ensures.known

pub returns-in-Some-clause-valid : goal.returns-in-Some-clause-valid
returns-in-Some-clause-valid c =
    let k = setting c.args.components.now c.args.variables.now in
    let given = given_of c.args.condition.now in
    let shown = shown_of c.args.condition.now in
    let found = rw c.in-Some.is at c.in_ok-find_tree.ensures.found in
    let valid =
    c.found_trees_are_valid.ensures k given shown (tree_in c.find_tree.new.book c.in-Some.found) (proper (length c.args.variables.now) given c.look_at_condition.ensures.given c.requires.searchable.given_below)
    (proper (length c.args.variables.now) shown c.look_at_condition.ensures.shown c.requires.searchable.shown_below) found.finds in
    IfOk-weaker c.is_same.result _ _ (λ yes same is. subst (IsCertificate k given shown) (same is) valid) c.is_same.ensures.same
