use Rattle.std.proofs.Common.{arith, map, subst, sym}
use Rattle.farkas_check.specs.PlainProblem.{setting}
use Rattle.form_table.specs.Contents.{formulas_of}
use Rattle.tree_table.specs.Nodes.{trees_in}
use Rattle.tree_table.specs.Table.{step_of}
use Rattle.form_table.proofs.Calling.{extends-refl as forms-refl}
use Rattle.tree_table.proofs.Making.{extends-refl}
use Rattle.shared_search.specs.Lists.{HasTree, child_of, key_of}
use Rattle.shared_search.proofs.Entering.{keeps-refl}
use Rattle.shared_search.proofs.Listing.{key-later, key-same}
use Rattle.shared_search.proofs.Knowing.{holds-later, numbered-later, to-trans}
use Rattle.shared_search.proofs.Dividing.{has-branch, have-there, walk-step}
use Rattle.shared_search.proofs.walk.+walk.Goals as goal

pub search-returns-in_err-move_at-clause-remembers : goal.search-returns-in_err-move_at-clause-remembers
search-returns-in_err-move_at-clause-remembers t c =
    holds-later (setting c.args.components.now c.args.variables.now) (formulas_of c.args.memo.now.table) (formulas_of c.move_at.new.table) (trees_in c.args.memo.now.trees) (trees_in c.args.memo.now.trees) c.args.memo.now.contexts.kept.items c.move_at.new.contexts.kept.items c.args.memo.now.found c.in_err-move_at.ensures.grows.formulas (extends-refl (trees_in c.args.memo.now.trees)) c.in_err-move_at.ensures.keeps c.requires.remembers

pub search-returns-in-Fails-clause-remembers : goal.search-returns-in-Fails-clause-remembers
search-returns-in-Fails-clause-remembers t c =
    holds-later (setting c.args.components.now c.args.variables.now) (formulas_of c.args.memo.now.table) (formulas_of c.move_at.new.table) (trees_in c.args.memo.now.trees) (trees_in c.args.memo.now.trees) c.args.memo.now.contexts.kept.items c.move_at.new.contexts.kept.items c.args.memo.now.found c.in_ok-move_at.ensures.grows.formulas (extends-refl (trees_in c.args.memo.now.trees)) c.in_ok-move_at.ensures.keeps c.requires.remembers

pub search-returns-in_err-linear-in-Closes-clause-remembers : goal.search-returns-in_err-linear-in-Closes-clause-remembers
search-returns-in_err-linear-in-Closes-clause-remembers t c =
    holds-later (setting c.args.components.now c.args.variables.now) (formulas_of c.args.memo.now.table) (formulas_of c.move_at.new.table) (trees_in c.args.memo.now.trees) (trees_in c.linear.new.self) c.args.memo.now.contexts.kept.items c.move_at.new.contexts.kept.items c.args.memo.now.found c.in_ok-move_at.ensures.grows.formulas c.in_err-linear-in-Closes.ensures.extends c.in_ok-move_at.ensures.keeps c.requires.remembers

pub search-returns-in-Closes-clause-remembers : goal.search-returns-in-Closes-clause-remembers
search-returns-in-Closes-clause-remembers t c =
    holds-later (setting c.args.components.now c.args.variables.now) (formulas_of c.args.memo.now.table) (formulas_of c.move_at.new.table) (trees_in c.args.memo.now.trees) (trees_in c.linear.new.self) c.args.memo.now.contexts.kept.items c.move_at.new.contexts.kept.items c.args.memo.now.found c.in_ok-move_at.ensures.grows.formulas c.in_ok-linear-in-Closes.ensures.extends c.in_ok-move_at.ensures.keeps c.requires.remembers

pub search-walk_all-requires : goal.search-walk_all-requires
search-walk_all-requires t c =
    let made = rw c.in-Divides.is at c.in_ok-move_at.ensures.made in (
      omega (arith, c.decreases),
      (
        rw c.as_slice-in-Divides.ensures.value made.0,
        (
          numbered-later (setting c.args.components.now c.args.variables.now) c.args.memo.now.table.decisions c.move_at.new.table.decisions c.args.decisions.now c.in_ok-move_at.ensures.grows.decisions c.requires.numbered,
          holds-later (setting c.args.components.now c.args.variables.now) (formulas_of c.args.memo.now.table) (formulas_of c.move_at.new.table) (trees_in c.args.memo.now.trees) (trees_in c.args.memo.now.trees) c.args.memo.now.contexts.kept.items c.move_at.new.contexts.kept.items c.args.memo.now.found c.in_ok-move_at.ensures.grows.formulas (extends-refl (trees_in c.args.memo.now.trees)) c.in_ok-move_at.ensures.keeps c.requires.remembers,
        ),
      ),
    )

pub search-branch-memo-requires : goal.search-branch-memo-requires
search-branch-memo-requires t c =
    let have = rw c.in-Some.is at c.in_ok-walk_all-in-Divides.ensures.found in
    rw c.as_slice-in-Some.ensures.value (have-there (setting c.args.components.now c.args.variables.now) (trees_in c.walk_all.new.memo.trees) c.in-Some.parts.items _ have)

pub search-returns-in_err-branch-in-Some-clause-remembers : goal.search-returns-in_err-branch-in-Some-clause-remembers
search-returns-in_err-branch-in-Some-clause-remembers t c =
    holds-later (setting c.args.components.now c.args.variables.now) (formulas_of c.walk_all.new.memo.table) (formulas_of c.walk_all.new.memo.table) (trees_in c.walk_all.new.memo.trees) (trees_in c.branch-memo.new.self) c.walk_all.new.memo.contexts.kept.items c.walk_all.new.memo.contexts.kept.items c.walk_all.new.memo.found (forms-refl (formulas_of c.walk_all.new.memo.table)) c.in_err-branch-in-Some.ensures.extends (keeps-refl c.walk_all.new.memo.contexts.kept.items) c.in_ok-walk_all-in-Divides.ensures.remembers

pub search-returns-clause-remembers : goal.search-returns-clause-remembers
search-returns-clause-remembers t c =
    holds-later (setting c.args.components.now c.args.variables.now) (formulas_of c.walk_all.new.memo.table) (formulas_of c.walk_all.new.memo.table) (trees_in c.walk_all.new.memo.trees) (trees_in c.branch-memo.new.self) c.walk_all.new.memo.contexts.kept.items c.walk_all.new.memo.contexts.kept.items c.walk_all.new.memo.found (forms-refl (formulas_of c.walk_all.new.memo.table)) c.in_ok-branch-in-Some.ensures.extends (keeps-refl c.walk_all.new.memo.contexts.kept.items) c.in_ok-walk_all-in-Divides.ensures.remembers

pub search-returns-clause-found : goal.search-returns-clause-found
search-returns-clause-found t c =
    let made = rw c.in-Divides.is at c.in_ok-move_at.ensures.made in
    let found = rw c.in-Some.is at c.in_ok-walk_all-in-Divides.ensures.found in
    let have = rw c.as_slice-in-Divides.ensures.value at found in
    let tree = rw c.as_slice-in-Some.ensures.value at c.in_ok-branch-in-Some.ensures.made in
    has-branch (setting c.args.components.now c.args.variables.now) (trees_in c.walk_all.new.memo.trees) (trees_in c.branch-memo.new.self) c.in_ok-branch-in-Some.field-0 (step_of c.in-Divides.step) c.in-Some.parts.items (map (child_of (formulas_of c.move_at.new.table) c.move_at.new.contexts.kept.items) c.in-Divides.children.items) (key_of (formulas_of c.args.memo.now.table) c.args.memo.now.contexts.kept.items c.args.key) made.1 have tree

pub walk_all-loop-child-preserved : goal.walk_all-loop-child-preserved
walk_all-loop-child-preserved t c =
    record {
      grows = to-trans _ _ _ c.loop-child.invariant.grows c.in_ok-walk.ensures.grows;
      remembers = c.in_ok-walk.ensures.remembers;
      have =
          rw c.in_ok-push-in-Some.ensures.items (walk-step (setting c.args.components.now c.args.variables.now) c.args.memo.now c.loop-child.memo c.walk.new.memo c.args.children.now c.loop-child.child-index _ c.loop-child.parts.items c.in-Some.tree c.loop-child.invariant.grows c.in_ok-walk.ensures.grows c.requires.children
          (omega arith) c.loop-child.invariant.have (rw c.in-Some.is at c.in_ok-walk.ensures.found));
    }

pub walk_list-returns-in-Some-clause-found : goal.walk_list-returns-in-Some-clause-found
walk_list-returns-in-Some-clause-found t c =
    rw c.in-Some.is at (c.remembered.ensures (setting c.args.components.now c.args.variables.now) (formulas_of c.args.memo.now.table) (trees_in c.args.memo.now.trees) c.args.memo.now.contexts.kept.items c.requires.remembers)

pub walk_list-returns-in_err-remember-in-Some-2-clause-remembers : goal.walk_list-returns-in_err-remember-in-Some-2-clause-remembers
walk_list-returns-in_err-remember-in-Some-2-clause-remembers t c =
    let grows = c.in_ok-search.ensures.grows in
    let has = rw c.in-Some-2.is at c.in_ok-search.ensures.found in
    let same = key-same (formulas_of c.args.memo.now.table) (formulas_of c.search.new.memo.table) c.args.memo.now.contexts.kept.items c.search.new.memo.contexts.kept.items c.args.key grows.table.formulas grows.contexts c.requires.key in
    c.remember.ensures (setting c.args.components.now c.args.variables.now) (formulas_of c.search.new.memo.table) (trees_in c.search.new.memo.trees) c.search.new.memo.contexts.kept.items c.in_ok-search.ensures.remembers
    (key-later (formulas_of c.args.memo.now.table) (formulas_of c.search.new.memo.table) c.args.memo.now.contexts.kept.items c.search.new.memo.contexts.kept.items c.args.key grows.table.formulas grows.contexts c.requires.key)
    (subst (HasTree (setting c.args.components.now c.args.variables.now) (trees_in c.search.new.memo.trees) c.in-Some-2.tree) (sym same) has)

pub walk_list-returns-in_ok-remember-in-Some-2-clause-remembers : goal.walk_list-returns-in_ok-remember-in-Some-2-clause-remembers
walk_list-returns-in_ok-remember-in-Some-2-clause-remembers t c =
    let grows = c.in_ok-search.ensures.grows in
    let has = rw c.in-Some-2.is at c.in_ok-search.ensures.found in
    let same = key-same (formulas_of c.args.memo.now.table) (formulas_of c.search.new.memo.table) c.args.memo.now.contexts.kept.items c.search.new.memo.contexts.kept.items c.args.key grows.table.formulas grows.contexts c.requires.key in
    c.remember.ensures (setting c.args.components.now c.args.variables.now) (formulas_of c.search.new.memo.table) (trees_in c.search.new.memo.trees) c.search.new.memo.contexts.kept.items c.in_ok-search.ensures.remembers
    (key-later (formulas_of c.args.memo.now.table) (formulas_of c.search.new.memo.table) c.args.memo.now.contexts.kept.items c.search.new.memo.contexts.kept.items c.args.key grows.table.formulas grows.contexts c.requires.key)
    (subst (HasTree (setting c.args.components.now c.args.variables.now) (trees_in c.search.new.memo.trees) c.in-Some-2.tree) (sym same) has)
