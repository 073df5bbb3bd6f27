use Rattle.std.proofs.Common.{refl, subst, sym}
use Rattle.std.proofs.lemmas.Result.{IfOk-weaker}
use Rattle.st_form.specs.Formula.{every}
use Rattle.st_form.specs.Plain.{plain_list}
use Rattle.st_form.specs.Shared.{given_of, shown_of}
use Rattle.st_form.specs.Simple.{AreModest}
use Rattle.farkas_check.specs.PlainProblem.{setting}
use Rattle.farkas_check.proofs.Bounds.{modest-narrow}
use Rattle.form_table.specs.Contents.{formulas_of}
use Rattle.form_table.specs.Lists.{IsListed, first_conjuncts}
use Rattle.tree_table.specs.Nodes.{trees_in}
use Rattle.tree_table.proofs.Making.{extends-refl}
use Rattle.shared_search.proofs.Entering.{keeps-refl}
use Rattle.shared_search.proofs.Knowing.{holds-later}
use Rattle.shared_search.proofs.Certifying.{found-by, knows-later}
use Rattle.shared_search.proofs.finding.find_in.Goals as goal

pub first_list-requires-clause-given : goal.first_list-requires-clause-given
first_list-requires-clause-given c = subst (λ fs. AreModest (plain_list fs)) (sym c.as_slice.ensures.value) (modest-narrow (given_of c.args.condition.now) c.requires.given)

pub first_list-requires-clause-shown : goal.first_list-requires-clause-shown
first_list-requires-clause-shown c = modest-narrow (shown_of c.args.condition.now) c.requires.shown

pub returns-in_err-list-clause-knows : goal.returns-in_err-list-clause-knows
returns-in_err-list-clause-knows c =
    let trees = extends-refl (trees_in c.args.book.now.memo.trees) in
    let contexts = keeps-refl c.args.book.now.memo.contexts.kept.items in
    knows-later (setting c.args.components.now c.args.variables.now) c.args.book.now _ refl (record { table = c.in_err-list.ensures.grows; trees = trees; contexts = contexts })
    (holds-later (setting c.args.components.now c.args.variables.now) (formulas_of c.args.book.now.memo.table) (formulas_of c.first_list.new.self) (trees_in c.args.book.now.memo.trees) (trees_in c.args.book.now.memo.trees) c.args.book.now.memo.contexts.kept.items c.args.book.now.memo.contexts.kept.items c.args.book.now.memo.found
    c.in_err-list.ensures.grows.formulas trees contexts c.requires.knows.remembers) c.requires.knows

pub walk-requires-clause-remembers : goal.walk-requires-clause-remembers
walk-requires-clause-remembers c =
    holds-later (setting c.args.components.now c.args.variables.now) (formulas_of c.args.book.now.memo.table) (formulas_of c.first_list.new.self) (trees_in c.args.book.now.memo.trees) (trees_in c.args.book.now.memo.trees) c.args.book.now.memo.contexts.kept.items c.args.book.now.memo.contexts.kept.items c.args.book.now.memo.found
    c.in_ok-list.ensures.grows.formulas (extends-refl (trees_in c.args.book.now.memo.trees)) (keeps-refl c.args.book.now.memo.contexts.kept.items) c.requires.knows.remembers

pub returns-clause-found : goal.returns-clause-found
returns-clause-found c =
    let made =
    subst (λ fs. IsListed (formulas_of c.first_list.new.self) c.in_ok-list.list (first_conjuncts (every (plain_list fs)) (shown_of c.args.condition.now))) c.as_slice.ensures.value c.in_ok-list.ensures.made in
    IfOk-weaker c.walk.result _ _ (λ o. found-by (setting c.args.components.now c.args.variables.now) (given_of c.args.condition.now) (shown_of c.args.condition.now) (trees_in c.walk.new.memo.trees) (formulas_of c.first_list.new.self) c.args.book.now.memo.contexts.kept.items c.in_ok-list.list o
    c.requires.knows.remembers.first made) c.walk.ensures.found
