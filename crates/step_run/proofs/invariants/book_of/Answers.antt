use Rattle.std.proofs.Common.{subst}
use Rattle.std.proofs.lemmas.Result.{IfOk-weaker}
use Rattle.farkas_check.specs.Problem.{Setting}
use Rattle.shared_search.specs.Books.{Knows}
use Rattle.step_run.specs.Views.{source_view}
use Rattle.step_run.proofs.Filed.{setting_is}
use Rattle.step_run.proofs.invariants.book_of.Goals as goal

pub returns : goal.returns
returns c =
    let p = source_view c.args.subject.now.source in
    let same = setting_is p c.args.subject.now.components c.variables_of-variables.result.now c.requires.control c.variables_of-variables.ensures in
    IfOk-weaker c.new.result _ _ (λ b h. subst (λ (k : Setting). Knows k b) same h) c.new.ensures
