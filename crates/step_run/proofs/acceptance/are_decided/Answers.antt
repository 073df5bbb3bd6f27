use Rattle.std.proofs.Common.{length, subst, sym, ap, arith}
use Rattle.farkas_check.specs.Problem.{Setting}
use Rattle.shared_search.specs.Books.{Knows}
use Rattle.step_run.specs.Views.{source_view}
use Rattle.step_run.proofs.Filed.{setting_is}
use Rattle.step_run.proofs.Readied.{few_variables}
use Rattle.step_run.proofs.acceptance.are_decided.Goals as goal

pub are_all_valid-requires-clause-few : goal.are_all_valid-requires-clause-few
are_all_valid-requires-clause-few c = omega (arith, ap length c.variables_of-variables.ensures, few_variables (source_view c.args.subject.now.source) c.requires.subject.spelled)

pub are_all_valid-requires-clause-knows : goal.are_all_valid-requires-clause-knows
are_all_valid-requires-clause-knows c =
    let p = source_view c.args.subject.now.source in
    let same = setting_is p c.args.subject.now.components c.variables_of-variables.result.now c.requires.subject.control c.variables_of-variables.ensures in
    subst (λ (k : Setting). Knows k c.args.book.now) (sym same) c.requires.knows

pub returns-clause-knows : goal.returns-clause-knows
returns-clause-knows c =
    let p = source_view c.args.subject.now.source in
    let same = setting_is p c.args.subject.now.components c.variables_of-variables.result.now c.requires.subject.control c.variables_of-variables.ensures in
    subst (λ (k : Setting). Knows k c.are_all_valid.new.book) same c.are_all_valid.ensures.knows

pub returns-clause-exact : goal.returns-clause-exact
returns-clause-exact c =
    let p = source_view c.args.subject.now.source in
    let same = setting_is p c.args.subject.now.components c.variables_of-variables.result.now c.requires.subject.control c.variables_of-variables.ensures in
    rw same at c.are_all_valid.ensures.exact
