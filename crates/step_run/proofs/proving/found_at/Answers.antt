use Rattle.std.proofs.Common.{length, refl, sym, subst, arith}
use Rattle.std.proofs.lemmas.Option.{slice_get_read}
use Rattle.std.proofs.lemmas.Result.{IfOk-weaker}
use Rattle.farkas_check.specs.Problem.{Setting}
use Rattle.farkas_check.specs.PlainProblem.{setting}
use Rattle.shared_search.specs.Books.{Knows}
use Rattle.discharge.proofs.Marking.{searchable_at}
use Rattle.step_run.specs.Conditions.{setting_of}
use Rattle.step_run.specs.Views.{source_view}
use Rattle.step_run.proofs.Filed.{setting_is}
use Rattle.step_run.proofs.Written.{found_there}
use Rattle.step_run.proofs.proving.found_at.Goals as goal

pub find-requires : goal.find-requires
find-requires c =
    let a = c.args in
    let cs = a.posed.now.conditions.items in
    let p = source_view a.posed.now.source in
    let at = slice_get_read cs (length cs) a.place c.index-condition.result.now refl (omega (arith, c.requires.place)) c.index-condition.ensures in
    let it = searchable_at (length a.posed.now.source.program.variables) cs a.place c.index-condition.result.now c.requires.ready.searchable at in
    let same = setting_is p a.components.now c.variables_of-variables.result.now c.requires.components c.variables_of-variables.ensures in
    record { given = it.given; shown = it.shown; knows = subst (λ (k : Setting). Knows k a.book.now) (sym same) c.requires.knows }

pub returns-clause-knows : goal.returns-clause-knows
returns-clause-knows c =
    let p = source_view c.args.posed.now.source in
    let same = setting_is p c.args.components.now c.variables_of-variables.result.now c.requires.components c.variables_of-variables.ensures in
    subst (λ (k : Setting). Knows k c.find.new.book) same c.find.ensures.knows

pub returns-clause-found : goal.returns-clause-found
returns-clause-found c =
    let a = c.args in
    let cs = a.posed.now.conditions.items in
    let p = source_view a.posed.now.source in
    let condition = c.index-condition.result.now in
    let at = slice_get_read cs (length cs) a.place condition refl (omega (arith, c.requires.place)) c.index-condition.ensures in
    let same = setting_is p a.components.now c.variables_of-variables.result.now c.requires.components c.variables_of-variables.ensures in
    IfOk-weaker c.find.result _ _
    (λ o h any. found_there (setting a.components.now c.variables_of-variables.result.now) (setting_of p) cs a.place condition any c.find.new.book o same at h) c.find.ensures.found
