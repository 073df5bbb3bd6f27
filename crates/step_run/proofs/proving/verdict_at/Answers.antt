use Rattle.std.proofs.Common.{length, refl, ap, sym, subst, arith}
use Rattle.std.proofs.lemmas.Option.{slice_get_read}
use Rattle.farkas_check.specs.Problem.{Setting}
use Rattle.farkas_check.specs.PlainProblem.{setting}
use Rattle.shared_search.specs.Books.{Knows}
use Rattle.discharge.proofs.Marking.{searchable_at}
use Rattle.step_run.specs.Conditions.{setting_of}
use Rattle.step_run.specs.Views.{source_view}
use Rattle.step_run.proofs.Filed.{setting_is}
use Rattle.step_run.proofs.Written.{answer_there, both_told}
use Rattle.step_run.proofs.proving.verdict_at.Goals as goal

pub decide-requires : goal.decide-requires
decide-requires c =
    let a = c.args in
    let cs = a.posed.now.conditions.items in
    let p = source_view a.posed.now.source in
    let at = slice_get_read cs (length cs) a.place c.index-condition.result.now refl (omega (arith, c.requires.place)) c.index-condition.ensures in
    let it = searchable_at (length a.posed.now.source.program.variables) cs a.place c.index-condition.result.now c.requires.ready.searchable at in
    let same = setting_is p a.components.now c.variables_of-variables.result.now c.requires.components c.variables_of-variables.ensures in
    record {
      few = omega (arith, ap length c.variables_of-variables.ensures, c.requires.ready.few_variables);
      given = it.given;
      shown = it.shown;
      given_below = rw c.variables_of-variables.ensures it.given_below;
      shown_below = rw c.variables_of-variables.ensures it.shown_below;
      knows = subst (λ (k : Setting). Knows k a.book.now) (sym same) c.requires.knows;
    }

pub returns-clause-knows : goal.returns-clause-knows
returns-clause-knows c =
    let p = source_view c.args.posed.now.source in
    let same = setting_is p c.args.components.now c.variables_of-variables.result.now c.requires.components c.variables_of-variables.ensures in
    subst (λ (k : Setting). Knows k c.decide.new.book) same c.decide.ensures.knows

pub returns-clause-answer : goal.returns-clause-answer
returns-clause-answer c =
    let a = c.args in
    let cs = a.posed.now.conditions.items in
    let p = source_view a.posed.now.source in
    let condition = c.index-condition.result.now in
    let at = slice_get_read cs (length cs) a.place condition refl (omega (arith, c.requires.place)) c.index-condition.ensures in
    let same = setting_is p a.components.now c.variables_of-variables.result.now c.requires.components c.variables_of-variables.ensures in
    both_told c.decide.result _ _ _
    (λ v exact right any. answer_there (setting a.components.now c.variables_of-variables.result.now) (setting_of p) cs a.place condition any v same at exact right) c.decide.ensures.exact c.decide.ensures.right
