use Rattle.std.proofs.Common.{◌-◌, drop, take, length, subst}
use Rattle.std.specs.Prelude.{IfOk}
use Rattle.discharge.specs.Verdicts.{AreAnswers}
use Rattle.discharge.proofs.Halves.{left-searchable, right-searchable}
use Rattle.step_run.specs.Views.{source_view}
use Rattle.step_run.proofs.Filed.{setting_is}
use Rattle.step_run.proofs.deciding.decided.Goals as goal

pub decide_all-requires-clause-searchable : goal.decide_all-requires-clause-searchable
decide_all-requires-clause-searchable c =
    (let a = c.args in
    let cs = a.posed.now.conditions.items in
    rw (c.variables_of-variables.ensures, c.deref.ensures.value)
    (left-searchable (length a.posed.now.source.program.variables) (a.to - a.from) (drop a.from cs) (right-searchable (length a.posed.now.source.program.variables) a.from cs c.requires.ready.searchable)))

pub returns : goal.returns
returns c =
    let a = c.args in
    let p = source_view a.posed.now.source in
    let same = setting_is p a.components.now c.variables_of-variables.result.now c.requires.components c.variables_of-variables.ensures in
    subst (λ k. IfOk c.decide_all.result (λ v. AreAnswers k (take (a.to - a.from) (drop a.from a.posed.now.conditions.items)) v.items)) same (rw c.deref.ensures.value at c.decide_all.ensures)
