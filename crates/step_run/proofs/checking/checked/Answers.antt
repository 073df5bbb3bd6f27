use Rattle.std.proofs.lemmas.Result.{IfOk-weaker}
use Rattle.farkas_check.specs.PlainProblem.{setting}
use Rattle.step_run.specs.Views.{source_view, posed_view}
use Rattle.step_run.proofs.Filed.{setting_is, may_check, filed_on}
use Rattle.step_run.proofs.checking.checked.Goals as goal

pub check_file-requires-clause-may : goal.check_file-requires-clause-may
check_file-requires-clause-may g c = λ κs lives.
    (let ready = c.requires.ready in
    may_check c.programs_are_in_order.ensures _ _ c.args.posed.now.source.program.variables c.args.posed.now.conditions.items c.in_ok-components.ensures.facts c.variables_of.ensures c.as_slice.ensures.value
    ready.few ready.few_variables ready.searchable)

pub returns-in-On-clause-follows : goal.returns-in-On-clause-follows
returns-in-On-clause-follows g c =
    let p = source_view c.args.posed.now.source in
    let x = posed_view c.args.posed.now in
    let k = setting c.in_ok-components.components c.variables_of.result.now in
    let same = setting_is p c.in_ok-components.components c.variables_of.result.now c.in_ok-components.ensures.facts c.variables_of.ensures in
    let comes = rw (c.in-On.is, c.as_slice.ensures.value) at c.in_ok-finding.ensures.comes in
    IfOk-weaker c.told.result _ _ (λ e h. filed_on _ _ _ k x c.args.name.now c.in-On.finding e same comes h) c.told.ensures
