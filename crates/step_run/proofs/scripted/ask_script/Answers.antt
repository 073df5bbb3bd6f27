use Rattle.std.proofs.lemmas.Result.{IfOk-weaker}
use Rattle.step_report.specs.declared.refusals.FileRole.TheVariants.{Proof}
use Rattle.step_plan.specs.Plan.{file_plan}
use Rattle.step_plan.specs.Stage.{bytes_view}
use Rattle.step_plan.proofs.Follow.{onward_on, onward_over, follows_then, follows_first, comes_then, comes_text}
use Rattle.step_run.specs.Plans.{source_plan, scripted_of_text, script_plan}
use Rattle.step_run.specs.Views.{source_view, scripted_view}
use Rattle.step_run.proofs.scripted.ask_script.Goals as goal

pub scripted_of_text-requires-clause-short : goal.scripted_of_text-requires-clause-short
scripted_of_text-requires-clause-short g c = rw c.deref.ensures.value (rw c.in-On-2.is at c.in_ok-text.ensures.within)

pub returns-in-Over-clause-comes : goal.returns-in-Over-clause-comes
returns-in-Over-clause-comes g c = follows_first _ (script_plan c.args.proof.now) _ _ (source_plan c.args.program.now) _ (rw c.in-Over.is at c.in_ok-source.ensures.comes)

pub returns-in-Over-2-clause-comes : goal.returns-in-Over-2-clause-comes
returns-in-Over-2-clause-comes g c =
    let source = rw c.in-On.is at c.in_ok-source.ensures.comes in
    let p = source_view c.in-On.source in
    let over = onward_over bytes_view _ _ _ _ _ (file_plan Proof c.args.proof.now) c.in_ok-text.field-0 _ c.in-Over-2.is c.ask_source.ensures.same source.0 c.in_ok-text.ensures.comes in
    follows_then _ (script_plan c.args.proof.now) _ _ (source_plan c.args.program.now) _ _ source.1 (follows_first _ (scripted_of_text p) _ _ (file_plan Proof c.args.proof.now) _ over)

pub returns-in-On-2-clause-comes : goal.returns-in-On-2-clause-comes
returns-in-On-2-clause-comes g c =
    let source = rw c.in-On.is at c.in_ok-source.ensures.comes in
    let p = source_view c.in-On.source in
    let text = onward_on bytes_view _ _ _ _ _ (file_plan Proof c.args.proof.now) c.in_ok-text.field-0 _ c.in-On-2.is c.ask_source.ensures.same source.0 c.in_ok-text.ensures.comes in
    let told = g.F.Files.told c.args.files.now in
    let done = rw c.deref.ensures.value at c.scripted_of_text.ensures.settles in
    IfOk-weaker c.scripted_of_text.result _ _
    (λ s h. comes_then told (script_plan c.args.proof.now) scripted_view _ _ (source_plan c.args.program.now) p s source.1
    (comes_text told (scripted_of_text p) scripted_view _ _ (file_plan Proof c.args.proof.now) (bytes_view c.in-On-2.text) s text.0 text.1 h))
    done
