use Rattle.std.proofs.lemmas.Result.{IfOk-weaker}
use Rattle.std.proofs.Common.{refl}
use Rattle.step_report.specs.declared.refusals.FileRole.TheVariants.{Schedule}
use Rattle.step_plan.specs.Plan.{ends, file_plan}
use Rattle.step_plan.specs.Stage.{bytes_view}
use Rattle.step_plan.proofs.Follow.{onward_on, onward_over, follows_then, follows_first, follows_end}
use Rattle.step_run.specs.Traced.{traced}
use Rattle.step_run.specs.Plans.{scripted_plan, trace_scripted}
use Rattle.step_run.specs.Views.{scripted_view}
use Rattle.step_run.proofs.Decided.{traced_decided}
use Rattle.step_run.proofs.pipeline.trace.Goals as goal

pub traced-requires-clause-short : goal.traced-requires-clause-short
traced-requires-clause-short g c = rw c.deref.ensures.value (rw c.in-On-2.is at c.in_ok-text.ensures.within)

pub traced-requires-clause-spelled : goal.traced-requires-clause-spelled
traced-requires-clause-spelled g c = (rw c.in-On.is at c.in_ok-scripted.ensures.known).spelled

pub returns-in-Over-clause-follows : goal.returns-in-Over-clause-follows
returns-in-Over-clause-follows g c =
    follows_first _ (trace_scripted c.args.schedule.now) _ _ (scripted_plan c.args.program.now c.args.proof.now) _ (rw c.in-Over.is at c.in_ok-scripted.ensures.comes)

pub returns-clause-follows : goal.returns-clause-follows
returns-clause-follows g c =
    let scripted = rw c.in-On.is at c.in_ok-scripted.ensures.comes in
    let x = scripted_view c.in-On.scripted in
    let over = onward_over bytes_view _ _ _ _ _ (file_plan Schedule c.args.schedule.now) c.in_ok-text.field-0 _ c.in-Over-2.is c.ask_script.ensures.same scripted.0 c.in_ok-text.ensures.comes in
    follows_then _ (trace_scripted c.args.schedule.now) _ _ (scripted_plan c.args.program.now c.args.proof.now) x _ scripted.1
    (follows_first _ (λ text. ends (traced x text)) _ _ (file_plan Schedule c.args.schedule.now) _ over)

pub returns-in-On-2-clause-follows : goal.returns-in-On-2-clause-follows
returns-in-On-2-clause-follows g c =
    let scripted = rw c.in-On.is at c.in_ok-scripted.ensures.comes in
    let x = scripted_view c.in-On.scripted in
    let told = g.F.Files.told c.args.files.now in
    let text = onward_on bytes_view _ _ _ _ _ (file_plan Schedule c.args.schedule.now) c.in_ok-text.field-0 _ c.in-On-2.is c.ask_script.ensures.same scripted.0 c.in_ok-text.ensures.comes in
    let bytes = bytes_view c.in-On-2.text in
    let done = rw c.deref.ensures.value at c.traced.ensures in
    IfOk-weaker c.traced.result _ _
    (λ e h. follows_then told (trace_scripted c.args.schedule.now) _ _ (scripted_plan c.args.program.now c.args.proof.now) x e scripted.1
    (follows_end told (λ t. ends (traced x t)) _ _ (file_plan Schedule c.args.schedule.now) bytes (traced x bytes) e text.0 text.1 refl (traced_decided x bytes) h))
    done
