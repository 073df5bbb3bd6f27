use Rattle.std.proofs.lemmas.Result.{IfOk-weaker}
use Rattle.step_workload.specs.Texts.{program_text}
use Rattle.step_workload.proofs.Short.{proof_is_short}
use Rattle.step_run.specs.Plans.{source_of_text, workload_posed}
use Rattle.step_run.specs.Views.{source_view, posed_view}
use Rattle.step_run.proofs.Stages.{settles_then}
use Rattle.step_run.proofs.workload.conditions.Goals as goal

pub posed_of_text-requires-clause-short : goal.posed_of_text-requires-clause-short
posed_of_text-requires-clause-short c = rw (c.deref-in-On.ensures.value, c.in_ok-program.ensures.1) (proof_is_short c.args.n c.requires.0 c.requires.1)

pub returns-in-On-clause-settles : goal.returns-in-On-clause-settles
returns-in-On-clause-settles c =
    let n = c.args.n in
    let p = source_view c.in-On.source in
    let read = rw (c.in-On.is, c.deref.ensures.value, c.in_ok-program.ensures.0) at c.in_ok-source.ensures.settles in
    let done = rw (c.deref-in-On.ensures.value, c.in_ok-program.ensures.1) at c.posed_of_text.ensures.settles in
    IfOk-weaker c.posed_of_text.result _ _ (λ s h. settles_then posed_view (workload_posed n) (source_of_text (program_text n)) p s read h) done
