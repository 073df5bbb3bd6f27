use Rattle.std.proofs.Common.{sym, ap, subst}
use Rattle.std.proofs.lemmas.Result.{IfOk-weaker}
use Rattle.step_plan.specs.Outcome.{Outcome, ended_view, IsDecided}
use Rattle.step_plan.specs.Plan.{ends}
use Rattle.step_run.specs.Plans.{workload_conditions, count_posed}
use Rattle.step_run.specs.Views.{posed_view}
use Rattle.step_run.proofs.Decided.{counted_decided}
use Rattle.step_run.proofs.Stages.{goes_then}
use Rattle.step_run.proofs.workload.unnumbered.Goals as goal

pub returns-in-On-clause-outcome : goal.returns-in-On-clause-outcome
returns-in-On-clause-outcome c =
    let x = posed_view c.in-On.posed in
    let read = rw c.in-On.is at c.in_ok-posed.ensures.settles in
    IfOk-weaker c.counted.result _ _ (λ e h. goes_then count_posed (workload_conditions c.args.n) x (ends (ended_view e)) read (ap ends (sym h))) c.counted.ensures

pub returns-in-On-clause-decided : goal.returns-in-On-clause-decided
returns-in-On-clause-decided c =
    IfOk-weaker c.counted.result _ _ (λ e h. subst (λ (o : Outcome). IsDecided o.status) (sym h) (counted_decided (posed_view c.in-On.posed))) c.counted.ensures
