use Rattle.std.proofs.Common.{map, ap, ◌∙◌, sym, subst}
use Rattle.st_form.specs.Plain.{plain}
use Rattle.st_program.specs.Plain.{plain_children}
use Rattle.spl_semantics.specs.Observed.{observed}
use Rattle.temporal_goals.specs.Plain.{plain_goal}
use Rattle.temporal_goals.specs.Texts.{waiting}
use Rattle.trace_player.specs.Judgements.{IsJudgement}
use Rattle.trace_player.proofs.Verdicts.{if-ok, seen-here}
use Rattle.trace_player.proofs.judgement.judge.Goals as goal

pub returns-in-Invariant : goal.returns-in-Invariant
returns-in-Invariant c =
    let p = plain_children c.args.program.now.processes in
    if-ok c.judge_invariance.result _ _
    (λ judged h. λ s later played. subst (λ g. IsJudgement p s later g judged) (sym (ap plain_goal c.in-Invariant.is))
    (h (observed p s later)
    (seen-here p s later c.args.played.now played c.deref-in-Invariant.result.now c.deref.result.now c.deref-in-Invariant-2.result.now c.in_ok-fronts.fronts.items
    c.deref-in-Invariant.ensures.value c.deref.ensures.value c.deref-in-Invariant-2.ensures.value c.in_ok-fronts.ensures)))
    c.judge_invariance.ensures

pub returns-in-Waiting : goal.returns-in-Waiting
returns-in-Waiting c =
    let p = plain_children c.args.program.now.processes in
    if-ok c.judge_waiting.result _ _
    (λ judged h. λ s later played. subst (λ g. IsJudgement p s later g judged) (ap (λ l. waiting (plain c.in-Waiting.premise) (map plain l)) c.deref-in-Waiting.ensures.value ∙ sym (ap plain_goal c.in-Waiting.is))
    (h (observed p s later)
    (seen-here p s later c.args.played.now played c.deref-in-Waiting-2.result.now c.deref.result.now c.deref-in-Waiting-3.result.now c.in_ok-fronts.fronts.items
    c.deref-in-Waiting-2.ensures.value c.deref.ensures.value c.deref-in-Waiting-3.ensures.value c.in_ok-fronts.ensures)))
    c.judge_waiting.ensures

pub returns : goal.returns
returns c =
    let p = plain_children c.args.program.now.processes in
    if-ok c.judge_response.result _ _
    (λ judged h. λ s later played. subst (λ g. IsJudgement p s later g judged) (sym (ap plain_goal c.in-Response.is))
    (h (observed p s later) (c.in_ok-course-in-Response.ensures.shows s later played)
    (seen-here p s later c.args.played.now played c.deref-in-Response.result.now c.deref.result.now c.deref-in-Response-2.result.now c.in_ok-fronts.fronts.items
    c.deref-in-Response.ensures.value c.deref.ensures.value c.deref-in-Response-2.ensures.value c.in_ok-fronts.ensures)))
    c.judge_response.ensures
