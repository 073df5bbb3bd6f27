use Rattle.std.proofs.Common.{map, ap, ◌∙◌, sym, subst, refl}
use Rattle.st_form.specs.Plain.{plain}
use Rattle.spl_semantics.specs.Observed.{observed}
use Rattle.temporal_goals.specs.Plain.{plain_goal}
use Rattle.temporal_goals.specs.Texts.{waiting}
use Rattle.trace_player.specs.Judgements.{IsJudgement}
use Rattle.trace_player.proofs.Verdicts.{if-ok, seen-here}
use Rattle.trace_player.proofs.judgement.judge_watched.Goals as goal

pub returns-in-Invariant : goal.returns-in-Invariant
returns-in-Invariant c =
    if-ok c.judge_invariance.result _ _
    (λ judged h. λ p s later watched played. subst (λ g. IsJudgement p s later g judged) (sym (ap plain_goal c.in-Invariant.is))
    (h (observed p s later)
    (seen-here p s later c.args.played.now played c.deref.result.now c.args.played.now.states.items c.deref-in-Invariant.result.now c.args.watched.now.fronts.items
    c.deref.ensures.value refl c.deref-in-Invariant.ensures.value watched.fronts)))
    c.judge_invariance.ensures

pub returns-in-Waiting : goal.returns-in-Waiting
returns-in-Waiting c =
    if-ok c.judge_waiting.result _ _
    (λ judged h. λ p s later watched played. subst (λ g. IsJudgement p s later g judged) (ap (λ l. waiting (plain c.in-Waiting.premise) (map plain l)) c.deref-in-Waiting.ensures.value ∙ sym (ap plain_goal c.in-Waiting.is))
    (h (observed p s later)
    (seen-here p s later c.args.played.now played c.deref-in-Waiting-2.result.now c.args.played.now.states.items c.deref-in-Waiting-3.result.now c.args.watched.now.fronts.items
    c.deref-in-Waiting-2.ensures.value refl c.deref-in-Waiting-3.ensures.value watched.fronts)))
    c.judge_waiting.ensures

pub returns-in-Response : goal.returns-in-Response
returns-in-Response c =
    if-ok c.judge_response.result _ _
    (λ judged h. λ p s later watched played. subst (λ g. IsJudgement p s later g judged) (sym (ap plain_goal c.in-Response.is))
    (h (observed p s later) (watched.course s later played)
    (seen-here p s later c.args.played.now played c.deref-in-Response.result.now c.args.played.now.states.items c.deref-in-Response-2.result.now c.args.watched.now.fronts.items
    c.deref-in-Response.ensures.value refl c.deref-in-Response-2.ensures.value watched.fronts)))
    c.judge_response.ensures
