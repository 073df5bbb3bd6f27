use Rattle.std.proofs.Common.{◌≡◌, ◌++◌, Ok, subst, ap, ◌∙◌}
use Rattle.std.proofs.lemmas.Result.{IfOk-weaker}
use Rattle.vc_generator.specs.Plain.{plain_list}
use Rattle.temporal_goals.specs.Plain.{plain_script}
use Rattle.step_run.specs.Conditions.{steps_spelled}
use Rattle.step_run.specs.Views.{source_view}
use Rattle.step_run.proofs.Accepting.{no-script, known-within, known-accepted, judged}
use Rattle.step_run.proofs.acceptance.judged.Goals as goal

pub returns-in_default-clause-judges : goal.returns-in_default-clause-judges
returns-in_default-clause-judges c =
    let h = rw c.in_default.is at c.in_ok-script.ensures in (
      no-script (source_view c.args.subject.now.source) _ h.0 (rw (c.deref-2.ensures.value, c.in_ok-text.ensures, c.deref.ensures.value) at h.1),
      c.requires.accepted,
    )

pub take_over-requires-clause-known : goal.take_over-requires-clause-known
take_over-requires-clause-known c =
    let p = source_view c.args.subject.now.source in
    let text = c.args.kept.now.text.items in
    let s = c.args.sentence.now in
    let is : c.deref-2.result.now ≡ text ++ s = c.deref-2.ensures.value ∙ c.in_ok-text.ensures ∙ ap (λ t. t ++ s) c.deref.ensures.value in
    let read : steps_spelled p c.deref-2.result.now ≡ Ok (plain_script c.in-Some.script) = rw c.in-Some.is at c.in_ok-script.ensures in
    let script = subst (λ t. steps_spelled p t ≡ Ok (plain_script c.in-Some.script)) is read in
    known-within p text s c.args.kept.now.steps (plain_list c.args.kept.now.conditions) c.requires.accepted (plain_script c.in-Some.script) script

pub take_over-requires-clause-before : goal.take_over-requires-clause-before
take_over-requires-clause-before c =
    let p = source_view c.args.subject.now.source in
    let text = c.args.kept.now.text.items in
    let s = c.args.sentence.now in
    let is : c.deref-2.result.now ≡ text ++ s = c.deref-2.ensures.value ∙ c.in_ok-text.ensures ∙ ap (λ t. t ++ s) c.deref.ensures.value in
    let read : steps_spelled p c.deref-2.result.now ≡ Ok (plain_script c.in-Some.script) = rw c.in-Some.is at c.in_ok-script.ensures in
    let script = subst (λ t. steps_spelled p t ≡ Ok (plain_script c.in-Some.script)) is read in
    known-accepted p text s c.args.kept.now.steps (plain_list c.args.kept.now.conditions) c.requires.accepted (plain_script c.in-Some.script) script

pub returns-clause-judges : goal.returns-clause-judges
returns-clause-judges c =
    let p = source_view c.args.subject.now.source in
    let text = c.args.kept.now.text.items in
    let s = c.args.sentence.now in
    let is : c.deref-2.result.now ≡ text ++ s = c.deref-2.ensures.value ∙ c.in_ok-text.ensures ∙ ap (λ t. t ++ s) c.deref.ensures.value in
    let read : steps_spelled p c.deref-2.result.now ≡ Ok (plain_script c.in-Some.script) = rw c.in-Some.is at c.in_ok-script.ensures in
    let script = subst (λ t. steps_spelled p t ≡ Ok (plain_script c.in-Some.script)) is read in
    IfOk-weaker c.take_over.result _ _
    (λ yes h. judged p text s c.args.kept.now.steps (plain_list c.args.kept.now.conditions) c.requires.accepted (plain_script c.in-Some.script) script _ _ yes h)
    c.take_over.ensures.taken
