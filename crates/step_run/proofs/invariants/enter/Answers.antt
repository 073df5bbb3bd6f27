use Rattle.std.proofs.Common.{◌++◌, List, ℕ, refl, sym, subst, ap, ◌∙◌}
use Rattle.std.proofs.lemmas.Result.{on_ok_weaker}
use Rattle.equation_writer.specs.Sentences.{left_out_text}
use Rattle.proof_grammar.proofs.Growing.{nothing_stands, lines_stand, comments_add_nothing}
use Rattle.vc_generator.specs.Plain.{plain_list}
use Rattle.step_run.specs.Growth.{IsKept}
use Rattle.step_run.specs.Views.{source_view}
use Rattle.step_run.proofs.Growing.{comment-kept, line-pushed, line-kept}
use Rattle.step_run.proofs.invariants.enter.Goals as goal

pub returns-in_ok-push_text-in-Some-clause-text : goal.returns-in_ok-push_text-in-Some-clause-text
returns-in_ok-push_text-in-Some-clause-text c =
    let now = c.chosen.new.kept.text.items in
    let told = rw c.in-Some.is at (c.in_ok-sentence.ensures.chosen c.args.number) in
    on_ok_weaker c.push_text-in-Some.result
    (λ h. line-pushed c.args.kept.now.text.items now c.push_text.new.out.items c.in-Some.sentence.items c.push_text-in-Some.new.out.items _ c.in_ok-sentence.ensures.text
    (c.in_ok-push_text-in-Some.ensures ∙ ap (λ (t : List ℕ). now ++ t) c.deref.ensures.value) h told.0)
    c.push_text-in-Some.ensures

pub returns-in_ok-push_text-in-Some-clause-accepted : goal.returns-in_ok-push_text-in-Some-clause-accepted
returns-in_ok-push_text-in-Some-clause-accepted c =
    let text = c.args.kept.now.text.items in
    let kept = c.chosen.new.kept in
    let more = c.in-Some.sentence.items in
    let out = c.push_text-in-Some.new.out.items in
    let told = rw c.in-Some.is at (c.in_ok-sentence.ensures.chosen c.args.number) in
    on_ok_weaker c.push_text-in-Some.result
    (λ h. line-kept (source_view c.args.subject.now.source) text more out kept.steps (plain_list kept.conditions)
    (line-pushed text kept.text.items c.push_text.new.out.items more out more c.in_ok-sentence.ensures.text (c.in_ok-push_text-in-Some.ensures ∙ ap (λ (t : List ℕ). kept.text.items ++ t) c.deref.ensures.value) h refl) told.1)
    c.push_text-in-Some.ensures

pub returns-in_ok-push_left_out-in-None-clause-text : goal.returns-in_ok-push_left_out-in-None-clause-text
returns-in_ok-push_left_out-in-None-clause-text c =
    let told = rw c.in-None.is at (c.in_ok-sentence.ensures.chosen c.args.number) in
    on_ok_weaker c.push_text-in-None.result
    (λ h. line-pushed c.args.kept.now.text.items c.chosen.new.kept.text.items c.push_left_out.new.out.items (left_out_text c.args.number) c.push_text-in-None.new.out.items _ c.in_ok-sentence.ensures.text
    c.in_ok-push_left_out-in-None.ensures h told.0)
    c.push_text-in-None.ensures

pub returns-in_ok-push_left_out-in-None-clause-accepted : goal.returns-in_ok-push_left_out-in-None-clause-accepted
returns-in_ok-push_left_out-in-None-clause-accepted c =
    let text = c.args.kept.now.text.items in
    let kept = c.chosen.new.kept in
    let n = c.args.number in
    let out = c.push_text-in-None.new.out.items in
    let told = rw c.in-None.is at (c.in_ok-sentence.ensures.chosen n) in
    on_ok_weaker c.push_text-in-None.result
    (λ h. subst (λ (t : List ℕ). IsKept (source_view c.args.subject.now.source) t kept.steps (plain_list kept.conditions))
    (sym (line-pushed text kept.text.items c.push_left_out.new.out.items (left_out_text n) out (left_out_text n) c.in_ok-sentence.ensures.text c.in_ok-push_left_out-in-None.ensures h refl))
    (comment-kept nothing_stands lines_stand comments_add_nothing (source_view c.args.subject.now.source) text n kept.steps (plain_list kept.conditions) told.1))
    c.push_text-in-None.ensures
