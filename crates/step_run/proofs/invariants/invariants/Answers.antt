use Rattle.std.proofs.Common.{◌≡◌, ap, ◌∙◌}
use Rattle.std.proofs.lemmas.Result.{IfOk-weaker}
use Rattle.transition_system.specs.Plain.{plain_system}
use Rattle.linear_invariants.specs.Plain.{plain_equations}
use Rattle.equation_writer.proofs.Finding.{found_are_proper}
use Rattle.step_run.specs.Invariants.{invariants_text}
use Rattle.step_run.specs.Views.{source_view}
use Rattle.step_run.proofs.Accepting.{system-whole, looked-none, looked-some}
use Rattle.step_run.proofs.Posing.{system_is}
use Rattle.step_run.proofs.invariants.invariants.Goals as goal

pub returns-in-Err-Wide : goal.returns-in-Err-Wide
returns-in-Err-Wide c =
    let p = source_view c.args.source in
    let system = plain_system c.in_ok-fts.fts in
    let same = system_is p system c.in_ok-fts.ensures.exact in
    let none = rw c.in-Err-Wide.field-0-is at c.in-Err-Wide.ensures.exact in
    IfOk-weaker c.end.result _ _ (λ e h. h ∙ looked-none p system same none) c.end.ensures

pub entered-requires-clause-subject : goal.entered-requires-clause-subject
entered-requires-clause-subject c = record {
  spelled = c.requires;
  system = system_is (source_view c.args.source) (plain_system c.in_ok-fts.fts) c.in_ok-fts.ensures.exact;
  control = c.in_ok-components.ensures.facts;
}

pub entered-requires-clause-proper : goal.entered-requires-clause-proper
entered-requires-clause-proper c =
    (let p = source_view c.args.source in
    let system = plain_system c.in_ok-fts.fts in
    let same = system_is p system c.in_ok-fts.ensures.exact in
    rw c.deref.ensures.value (found_are_proper system (plain_equations c.in-Ok.equations.items) (system-whole p system c.requires same) c.in-Ok.ensures.exact))

pub returns : goal.returns
returns c =
    let p = source_view c.args.source in
    let system = plain_system c.in_ok-fts.fts in
    let same = system_is p system c.in_ok-fts.ensures.exact in
    let text : c.in_ok-text.text.items ≡ invariants_text p (plain_equations c.in-Ok.equations.items) = c.in_ok-text.ensures ∙ ap (λ es. invariants_text p (plain_equations es)) c.deref.ensures.value in
    c.shown.ensures ∙ looked-some p system (plain_equations c.in-Ok.equations.items) c.in_ok-text.text.items same c.in-Ok.ensures.exact text
