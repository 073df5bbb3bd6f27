-- From what a command asks for to its end.
use Rattle.std.proofs.Common.{◌≡◌, inl, inr, ◌⊎◌, ℕ, List, refl, ap, subst}
use Rattle.std.specs.Prelude.{Option, Some, None}
use Rattle.st_outside.specs.Sink.{behind}
use Rattle.step_words.specs.Request.{PlainRequest, checks, verifies, proves, makes, traces, finds}
use Rattle.step_plan.specs.declared.status.Status.{Status}
use Rattle.step_plan.specs.declared.status.Status.TheVariants.{Proved, Memory}
use Rattle.step_plan.specs.Plan.{Told}
use Rattle.step_plan.specs.Ending.{EndsHonestly}
use Rattle.step_run.specs.Checked.{goals_proved}
use Rattle.step_run.specs.Verified.{goals_counted}
use Rattle.step_run.proofs.Within.{none_pass}
use Rattle.status_meanings.specs.Stages.{is_read, is_program, is_script, posed_over, passes_none}
use Rattle.status_meanings.specs.Ends.{has_blocks, finds_all, writes, is_run, finds_these}
use Rattle.status_meanings.specs.Statuses.{EndsAs, RunsEndSo}
use Rattle.status_meanings.specs.Completeness.{Succeeds, proved_with, RunsAreComplete}

ends_so : (told : Told) (request : Option PlainRequest) (text : List ℕ) → Succeeds told request text → EndsAs told request (proved_with text)
ends_so told None text h = absurd h
ends_so told (Some (checks a b c)) text h =
    let r = h.texts.reads in
    let x = posed_over h.p h.steps in
    let o = goals_proved x in
    subst (λ z. EndsAs told (Some (checks a b c)) (proved_with z)) h.is
    (is_read h.pt o h.files.program h.files.short.0 (is_program h.p o r.scripted.program
    (is_read h.qt o h.files.proof h.files.short.1 (is_script h.steps o r.scripted.script (passes_none o (none_pass h.p h.steps r.within) (is_read h.ct o h.third h.short (has_blocks h.texts.blocks)))))))
ends_so told (Some (verifies a b)) text h =
    let r = h.texts.reads in
    let o = goals_proved (posed_over h.p h.steps) in
    subst (λ z. EndsAs told (Some (verifies a b)) (proved_with z)) h.is
    (is_read h.pt o h.files.program h.files.short.0 (is_program h.p o r.scripted.program
    (is_read h.qt o h.files.proof h.files.short.1 (is_script h.steps o r.scripted.script (passes_none o (none_pass h.p h.steps r.within) (finds_all h.trees o h.texts.found refl))))))
ends_so told (Some (proves a b)) text h =
    let r = h.texts.reads in
    subst (λ z. EndsAs told (Some (proves a b)) (proved_with z)) h.is
    (is_read h.pt _ h.files.program h.files.short.0 (is_program h.p _ r.scripted.program
    (is_read h.qt _ h.files.proof h.files.short.1 (is_script h.steps _ r.scripted.script (passes_none _ (none_pass h.p h.steps r.within) (finds_all h.trees _ h.texts.found (writes h.short)))))))
ends_so told (Some (makes n)) text h =
    let r = h.texts.reads in
    let o = goals_counted (posed_over h.p h.steps) h.trees in
    record {
      inner = o;
      ends = is_program h.p o r.scripted.program (is_script h.steps o r.scripted.script (passes_none o (none_pass h.p h.steps r.within) (finds_all h.trees o h.texts.found refl)));
      is = ap proved_with h.is;
    }
ends_so told (Some (traces a b c)) text h =
    let s = h.texts.scripted in
    subst (λ z. EndsAs told (Some (traces a b c)) (proved_with z)) h.is
    (is_read h.pt _ h.files.program h.files.short.0 (is_program h.p _ s.program
    (is_read h.qt _ h.files.proof h.files.short.1 (is_script h.steps _ s.script (is_read h.st _ h.third h.short (is_run h.schedule h.later h.texts.schedule h.texts.run))))))
ends_so told (Some (finds a)) text h =
    subst (λ z. EndsAs told (Some (finds a)) (proved_with z)) h.is (is_read h.pt _ h.file h.short (is_program h.p _ h.program (finds_these h.equations h.found_are)))

honest : (text : List ℕ) (status : Status) (before now : Option (List ℕ)) → EndsHonestly status before now (proved_with text) → (status ≡ Memory) ⊎ ((status ≡ Proved) × (now ≡ behind before text))
honest text status before now (inl memory) = inl memory
honest text status before now (inr r) = inr (r.status_is, r.written)

pub runs_are_complete : RunsEndSo → RunsAreComplete
runs_are_complete law told request text h =
    record { outcome = (law told request (proved_with text)).1 (ends_so told request text h); runs = honest text }
