-- From the end of `prove` to that of `check`.
use Rattle.std.proofs.Common.{◌≡◌, ℕ, List, refl, sym, ap, ◌∙◌, subst, arith}
use Rattle.std.specs.Prelude.{Option, Some, None, IfSome}
use Rattle.temporal_goals.specs.Texts.{PlainStep}
use Rattle.spl_parser.specs.Theorems.{SpelledIsRead}
use Rattle.spl_typer.specs.Programs.{Typed}
use Rattle.search_laws.specs.Programs.{ProgramsAreInOrder}
use Rattle.search_blocks.specs.Laws.{FoundAreWritten, TextsHoldBlocks}
use Rattle.step_words.specs.Request.{checks, proves}
use Rattle.step_report.specs.declared.refusals.FileRole.{FileRole}
use Rattle.step_report.specs.declared.refusals.FileRole.TheVariants.{Program, Proof, Certificates, Schedule}
use Rattle.step_report.specs.Goals.{certificates_text}
use Rattle.step_plan.specs.declared.status.Status.{Status}
use Rattle.step_plan.specs.declared.status.Status.TheVariants.{Proved}
use Rattle.step_plan.specs.Outcome.{Outcome}
use Rattle.step_plan.specs.Plan.{Told, then_plan, outcome_of, EndsIn}
use Rattle.step_run.specs.Request.{NamesFile}
use Rattle.step_run.specs.Conditions.{setting_of, conditions_of}
use Rattle.step_run.specs.Verified.{certificates}
use Rattle.step_run.specs.Plans.{source_of_text, posed_of_text, posed_plan, prove_posed, plan_of}
use Rattle.step_run.specs.WellFormed.{Checks, AreShort, IsShort}
use Rattle.step_run.specs.Headline.{report}
use Rattle.step_run.proofs.Posing.{few_drafts}
use Rattle.step_run.proofs.Named.{named}
use Rattle.step_run.proofs.Headline.{posed, file_proved, source_proved, posed_proved, Laws, reads, search_passed, certificates_passed}
use Rattle.step_run.proofs.Exact.{shows, exactly}
use Rattle.step_laws.specs.Laws.{with_status_zero, IsAccepted, ProvedIsAccepted}
use Rattle.step_laws.proofs.Outcomes.{outcome_ends, AllTold, has_outcome}
use Rattle.step_laws.proofs.Discharging.{discharge}

at_told : (t : Option (List ℕ)) (text : List ℕ) (P : List ℕ → Type 0) → t ≡ Some text → IfSome t P → P text
at_told t text P is h = subst (λ (x : Option (List ℕ)). IfSome x P) is h

module _ (law : Laws) (spelled : SpelledIsRead) (ordered : ProgramsAreInOrder) (written : FoundAreWritten) (hold : TextsHoldBlocks) (told : Told) (a b c pt qt ct : List ℕ) (ia : told a ≡ Some pt) (ib : told b ≡ Some qt) (ic : told c ≡ Some ct) where
  -- what `prove` has shown: the text holds valid blocks, and is within its limit
  record IsWritten : Type 0 where
    short : AreShort pt qt
    fits : IsShort ct
    p : Typed
    steps : List PlainStep
    holds : Checks pt qt ct p steps

  prove_shows : EndsIn told (plan_of (Some (proves a b))) (with_status_zero ct) → IsWritten
  prove_shows e =
      let o = with_status_zero ct in
      let first = file_proved told o Program a pt (λ text. then_plan (then_plan (source_of_text text) (posed_plan b)) prove_posed) ia e refl in
      let source = source_proved told o pt (posed_plan b) prove_posed first.1 refl in
      let second = file_proved told o Proof b qt (λ text. then_plan (posed_of_text source.0 text) prove_posed) ib source.2 refl in
      let rest = posed_proved told o source.0 qt prove_posed second.1 refl in
      let found = search_passed (posed source.0 rest.steps) certificates o rest.goes refl in
      let passed = certificates_passed found.trees o found.same refl in
      let text : ct ≡ certificates_text found.trees = ap (λ (x : Outcome). x.text) passed.0 in
      let few = few_drafts source.0 rest.steps rest.few in
      let blocks = hold (setting_of source.0) (conditions_of source.0 rest.steps) found.trees (omega (arith, few))
      (discharge law ordered written source.0 (pt, source.1) rest.steps found.trees (qt, rest.script) found.found) in
      record {
        short = (first.0, second.0);
        fits = subst IsShort (sym text) passed.1;
        p = source.0;
        steps = rest.steps;
        holds = subst (λ (x : List ℕ). Checks pt qt x source.0 rest.steps) (sym text) (record { reads = reads law pt qt source.0 rest.steps source.1 rest.script rest.few; blocks = blocks });
      }

  all_told : AllTold told (plan_of (Some (checks a b c)))
  all_told role name comes = by role (named told (Some (checks a b c)) role name comes) where
    by : (r : FileRole) → NamesFile (Some (checks a b c)) r name → (bytes : List ℕ) × (told name ≡ Some bytes)
    by Program is = let same : a ≡ name = cc in (pt, sym (ap told same) ∙ ia)
    by Proof is = let same : b ≡ name = cc in (qt, sym (ap told same) ∙ ib)
    by Certificates is = let same : c ≡ name = cc in (ct, sym (ap told same) ∙ ic)
    by Schedule is = absurd (let none : None ≡ Some name = is in cc)

  check_ends : IsWritten → (o : Outcome) → outcome_of told (plan_of (Some (checks a b c))) ≡ Some o → IsAccepted told a b c pt qt
  check_ends w o is =
      let e = outcome_ends told (plan_of (Some (checks a b c))) o is in
      let exact = at_told (told c) ct _ ic (at_told (told b) qt _ ib (at_told (told a) pt _ ia (exactly law spelled told (Some (checks a b c)) o e))) in
      let proved : o.status ≡ Proved = exact.1 (w.short, w.fits, (w.p, w.steps, w.holds)) in
      let shown = at_told (told c) ct _ ic (at_told (told b) qt _ ib (at_told (told a) pt _ ia (shows law spelled told (Some (checks a b c)) o (λ text. o.text ≡ text) e proved refl))) in
      let same : o ≡ with_status_zero (report shown.program shown.steps) = ap (λ (s : Status). record { status = s; text = o.text }) proved ∙ ap with_status_zero shown.said in
      record { program = shown.program; steps = shown.steps; reads = shown.texts.reads; outcome = is ∙ ap (λ (x : Outcome). Some x) same }

  accepts : outcome_of told (plan_of (Some (proves a b))) ≡ Some (with_status_zero ct) → IsAccepted told a b c pt qt
  accepts is =
      let o = has_outcome told (plan_of (Some (checks a b c))) all_told in
      check_ends (prove_shows (outcome_ends told (plan_of (Some (proves a b))) (with_status_zero ct) is)) o.0 o.1

pub accepted : Laws → SpelledIsRead → ProgramsAreInOrder → FoundAreWritten → TextsHoldBlocks → ProvedIsAccepted
accepted law spelled ordered written hold told a b c pt qt ct ia ib ic is = accepts law spelled ordered written hold told a b c pt qt ct ia ib ic is
