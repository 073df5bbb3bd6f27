-- From an end with status 1 to the condition that it names.
use Rattle.std.proofs.Common.{◌≡◌, ℕ, List, ◌++◌, refl, sym, ap, ◌∙◌, subst, arith}
use Rattle.std.specs.Prelude.{Some, None, Ok}
use Rattle.st_form.specs.Condition.{Implication}
use Rattle.st_certificate.specs.Tree.{Tree}
use Rattle.temporal_goals.specs.Texts.{PlainStep}
use Rattle.spl_typer.specs.Programs.{Typed}
use Rattle.search_laws.specs.Moves.{Verdict, open_at, wide_at}
use Rattle.step_words.specs.Request.{makes}
use Rattle.step_workload.specs.Texts.{program_text, proof_text}
use Rattle.step_report.specs.declared.refusals.FileRole.TheVariants.{Program, Proof}
use Rattle.step_report.specs.Goals.{workload_line}
use Rattle.step_plan.specs.declared.status.Status.{Status}
use Rattle.step_plan.specs.declared.status.Status.TheVariants.{NotProved}
use Rattle.step_plan.specs.Outcome.{Outcome}
use Rattle.step_plan.specs.Plan.{Told, Plan, ends, goes_on, asks, then_plan, EndsIn}
use Rattle.step_plan.proofs.Named.{AsksOnly}
use Rattle.step_run.specs.Source.{source_spelled}
use Rattle.step_run.specs.Conditions.{Posed, setting_of, steps_spelled, conditions_of, passes_limit}
use Rattle.step_run.specs.Checked.{goals_proved}
use Rattle.step_run.specs.Verified.{Verified, all_found, left_open, given_up, verified_from, search_ended, searched, certificates, goals_counted}
use Rattle.step_run.specs.Plans.{source_of_text, posed_of_text, posed_plan, conditions_plan, verify_posed, prove_posed, workload_posed, workload_conditions, count_posed, with_number, numbered}
use Rattle.step_run.proofs.Named.{only_workload}
use Rattle.step_run.proofs.Headline.{posed, reads}
use Rattle.first_failures.specs.Failing.{IsNext, Tells, tells_open, tells_wide, FailsFirst}
use Rattle.first_failures.specs.Laws.{EndsOpen, SearchesFailFirst}
use Rattle.first_failures.proofs.Finding.{IsFirst, EndsAt, ends_at}
use Rattle.first_failures.proofs.Passing.{IsOpen, certificates_not, file_read, program_read, script_posed}
use Rattle.first_failures.proofs.Explaining.{MoreLaws, open', wide'}

same_number : (m n : ℕ) → ◌≡◌ {A = Status} (NotProved m) (NotProved n) → m ≡ n
same_number m n e = cc

module _ (law : MoreLaws) (pt qt : List ℕ) (p : Typed) (source : source_spelled pt ≡ Ok p) (steps : List PlainStep) (script : steps_spelled p qt ≡ Ok steps) (few : passes_limit p steps ≡ None) (n : ℕ) (o : Outcome) (status : IsOpen n o) where
  next_of : (m : ℕ) (c : Implication) (v : Verdict) → m ≡ n → IsFirst (setting_of p) 1 (conditions_of p steps) m c v → IsNext (setting_of p) (conditions_of p steps) n c
  next_of m c v same f = record { before = f.before; behind = f.behind; are = f.are; number = (let e = f.number in omega (arith, e, same)); trees = f.trees; valid = f.valid }

  failing : (m : ℕ) (c : Implication) (v : Verdict) → m ≡ n → IsFirst (setting_of p) 1 (conditions_of p steps) m c v → Tells p steps m c o.text → FailsFirst pt qt n o.text
  failing m c v same f tells = record {
    typed = p;
    steps = steps;
    reads = reads law.below pt qt p steps source script few;
    condition = c;
    is_next = next_of m c v same f;
    tells = subst (λ (m : ℕ). Tells p steps m c o.text) same tells;
  }

  by_found : (all : List Tree → Outcome) → ((ts : List Tree) → IsOpen n (all ts) → ⊥) → (r : Verified) → EndsAt (setting_of p) 1 (conditions_of p steps) r → search_ended (posed p steps) all r ≡ o → FailsFirst pt qt n o.text
  by_found all never (all_found ts) h e = absurd (never ts (subst (IsOpen n) (sym e) status))
  by_found all never (left_open m c path state) h e =
      let same = same_number m n (ap (λ (x : Outcome). x.status) e ∙ status) in
      failing m c (open_at path state) same h
      (subst (Tells p steps m c) (ap (λ (x : Outcome). x.text) e) (tells_open path state (open' law p (pt, source) steps (qt, script) h.before h.behind c h.are path state h.verdict)))
  by_found all never (given_up m c path stage) h e =
      let same = same_number m n (ap (λ (x : Outcome). x.status) e ∙ status) in
      failing m c (wide_at path stage) same h
      (subst (Tells p steps m c) (ap (λ (x : Outcome). x.text) e) (tells_wide path stage (wide' law p (pt, source) steps (qt, script) h.before h.behind c h.are path stage h.verdict)))

  pub by_search : (all : List Tree → Outcome) → ((ts : List Tree) → IsOpen n (all ts) → ⊥) → searched (posed p steps) all ≡ o → FailsFirst pt qt n o.text
  unfolding searched
  by_search all never e = by_found all never (verified_from (setting_of p) 1 (conditions_of p steps)) (ends_at (setting_of p) 1 (conditions_of p steps)) e

module _ (law : MoreLaws) (told : Told) where
  -- a search behind two files
  by_files : (a b pt qt : List ℕ) (all : Posed → List Tree → Outcome) (next : Posed → Plan ⊥) → ((x : Posed) → next x ≡ ends (searched x (all x))) → (n : ℕ) → ((x : Posed) (ts : List Tree) → IsOpen n (all x ts) → ⊥)
      → told a ≡ Some pt → told b ≡ Some qt → (o : Outcome) → IsOpen n o → EndsIn told (then_plan (conditions_plan a b) next) o → FailsFirst pt qt n o.text
  by_files a b pt qt all next is n never ia ib o status e =
      let one = file_read told o n status Program a pt (λ text. then_plan (then_plan (source_of_text text) (posed_plan b)) next) ia e in
      let source = program_read told o n status pt (posed_plan b) next one in
      let two = file_read told o n status Proof b qt (λ text. then_plan (posed_of_text source.0 text) next) ib source.2 in
      let rest = script_posed told o n status source.0 qt next two in
      let x = posed source.0 rest.steps in
      let last : searched x (all x) ≡ o = subst (λ (q : Plan ⊥). EndsIn told q o) (is x) rest.goes in
      by_search law pt qt source.0 source.1 rest.steps rest.script rest.few n o status (all x) (never x) last

  -- an end of a workload bears its number
  numbered_ends : (n : ℕ) (plan : Plan ⊥) (o : Outcome) → AsksOnly (λ role name. ⊥) plan → EndsIn told (numbered n plan) o → (p : Outcome) × EndsIn told plan p × (with_number n p ≡ o)
  numbered_ends n (ends p) o only e = (p, refl, e)
  numbered_ends n (goes_on x) o only e = absurd e
  numbered_ends n (asks role name go) o only e = absurd only.0

  by_workload : (number n : ℕ) (o : Outcome) → EndsOpen told (makes number) n o → (text : List ℕ) × (o.text ≡ workload_line number ++ text) × FailsFirst (program_text number) (proof_text number) n text
  by_workload number n o e =
      let inner = numbered_ends number (then_plan (workload_conditions number) count_posed) o (only_workload (λ role name. ⊥) number) e.ends in
      let q = inner.0 in
      let status : IsOpen n q = ap (λ (x : Outcome). x.status) inner.2 ∙ e.status in
      let source = program_read told q n status (program_text number) (workload_posed number) count_posed inner.1 in
      let rest = script_posed told q n status source.0 (proof_text number) count_posed source.2 in
      let x = posed source.0 rest.steps in (
        q.text,
        sym (ap (λ (y : Outcome). y.text) inner.2),
        by_search law (program_text number) (proof_text number) source.0 source.1 rest.steps rest.script rest.few n q status (goals_counted x) (λ ts e. cc) rest.goes,
      )

pub fail_first : MoreLaws → SearchesFailFirst
fail_first law = record {
  verify = λ told a b pt qt ia ib n o e. by_files law told a b pt qt (λ x ts. goals_proved x) verify_posed (λ x. refl) n (λ x ts e. cc) ia ib o e.status e.ends;
  prove = λ told a b pt qt ia ib n o e. by_files law told a b pt qt (λ x ts. certificates ts) prove_posed (λ x. refl) n (λ x ts e. certificates_not n ts e) ia ib o e.status e.ends;
  workload = λ told number n o e. by_workload law told number n o e;
}
