-- A run has an outcome exactly where it ends so.
use Rattle.std.proofs.Common.{◌≡◌, ℕ, ◌+◌, ◌^◌, ◌<◌, List, length, refl, ap, ◌∙◌, arith}
use Rattle.std.specs.Prelude.{Option, Some, None}
use Rattle.temporal_goals.specs.Texts.{PlainStep}
use Rattle.spl_typer.specs.Programs.{Typed}
use Rattle.step_words.specs.Request.{PlainRequest, checks, verifies, proves, makes, traces, finds}
use Rattle.step_workload.specs.Texts.{program_text, proof_text}
use Rattle.step_report.specs.declared.refusals.FileRole.TheVariants.{Program, Proof, Certificates, Schedule}
use Rattle.step_plan.specs.Outcome.{Outcome}
use Rattle.step_plan.specs.Plan.{Told, Plan, ends, goes_on, asks, then_plan, outcome_of}
use Rattle.step_plan.proofs.Named.{AsksOnly}
use Rattle.step_run.specs.Outcome.{words_refused}
use Rattle.step_run.specs.Conditions.{Posed, passes_limit}
use Rattle.step_run.specs.Checked.{goals_proved, checked}
use Rattle.step_run.specs.Verified.{verified, written, counted, certificates, goals_counted}
use Rattle.step_run.specs.Traced.{Scripted, traced}
use Rattle.step_run.specs.Invariants.{invariants_of}
use Rattle.step_run.specs.Plans.{source_of_text, obliged, posed_of_text, posed_plan, conditions_plan, check_posed, verify_posed, prove_posed, workload_posed, workload_conditions, count_posed, with_number, numbered, scripted_of_text, script_plan, scripted_plan, trace_scripted, find_in, plan_of}
use Rattle.step_run.specs.WellFormed.{IsProgram}
use Rattle.step_run.proofs.Named.{only_workload}
use Rattle.step_run.proofs.Meant.{program_well}
use Rattle.step_run.proofs.Posing.{few_drafts}
use Rattle.status_meanings.specs.Stages.{FileGoes, ProgramGoes, ScriptGoes, posed_over, LimitsGo, ScriptedTexts, MadeTexts, PosedFiles, ScriptedFiles}
use Rattle.status_meanings.specs.Ends.{CheckGoes, SearchGoes, WritesGo, TraceGoes, FindsGo}
use Rattle.status_meanings.specs.Statuses.{EndsAs, RunsEndSo}
use Rattle.status_meanings.proofs.Stages.{TextLaws, some_is, file_to, file_from, program_to, program_from, script_to, script_from, limits_to, limits_from}
use Rattle.status_meanings.proofs.Blocks.{BlockLaws}
use Rattle.status_meanings.proofs.Checks.{check_to, check_from}
use Rattle.status_meanings.proofs.Searches.{search_to, search_from, writes_to, writes_from, finds_to, finds_from}
use Rattle.status_meanings.proofs.Traces.{TraceLaws, trace_to, trace_from}

some : (p q : Outcome) → p ≡ q → ◌≡◌ {A = Option Outcome} (Some p) (Some q)
some p q e = ap (λ (z : Outcome). Some z) e

-- few conditions
room : (p : Typed) (steps : List PlainStep) → passes_limit p steps ≡ None → 1 + length (posed_over p steps).conditions < 2 ^ 32
room p steps few = let le = few_drafts p steps few in omega (arith, le)

abbrev over : Typed → List PlainStep → Scripted
over p steps = record { program = p; steps = steps }

module _ (law : TextLaws) (told : Told) where
  -- TEXTS
  module _ (p : Typed) (qt : List ℕ) (next : Posed → Plan ⊥) (Next : Posed → Outcome → Type 0) where
    texts_to : ((steps : List PlainStep) (o : Outcome) → passes_limit p steps ≡ None → outcome_of told (next (posed_over p steps)) ≡ Some o → Next (posed_over p steps) o) → (o : Outcome) → outcome_of told (then_plan (posed_of_text p qt) next) ≡ Some o
        → ScriptedTexts p qt Next o
    texts_to behind o e =
        script_to law told p qt (λ (P : Plan (List PlainStep)). then_plan (then_plan P (obliged p)) next) (λ steps. then_plan (obliged p steps) next) (λ q. refl) (λ steps. refl) (λ steps q. LimitsGo p steps Next q)
        (λ steps q f. limits_to told p steps (λ (P : Plan Posed). then_plan P next) next (λ r. refl) (λ x. refl) Next (λ r few g. behind steps r few g) q f) o e

    texts_from : ((steps : List PlainStep) (o : Outcome) → passes_limit p steps ≡ None → Next (posed_over p steps) o → outcome_of told (next (posed_over p steps)) ≡ Some o) → (o : Outcome) → ScriptedTexts p qt Next o
        → outcome_of told (then_plan (posed_of_text p qt) next) ≡ Some o
    texts_from behind o h =
        script_from law told p qt (λ (P : Plan (List PlainStep)). then_plan (then_plan P (obliged p)) next) (λ steps. then_plan (obliged p steps) next) (λ q. refl) (λ steps. refl) (λ steps q. LimitsGo p steps Next q)
        (λ steps q f. limits_from told p steps (λ (P : Plan Posed). then_plan P next) next (λ r. refl) (λ x. refl) Next (λ r few g. behind steps r few g) q f) o h

  -- TWO FILES
  module _ (a b : List ℕ) (next : Posed → Plan ⊥) (Next : Posed → Outcome → Type 0) where
    posed_to : ((p : Typed) (steps : List PlainStep) (o : Outcome) → passes_limit p steps ≡ None → outcome_of told (next (posed_over p steps)) ≡ Some o → Next (posed_over p steps) o) → (o : Outcome)
        → outcome_of told (then_plan (conditions_plan a b) next) ≡ Some o → PosedFiles told a b Next o
    posed_to behind o e =
        file_to told Program a (λ pt. then_plan (then_plan (source_of_text pt) (posed_plan b)) next) (λ pt q. ProgramGoes pt (λ p r. FileGoes told Proof b (λ qt s. ScriptedTexts p qt Next s) r) q)
        (λ pt q f. program_to law told pt (λ (P : Plan Typed). then_plan (then_plan P (posed_plan b)) next) (λ p. then_plan (posed_plan b p) next) (λ r. refl) (λ p. refl)
        (λ p r. FileGoes told Proof b (λ qt s. ScriptedTexts p qt Next s) r)
        (λ p r is g. file_to told Proof b (λ qt. then_plan (posed_of_text p qt) next) (λ qt s. ScriptedTexts p qt Next s) (λ qt s h. texts_to p qt next Next (λ steps t few k. behind p steps t few k) s h) r g) q f) o e

    posed_from : ((p : Typed) (steps : List PlainStep) (o : Outcome) → passes_limit p steps ≡ None → Next (posed_over p steps) o → outcome_of told (next (posed_over p steps)) ≡ Some o) → (o : Outcome) → PosedFiles told a b Next o
        → outcome_of told (then_plan (conditions_plan a b) next) ≡ Some o
    posed_from behind o h =
        file_from told Program a (λ pt. then_plan (then_plan (source_of_text pt) (posed_plan b)) next) (λ pt q. ProgramGoes pt (λ p r. FileGoes told Proof b (λ qt s. ScriptedTexts p qt Next s) r) q)
        (λ pt q f. program_from law told pt (λ (P : Plan Typed). then_plan (then_plan P (posed_plan b)) next) (λ p. then_plan (posed_plan b p) next) (λ r. refl) (λ p. refl)
        (λ p r. FileGoes told Proof b (λ qt s. ScriptedTexts p qt Next s) r)
        (λ p r is g. file_from told Proof b (λ qt. then_plan (posed_of_text p qt) next) (λ qt s. ScriptedTexts p qt Next s) (λ qt s k. texts_from p qt next Next (λ steps t few m. behind p steps t few m) s k) r g) q f) o h

  -- A TRACE
  module _ (a b : List ℕ) (next : Scripted → Plan ⊥) (Next : Scripted → Outcome → Type 0) where
    scripted_to : ((pt : List ℕ) (p : Typed) (steps : List PlainStep) (o : Outcome) → IsProgram pt p → outcome_of told (next (over p steps)) ≡ Some o → Next (over p steps) o) → (o : Outcome)
        → outcome_of told (then_plan (scripted_plan a b) next) ≡ Some o → ScriptedFiles told a b Next o
    scripted_to behind o e =
        file_to told Program a (λ pt. then_plan (then_plan (source_of_text pt) (script_plan b)) next) (λ pt q. ProgramGoes pt (λ p r. FileGoes told Proof b (λ qt s. ScriptGoes p qt (λ steps t. Next (over p steps) t) s) r) q)
        (λ pt q f. program_to law told pt (λ (P : Plan Typed). then_plan (then_plan P (script_plan b)) next) (λ p. then_plan (script_plan b p) next) (λ r. refl) (λ p. refl)
        (λ p r. FileGoes told Proof b (λ qt s. ScriptGoes p qt (λ steps t. Next (over p steps) t) s) r)
        (λ p r is g. file_to told Proof b (λ qt. then_plan (scripted_of_text p qt) next) (λ qt s. ScriptGoes p qt (λ steps t. Next (over p steps) t) s)
        (λ qt s h. script_to law told p qt (λ (P : Plan (List PlainStep)). then_plan (then_plan P (λ steps. goes_on (over p steps))) next) (λ steps. next (over p steps)) (λ t. refl) (λ steps. refl)
        (λ steps t. Next (over p steps) t) (λ steps t k. behind pt p steps t is k) s h) r g) q f) o e

    scripted_from : ((pt : List ℕ) (p : Typed) (steps : List PlainStep) (o : Outcome) → IsProgram pt p → Next (over p steps) o → outcome_of told (next (over p steps)) ≡ Some o) → (o : Outcome) → ScriptedFiles told a b Next o
        → outcome_of told (then_plan (scripted_plan a b) next) ≡ Some o
    scripted_from behind o h =
        file_from told Program a (λ pt. then_plan (then_plan (source_of_text pt) (script_plan b)) next) (λ pt q. ProgramGoes pt (λ p r. FileGoes told Proof b (λ qt s. ScriptGoes p qt (λ steps t. Next (over p steps) t) s) r) q)
        (λ pt q f. program_from law told pt (λ (P : Plan Typed). then_plan (then_plan P (script_plan b)) next) (λ p. then_plan (script_plan b p) next) (λ r. refl) (λ p. refl)
        (λ p r. FileGoes told Proof b (λ qt s. ScriptGoes p qt (λ steps t. Next (over p steps) t) s) r)
        (λ p r is g. file_from told Proof b (λ qt. then_plan (scripted_of_text p qt) next) (λ qt s. ScriptGoes p qt (λ steps t. Next (over p steps) t) s)
        (λ qt s k. script_from law told p qt (λ (P : Plan (List PlainStep)). then_plan (then_plan P (λ steps. goes_on (over p steps))) next) (λ steps. next (over p steps)) (λ t. refl) (λ steps. refl)
        (λ steps t. Next (over p steps) t) (λ steps t m. behind pt p steps t is m) s k) r g) q f) o h

  -- A WORKLOAD
  abbrev Counts : Posed → Outcome → Type 0
  Counts x q = SearchGoes x (λ ts r. goals_counted x ts ≡ r) q

  numbered_to : (n : ℕ) (plan : Plan ⊥) (o : Outcome) → AsksOnly (λ role name. ⊥) plan → outcome_of told (numbered n plan) ≡ Some o → (q : Outcome) × (outcome_of told plan ≡ Some q) × (with_number n q ≡ o)
  numbered_to n (ends q) o only e = (q, refl, some_is (with_number n q) o e)
  numbered_to n (goes_on x) o only e = absurd x
  numbered_to n (asks role name go) o only e = absurd only.0

  numbered_from : (n : ℕ) (plan : Plan ⊥) (q : Outcome) → AsksOnly (λ role name. ⊥) plan → outcome_of told plan ≡ Some q → outcome_of told (numbered n plan) ≡ Some (with_number n q)
  numbered_from n (ends p) q only e = ap (λ (z : Outcome). Some (with_number n z)) (some_is p q e)
  numbered_from n (goes_on x) q only e = absurd x
  numbered_from n (asks role name go) q only e = absurd only.0

  workload_to : (n : ℕ) (o : Outcome) → outcome_of told (then_plan (workload_conditions n) count_posed) ≡ Some o → MadeTexts (program_text n) (proof_text n) Counts o
  workload_to n o e =
      program_to law told (program_text n) (λ (P : Plan Typed). then_plan (then_plan P (workload_posed n)) count_posed) (λ p. then_plan (workload_posed n p) count_posed) (λ r. refl) (λ p. refl)
      (λ p q. ScriptedTexts p (proof_text n) Counts q)
      (λ p q is f. texts_to p (proof_text n) count_posed Counts
      (λ steps r few g. (let x = posed_over p steps in search_to x (goals_counted x) (λ ts t. goals_counted x ts ≡ t) (λ ts. refl) r (some_is (counted x) r g))) q f) o e

  workload_from : (n : ℕ) (o : Outcome) → MadeTexts (program_text n) (proof_text n) Counts o → outcome_of told (then_plan (workload_conditions n) count_posed) ≡ Some o
  workload_from n o h =
      program_from law told (program_text n) (λ (P : Plan Typed). then_plan (then_plan P (workload_posed n)) count_posed) (λ p. then_plan (workload_posed n p) count_posed) (λ r. refl) (λ p. refl)
      (λ p q. ScriptedTexts p (proof_text n) Counts q)
      (λ p q is f. texts_from p (proof_text n) count_posed Counts
      (λ steps r few g. (let x = posed_over p steps in some (counted x) r (search_from x (goals_counted x) (λ ts t. goals_counted x ts ≡ t) (λ ts t i. i) r g))) q f) o h

module _ (law : TextLaws) (blocks : BlockLaws) (trace : TraceLaws) (told : Told) where
  to : (request : Option PlainRequest) (o : Outcome) → outcome_of told (plan_of request) ≡ Some o → EndsAs told request o
  to None o e = some_is words_refused o e
  to (Some (checks a b c)) o e =
      posed_to law told a b (check_posed c) (λ x q. FileGoes told Certificates c (λ ct r. CheckGoes x ct r) q)
      (λ p steps q few f. (let x = posed_over p steps in
      file_to told Certificates c (λ ct. ends (checked x ct)) (λ ct r. CheckGoes x ct r) (λ ct r g. check_to blocks x ct (room p steps few) r (some_is (checked x ct) r g)) q f)) o e
  to (Some (verifies a b)) o e =
      posed_to law told a b verify_posed (λ x q. SearchGoes x (λ ts r. goals_proved x ≡ r) q)
      (λ p steps q few f. (let x = posed_over p steps in search_to x (λ ts. goals_proved x) (λ ts r. goals_proved x ≡ r) (λ ts. refl) q (some_is (verified x) q f))) o e
  to (Some (proves a b)) o e =
      posed_to law told a b prove_posed (λ x q. SearchGoes x (λ ts r. WritesGo ts r) q)
      (λ p steps q few f. (let x = posed_over p steps in search_to x certificates (λ ts r. WritesGo ts r) writes_to q (some_is (written x) q f))) o e
  to (Some (makes n)) o e =
      let h = numbered_to law told n (then_plan (workload_conditions n) count_posed) o (only_workload (λ role name. ⊥) n) e in
      record { inner = h.0; ends = workload_to law told n h.0 h.1; is = h.2 }
  to (Some (traces a b c)) o e =
      scripted_to law told a b (trace_scripted c) (λ x q. FileGoes told Schedule c (λ st r. TraceGoes x st r) q)
      (λ pt p steps q is f. (let x = over p steps in let well = (program_well law.meant pt p is).well in
      file_to told Schedule c (λ st. ends (traced x st)) (λ st r. TraceGoes x st r) (λ st r g. trace_to trace x well st r (some_is (traced x st) r g)) q f)) o e
  to (Some (finds a)) o e =
      file_to told Program a (λ pt. then_plan (source_of_text pt) find_in) (λ pt q. ProgramGoes pt (λ p r. FindsGo p r) q)
      (λ pt q f. program_to law told pt (λ (P : Plan Typed). then_plan P find_in) find_in (λ r. refl) (λ p. refl) (λ p r. FindsGo p r) (λ p r is g. finds_to p r (some_is (invariants_of p) r g)) q f) o e

  from : (request : Option PlainRequest) (o : Outcome) → EndsAs told request o → outcome_of told (plan_of request) ≡ Some o
  from None o e = some words_refused o e
  from (Some (checks a b c)) o h =
      posed_from law told a b (check_posed c) (λ x q. FileGoes told Certificates c (λ ct r. CheckGoes x ct r) q)
      (λ p steps q few f. (let x = posed_over p steps in
      file_from told Certificates c (λ ct. ends (checked x ct)) (λ ct r. CheckGoes x ct r) (λ ct r g. some (checked x ct) r (check_from blocks x ct (room p steps few) r g)) q f)) o h
  from (Some (verifies a b)) o h =
      posed_from law told a b verify_posed (λ x q. SearchGoes x (λ ts r. goals_proved x ≡ r) q)
      (λ p steps q few f. (let x = posed_over p steps in some (verified x) q (search_from x (λ ts. goals_proved x) (λ ts r. goals_proved x ≡ r) (λ ts r i. i) q f))) o h
  from (Some (proves a b)) o h =
      posed_from law told a b prove_posed (λ x q. SearchGoes x (λ ts r. WritesGo ts r) q)
      (λ p steps q few f. (let x = posed_over p steps in some (written x) q (search_from x certificates (λ ts r. WritesGo ts r) writes_from q f))) o h
  from (Some (makes n)) o h =
      numbered_from law told n (then_plan (workload_conditions n) count_posed) h.inner (only_workload (λ role name. ⊥) n) (workload_from law told n h.inner h.ends) ∙ some (with_number n h.inner) o h.is
  from (Some (traces a b c)) o h =
      scripted_from law told a b (trace_scripted c) (λ x q. FileGoes told Schedule c (λ st r. TraceGoes x st r) q)
      (λ pt p steps q is f. (let x = over p steps in let well = (program_well law.meant pt p is).well in
      file_from told Schedule c (λ st. ends (traced x st)) (λ st r. TraceGoes x st r) (λ st r g. some (traced x st) r (trace_from trace x well st r g)) q f)) o h
  from (Some (finds a)) o h =
      file_from told Program a (λ pt. then_plan (source_of_text pt) find_in) (λ pt q. ProgramGoes pt (λ p r. FindsGo p r) q)
      (λ pt q f. program_from law told pt (λ (P : Plan Typed). then_plan P find_in) find_in (λ r. refl) (λ p. refl) (λ p r. FindsGo p r) (λ p r is g. some (invariants_of p) r (finds_from p r g)) q f) o h

pub runs_end_so : TextLaws → BlockLaws → TraceLaws → RunsEndSo
runs_end_so law blocks trace told request o = (to law blocks trace told request o, from law blocks trace told request o)
