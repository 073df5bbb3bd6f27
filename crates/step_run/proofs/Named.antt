-- A run asks for files that its request names.
use Rattle.std.proofs.Common.{ℕ, List, refl}
use Rattle.std.specs.Prelude.{Option, Some, None, Result, Ok, Err}
use Rattle.temporal_goals.specs.Texts.{PlainStep}
use Rattle.vc_generator.specs.declared.faults.VcFault.{VcFault}
use Rattle.spl_typer.specs.Programs.{Typed}
use Rattle.st_reading.specs.Reading.{Stop}
use Rattle.st_reading.specs.Breaches.{Breach}
use Rattle.step_words.specs.Request.{PlainRequest, checks, verifies, proves, makes, traces, finds}
use Rattle.step_report.specs.declared.refusals.FileRole.{FileRole}
use Rattle.step_report.specs.declared.refusals.FileRole.TheVariants.{Program, Proof}
use Rattle.step_plan.specs.Ending.{Names}
use Rattle.step_plan.specs.Plan.{Told, Plan, ends, goes_on, asks, then_plan, ComesTo}
use Rattle.step_plan.proofs.Named.{AsksOnly, only_then, only_comes}
use Rattle.step_run.specs.declared.refusals.Refusal.{Refusal}
use Rattle.step_run.specs.Conditions.{steps_spelled, passes_limit}
use Rattle.step_run.specs.Source.{source_spelled}
use Rattle.step_run.specs.Request.{NamesFile}
use Rattle.step_run.specs.Plans.{program_or_end, source_of_text, source_plan, steps_or_end, script_of_text, posed_or_end, obliged, posed_of_text, posed_plan, conditions_plan, check_posed, verify_posed, prove_posed, count_posed, workload_posed, workload_conditions, numbered, script_plan, scripted_plan, trace_scripted, plan_for, plan_of, find_in}
use Rattle.step_workload.specs.Texts.{program_text, proof_text}

module _ (P : Names) where
  or_end : (r : Result Typed Refusal) → AsksOnly P (program_or_end r)
  or_end (Ok p) = tt
  or_end (Err refusal) = tt

  only_source : (text : List ℕ) → AsksOnly P (source_of_text text)
  unfolding source_of_text
  only_source text = or_end (source_spelled text)

  steps_end : (r : Result (List PlainStep) (Stop Breach)) → AsksOnly P (steps_or_end r)
  steps_end (Ok steps) = tt
  steps_end (Err fault) = tt

  only_script : (p : Typed) (text : List ℕ) → AsksOnly P (script_of_text p text)
  unfolding script_of_text
  only_script p text = steps_end (steps_spelled p text)

  posed_end : (p : Typed) (steps : List PlainStep) (o : Option (VcFault × ℕ)) → AsksOnly P (posed_or_end p steps o)
  posed_end p steps None = tt
  posed_end p steps (Some passed) = tt

  only_obliged : (p : Typed) (steps : List PlainStep) → AsksOnly P (obliged p steps)
  unfolding obliged
  only_obliged p steps = posed_end p steps (passes_limit p steps)

  only_posed : (p : Typed) (text : List ℕ) → AsksOnly P (posed_of_text p text)
  only_posed p text = only_then P (obliged p) (script_of_text p text) (only_script p text) (only_obliged p)

  only_conditions : (a b : List ℕ) → P Program a → P Proof b → AsksOnly P (conditions_plan a b)
  only_conditions a b first second = only_then P (posed_plan b) (source_plan a) (first, only_source) (λ p. (second, only_posed p))

  only_scripted : (a b : List ℕ) → P Program a → P Proof b → AsksOnly P (scripted_plan a b)
  only_scripted a b first second =
      only_then P (script_plan b) (source_plan a) (first, only_source)
      (λ p. (second, λ text. only_then P (λ steps. goes_on (record { program = p; steps = steps })) (script_of_text p text) (only_script p text) (λ steps. tt)))

  numbered_only : (n : ℕ) (plan : Plan ⊥) → AsksOnly P plan → AsksOnly P (numbered n plan)
  numbered_only n (ends o) h = tt
  numbered_only n (goes_on x) h = absurd x
  numbered_only n (asks role name go) h = (h.0, λ bytes. numbered_only n (go bytes) (h.1 bytes))

  pub only_workload : (n : ℕ) → AsksOnly P (then_plan (workload_conditions n) count_posed)
  only_workload n =
      only_then P count_posed (workload_conditions n) (only_then P (workload_posed n) (source_of_text (program_text n)) (only_source (program_text n)) (λ p. only_posed p (proof_text n))) (λ x. tt)

only_for : (request : PlainRequest) → AsksOnly (NamesFile (Some request)) (plan_for request)
only_for (checks a b c) =
    let P : Names = NamesFile (Some (checks a b c)) in
    only_then P (check_posed c) (conditions_plan a b) (only_conditions P a b refl refl) (λ x. (refl, λ text. tt))
only_for (verifies a b) = let P : Names = NamesFile (Some (verifies a b)) in only_then P verify_posed (conditions_plan a b) (only_conditions P a b refl refl) (λ x. tt)
only_for (proves a b) = let P : Names = NamesFile (Some (proves a b)) in only_then P prove_posed (conditions_plan a b) (only_conditions P a b refl refl) (λ x. tt)
only_for (makes n) =
    let P : Names = NamesFile (Some (makes n)) in
    numbered_only P n (then_plan (workload_conditions n) count_posed) (only_workload P n)
only_for (traces a b c) =
    let P : Names = NamesFile (Some (traces a b c)) in
    only_then P (trace_scripted c) (scripted_plan a b) (only_scripted P a b refl refl) (λ x. (refl, λ text. tt))
only_for (finds p) = let P : Names = NamesFile (Some (finds p)) in only_then P find_in (source_plan p) (refl, only_source P) (λ x. tt)

only_of : (o : Option PlainRequest) → AsksOnly (NamesFile o) (plan_of o)
only_of None = tt
only_of (Some request) = only_for request

pub named : (told : Told) (o : Option PlainRequest) (role : FileRole) (name : List ℕ) → ComesTo told (plan_of o) role name → NamesFile o role name
named told o role name asked = only_comes (NamesFile o) told (plan_of o) role name (only_of o) asked
