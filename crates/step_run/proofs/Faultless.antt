-- No plan ends with a fault of the outside, or with want of memory.
use Rattle.std.proofs.Common.{◌≡◌, inl, inr, ℕ, List, refl, ap, ◌∙◌, sym, subst}
use Rattle.std.specs.Prelude.{Option, Some, None, Result, Ok, Err}
use Rattle.st_tokens.specs.declared.kind.TokenFault.{TokenFault}
use Rattle.st_tokens.specs.declared.kind.TokenFault.TheVariants as tokens
use Rattle.st_reading.specs.Reading.{Stop, syntax, broken, other}
use Rattle.st_reading.specs.Faults.{Passed, passed}
use Rattle.temporal_goals.specs.Texts.{PlainStep}
use Rattle.vc_generator.specs.declared.faults.VcFault.{VcFault}
use Rattle.spl_parser.specs.ProgramTree as raw
use Rattle.spl_parser.specs.Parsing.{parsed}
use Rattle.expression_typer.specs.declared.fault.TypeFault.{TypeFault}
use Rattle.expression_typer.specs.declared.fault.TypeFault.TheVariants as faults
use Rattle.expression_typer.specs.Placed.{IsLeast}
use Rattle.spl_typer.specs.Programs.{Typed, typing}
use Rattle.spl_typer.specs.ProgramRules.{program_faults}
use Rattle.typing_laws.specs.Laws.{AreRules, TellsLeast, ReadIsTyped}
use Rattle.st_reading.specs.Breaches.{Breach}
use Rattle.step_report.specs.declared.refusals.FileRole.TheVariants.{Proof}
use Rattle.step_plan.specs.declared.status.Status.TheVariants.{ProofRefused}
use Rattle.step_words.specs.Request.{PlainRequest, checks, verifies, proves, makes, traces, finds}
use Rattle.step_workload.specs.Texts.{program_text, proof_text}
use Rattle.step_plan.specs.Outcome.{Outcome, IsDecided}
use Rattle.step_plan.specs.Plan.{Told, Plan, ends, goes_on, asks, then_plan, EndsIn}
use Rattle.step_run.specs.declared.refusals.Refusal.{Refusal}
use Rattle.step_run.specs.declared.refusals.Refusal.TheVariants.{Fault, Limit, Memory}
use Rattle.step_run.specs.Refusals.{of_token, of_stop, of_rule}
use Rattle.step_run.specs.Outcome.{program_refused}
use Rattle.step_run.specs.Source.{source_typed, source_of, source_spelled}
use Rattle.step_run.specs.Conditions.{Posed, steps_spelled, passes_limit}
use Rattle.step_run.specs.Plans.{program_or_end, source_of_text, source_plan, steps_or_end, script_of_text, script_plan, scripted_plan, trace_scripted, find_in, posed_or_end, obliged, posed_of_text, posed_plan, conditions_plan, check_posed, verify_posed, prove_posed, count_posed, workload_posed, workload_conditions, numbered, plan_for, plan_of}
use Rattle.step_run.specs.Decided.{PlansAreDecided}
use Rattle.step_run.proofs.Decided.{text_decided, checked_decided, verified_decided, written_decided, counted_decided, traced_decided}
use Rattle.step_run.proofs.Found.{looked-decided}
use Rattle.step_run.proofs.Sources.{source_read}
use Rattle.step_run.proofs.Posing.{script_read, obliged_is}

-- each end of a plan is decided; where a file is too long the run's end is decided anyway
abbrev pub EndsDecided : {A : Type 0} → Plan A → Type 0
EndsDecided (ends o) = IsDecided o.status
EndsDecided (goes_on x) = Unit {0}
EndsDecided (asks role name go) = (bytes : List ℕ) → EndsDecided (go bytes)

pub decided_then : {A B : Type 0} (next : A → Plan B) (plan : Plan A) → EndsDecided plan → ((x : A) → EndsDecided (next x)) → EndsDecided (then_plan plan next)
decided_then next (ends o) first rest = first
decided_then next (goes_on x) first rest = rest x
decided_then next (asks role name go) first rest = λ bytes. decided_then next (go bytes) (first bytes) rest

decided_end : {A : Type 0} (told : Told) (plan : Plan A) (o : Outcome) → EndsDecided plan → EndsIn told plan o → IsDecided o.status
decided_end told (ends p) o h e = subst (λ (q : Outcome). IsDecided q.status) e h
decided_end told (goes_on x) o h e = absurd e
decided_end told (asks role name go) o h (inl long) = subst (λ (q : Outcome). IsDecided q.status) (sym long.1) tt
decided_end told (asks role name go) o h (inr more) = decided_end told (go more.0) o (h more.0) more.3

-- a refusal that isn't want of memory
abbrev IsNamed : Refusal → Type 0
IsNamed (Fault kind place) = Unit {0}
IsNamed (Limit kind) = Unit {0}
IsNamed Memory = ⊥

program_end : (refusal : Refusal) → IsNamed refusal → IsDecided (program_refused refusal).status
program_end (Fault kind place) named = tt
program_end (Limit kind) named = tt
program_end Memory named = absurd named

token_named : (f : TokenFault) → IsNamed (of_token f)
token_named (tokens.BadByte place) = tt
token_named (tokens.LongNumber place) = tt

stop_named : (f : Stop Passed) → IsNamed (of_stop f)
stop_named (syntax place) = tt
stop_named (broken f) = token_named f
stop_named (other (passed kind place)) = tt

rule_named : (f : TypeFault) → (f ≡ faults.Memory → ⊥) → IsNamed (of_rule f)
rule_named (faults.Unknown place) not = tt
rule_named (faults.Twice place) not = tt
rule_named (faults.WrongType place) not = tt
rule_named (faults.NonLinear place) not = tt
rule_named (faults.TooLarge place) not = tt
rule_named (faults.InputAssigned place) not = tt
rule_named (faults.SelectHead place) not = tt
rule_named (faults.SameTarget place) not = tt
rule_named (faults.Limit kind place) not = tt
rule_named faults.Memory not = absurd (not refl)

module _ (typed : ReadIsTyped) where
  -- no rule of typing is want of memory
  never_memory : (text : List ℕ) (x : raw.Program) → parsed text ≡ Ok x → typing x ≡ Err faults.Memory → ⊥
  never_memory text x reads is =
      let law = typed text x reads in
      let least : IsLeast faults.Memory (program_faults x) = subst (λ (r : Result Typed TypeFault). TellsLeast r (program_faults x)) is law.1 in
      (subst AreRules least.among law.0).0

  by_typed : (text : List ℕ) (x : raw.Program) → parsed text ≡ Ok x → (r : Result Typed TypeFault) → typing x ≡ r → EndsDecided (program_or_end (source_typed r))
  by_typed text x reads (Ok p) is = tt
  by_typed text x reads (Err f) is = program_end (of_rule f) (rule_named f (λ same. never_memory text x reads (is ∙ ap Err same)))

  by_parsed : (text : List ℕ) (r : Result raw.Program (Stop Passed)) → parsed text ≡ r → EndsDecided (program_or_end (source_of r))
  by_parsed text (Ok x) is = by_typed text x is (typing x) refl
  by_parsed text (Err f) is = program_end (of_stop f) (stop_named f)

  spelled_end : (text : List ℕ) → EndsDecided (program_or_end (source_spelled text))
  unfolding source_spelled
  spelled_end text = by_parsed text (parsed text) refl

  pub decided_source : (text : List ℕ) → EndsDecided (source_of_text text)
  decided_source text = subst (λ (q : Plan Typed). EndsDecided q) (sym (source_read text (source_spelled text) refl)) (spelled_end text)

  steps_end : (r : Result (List PlainStep) (Stop Breach)) → EndsDecided (steps_or_end r)
  steps_end (Ok steps) = tt
  steps_end (Err f) = text_decided ProofRefused Proof tt f

  pub decided_script : (p : Typed) (text : List ℕ) → EndsDecided (script_of_text p text)
  decided_script p text =
      subst (λ (q : Plan (List PlainStep)). EndsDecided q) (sym (script_read p text (steps_spelled p text) refl)) (steps_end (steps_spelled p text))

  posed_end : (p : Typed) (steps : List PlainStep) (o : Option (VcFault × ℕ)) → EndsDecided (posed_or_end p steps o)
  posed_end p steps None = tt
  posed_end p steps (Some limit) = tt

  decided_obliged : (p : Typed) (steps : List PlainStep) → EndsDecided (obliged p steps)
  decided_obliged p steps = subst (λ (q : Plan Posed). EndsDecided q) (sym (obliged_is p steps (passes_limit p steps) refl)) (posed_end p steps (passes_limit p steps))

  decided_posed : (p : Typed) (text : List ℕ) → EndsDecided (posed_of_text p text)
  decided_posed p text = decided_then (obliged p) (script_of_text p text) (decided_script p text) (decided_obliged p)

  pub decided_conditions : (a b : List ℕ) → EndsDecided (conditions_plan a b)
  decided_conditions a b = decided_then (posed_plan b) (source_plan a) decided_source (λ p. decided_posed p)

  numbered_decided : (n : ℕ) (plan : Plan ⊥) → EndsDecided plan → EndsDecided (numbered n plan)
  numbered_decided n (ends o) h = h
  numbered_decided n (goes_on x) h = absurd x
  numbered_decided n (asks role name go) h = λ bytes. numbered_decided n (go bytes) (h bytes)

  decided_workload : (n : ℕ) → EndsDecided (then_plan (workload_conditions n) count_posed)
  decided_workload n =
      decided_then count_posed (workload_conditions n) (decided_then (workload_posed n) (source_of_text (program_text n)) (decided_source (program_text n)) (λ p. decided_posed p (proof_text n))) counted_decided

  decided_for : (request : PlainRequest) → EndsDecided (plan_for request)
  decided_for (checks a b c) = decided_then (check_posed c) (conditions_plan a b) (decided_conditions a b) (λ x. checked_decided x)
  decided_for (verifies a b) = decided_then verify_posed (conditions_plan a b) (decided_conditions a b) verified_decided
  decided_for (proves a b) = decided_then prove_posed (conditions_plan a b) (decided_conditions a b) written_decided
  decided_for (makes n) = numbered_decided n (then_plan (workload_conditions n) count_posed) (decided_workload n)
  decided_for (traces a b c) =
      decided_then (trace_scripted c) (scripted_plan a b)
      (decided_then (script_plan b) (source_plan a) decided_source
      (λ p text. decided_then (λ steps. goes_on (record { program = p; steps = steps })) (script_of_text p text) (decided_script p text) (λ steps. tt)))
      (λ x text. traced_decided x text)
  decided_for (finds p) = decided_then find_in (source_plan p) decided_source (λ p. looked-decided p)

  decided_of : (o : Option PlainRequest) → EndsDecided (plan_of o)
  decided_of None = tt
  decided_of (Some request) = decided_for request

  pub plans_decided : PlansAreDecided
  plans_decided told request o e = decided_end told (plan_of request) o (decided_of request) e
