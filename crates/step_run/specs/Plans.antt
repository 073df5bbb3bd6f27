-- The plan of a run for what its words ask for: which files it asks for, and how it ends.
use Rattle.std.specs.Prelude.{ℕ, List, ◌++◌, Option, Some, None, Result, Ok, Err}
use Rattle.temporal_goals.specs.Texts.{PlainStep}
use Rattle.vc_generator.specs.declared.faults.VcFault.{VcFault}
use Rattle.spl_typer.specs.Programs.{Typed}
use Rattle.st_reading.specs.Reading.{Stop}
use Rattle.st_reading.specs.Breaches.{Breach}
use Rattle.step_words.specs.Request.{PlainRequest, checks, verifies, proves, makes, traces, finds}
use Rattle.step_report.specs.declared.refusals.FileRole.TheVariants.{Program, Proof, Certificates, Schedule}
use Rattle.step_report.specs.Goals.{workload_line}
use Rattle.step_plan.specs.Limits.{limited}
use Rattle.step_plan.specs.Outcome.{Outcome}
use Rattle.step_plan.specs.Plan.{Plan, ends, goes_on, asks, then_plan, file_plan, file_end}
use Rattle.step_run.specs.declared.refusals.Refusal.{Refusal}
use Rattle.step_run.specs.Source.{source_spelled}
use Rattle.step_run.specs.Conditions.{Posed, steps_spelled, conditions_of, passes_limit, limit_of}
use Rattle.step_run.specs.Outcome.{words_refused, program_refused, script_refused}
use Rattle.step_run.specs.Checked.{checked}
use Rattle.step_run.specs.Verified.{verified, written, counted}
use Rattle.step_run.specs.Traced.{Scripted, traced}
use Rattle.step_run.specs.Invariants.{invariants_of}
use Rattle.step_workload.specs.Texts.{program_text, proof_text}

-- the program that a text spells
abbrev pub program_or_end : Result Typed Refusal → Plan Typed
program_or_end (Ok p) = goes_on p
program_or_end (Err refusal) = ends (program_refused refusal)

unfoldable pub source_of_text : List ℕ → Plan Typed
source_of_text text = program_or_end (source_spelled text)

abbrev pub source_plan : List ℕ → Plan Typed
source_plan name = then_plan (file_plan Program name) source_of_text

-- the script that a text spells over the program
abbrev pub steps_or_end : Result (List PlainStep) (Stop Breach) → Plan (List PlainStep)
steps_or_end (Ok steps) = goes_on steps
steps_or_end (Err fault) = ends (script_refused fault)

unfoldable pub script_of_text : Typed → List ℕ → Plan (List PlainStep)
script_of_text p text = steps_or_end (steps_spelled p text)

-- the conditions of the script, unless one passes a limit
abbrev pub posed_or_end : Typed → List PlainStep → Option (VcFault × ℕ) → Plan Posed
posed_or_end p steps None = goes_on (record { program = p; steps = steps; conditions = conditions_of p steps })
posed_or_end p steps (Some passed) = ends (limited (limit_of passed.0))

unfoldable pub obliged : Typed → List PlainStep → Plan Posed
obliged p steps = posed_or_end p steps (passes_limit p steps)

abbrev pub posed_of_text : Typed → List ℕ → Plan Posed
posed_of_text p text = then_plan (script_of_text p text) (obliged p)

abbrev pub posed_plan : List ℕ → Typed → Plan Posed
posed_plan name p = then_plan (file_plan Proof name) (posed_of_text p)

-- the program and its conditions, from two files
abbrev pub conditions_plan : List ℕ → List ℕ → Plan Posed
conditions_plan program proof = then_plan (source_plan program) (posed_plan proof)

-- how each request ends once its conditions are posed
abbrev pub check_posed : List ℕ → Posed → Plan ⊥
check_posed name x = file_end Certificates name (checked x)

abbrev pub verify_posed : Posed → Plan ⊥
verify_posed x = ends (verified x)

abbrev pub prove_posed : Posed → Plan ⊥
prove_posed x = ends (written x)

-- a workload, whose texts are made and not read: its number stands before every text
abbrev pub workload_posed : ℕ → Typed → Plan Posed
workload_posed n p = posed_of_text p (proof_text n)

abbrev pub count_posed : Posed → Plan ⊥
count_posed x = ends (counted x)

abbrev pub workload_conditions : ℕ → Plan Posed
workload_conditions n = then_plan (source_of_text (program_text n)) (workload_posed n)

abbrev pub with_number : ℕ → Outcome → Outcome
with_number n o = record { status = o.status; text = workload_line n ++ o.text }

abbrev pub numbered : ℕ → Plan ⊥ → Plan ⊥
numbered n (ends o) = ends (with_number n o)
numbered n (goes_on x) = goes_on x
numbered n (asks role name go) = asks role name (λ bytes. numbered n (go bytes))

-- a trace, which makes no conditions
abbrev pub scripted_of_text : Typed → List ℕ → Plan Scripted
scripted_of_text p text = then_plan (script_of_text p text) (λ steps. goes_on (record { program = p; steps = steps }))

abbrev pub script_plan : List ℕ → Typed → Plan Scripted
script_plan name p = then_plan (file_plan Proof name) (scripted_of_text p)

abbrev pub scripted_plan : List ℕ → List ℕ → Plan Scripted
scripted_plan program proof = then_plan (source_plan program) (script_plan proof)

abbrev pub trace_scripted : List ℕ → Scripted → Plan ⊥
trace_scripted name x = file_end Schedule name (traced x)

-- the invariants that are found for a program
abbrev pub find_in : Typed → Plan ⊥
find_in p = ends (invariants_of p)

-- the run that a request asks for
abbrev pub plan_for : PlainRequest → Plan ⊥
plan_for (checks program proof certificates) = then_plan (conditions_plan program proof) (check_posed certificates)
plan_for (verifies program proof) = then_plan (conditions_plan program proof) verify_posed
plan_for (proves program proof) = then_plan (conditions_plan program proof) prove_posed
plan_for (makes n) = numbered n (then_plan (workload_conditions n) count_posed)
plan_for (traces program proof schedule) = then_plan (scripted_plan program proof) (trace_scripted schedule)
plan_for (finds program) = then_plan (source_plan program) find_in

abbrev pub plan_of : Option PlainRequest → Plan ⊥
plan_of None = ends words_refused
plan_of (Some request) = plan_for request
