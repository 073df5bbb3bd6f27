-- Well formed, discharged, and nothing failed outside: so status 0 with exactly this text, or want of memory.
use Rattle.std.specs.Prelude.{◌≡◌, ◌⊎◌, ◌≤◌, ℕ, List, ◌++◌, length, Option, Some, None}
use Rattle.st_certificate.specs.Tree.{Tree}
use Rattle.st_form.specs.declared.conditions.TransName.{TransName}
use Rattle.st_outside.specs.Sink.{behind}
use Rattle.temporal_goals.specs.Texts.{PlainStep}
use Rattle.spl_semantics.specs.Runs.{State}
use Rattle.spl_typer.specs.Programs.{Typed}
use Rattle.schedule_reader.specs.Schedules.{PlainSchedule}
use Rattle.equation_laws.specs.Equations.{PlainEquation, found}
use Rattle.step_words.specs.Request.{PlainRequest, checks, verifies, proves, makes, traces, finds}
use Rattle.step_workload.specs.Texts.{program_text, proof_text}
use Rattle.step_report.specs.Goals.{proved_text, counted_text, workload_line, certificates_text}
use Rattle.step_plan.specs.declared.status.Status.{Status}
use Rattle.step_plan.specs.declared.status.Status.TheVariants.{Proved, Memory}
use Rattle.step_plan.specs.Outcome.{Outcome}
use Rattle.step_plan.specs.Plan.{Told, outcome_of}
use Rattle.step_plan.specs.Ending.{EndsHonestly}
use Rattle.step_run.specs.Conditions.{system_of, conditions_of}
use Rattle.step_run.specs.Verified.{nodes_in}
use Rattle.step_run.specs.Invariants.{invariants_text}
use Rattle.step_run.specs.Scheduled.{observed_of}
use Rattle.step_run.specs.Traced.{report_of}
use Rattle.step_run.specs.Plans.{plan_of}
use Rattle.step_run.specs.WellFormed.{IsProgram, Checks, Decides, Traces, AreShort, IsShort}

-- the texts of two files, within their lengths
pub record AreTwo (told : Told) (a b pt qt : List ℕ) : Type 0 where
  pub program : told a ≡ Some pt
  pub proof : told b ≡ Some qt
  pub short : AreShort pt qt

-- What a command asks for is so, and this is its text: of `check`, the blocks are valid;
pub record CheckSucceeds (told : Told) (a b c text : List ℕ) : Type 0 where
  pub pt : List ℕ
  pub qt : List ℕ
  pub ct : List ℕ
  pub files : AreTwo told a b pt qt
  pub third : told c ≡ Some ct
  pub short : IsShort ct
  pub p : Typed
  pub steps : List PlainStep
  pub texts : Checks pt qt ct p steps
  pub is : proved_text p.names steps (length (conditions_of p steps)) ≡ text

-- of `verify`, the conditions are decided valid;
pub record VerifySucceeds (told : Told) (a b text : List ℕ) : Type 0 where
  pub pt : List ℕ
  pub qt : List ℕ
  pub files : AreTwo told a b pt qt
  pub p : Typed
  pub steps : List PlainStep
  pub trees : List Tree
  pub texts : Decides pt qt p steps trees
  pub is : proved_text p.names steps (length (conditions_of p steps)) ≡ text

-- of `prove`, the same, with certificates that aren't too long;
pub record ProveSucceeds (told : Told) (a b text : List ℕ) : Type 0 where
  pub pt : List ℕ
  pub qt : List ℕ
  pub files : AreTwo told a b pt qt
  pub p : Typed
  pub steps : List PlainStep
  pub trees : List Tree
  pub texts : Decides pt qt p steps trees
  pub short : IsShort (certificates_text trees)
  pub is : certificates_text trees ≡ text

-- of a workload, the same of its texts;
pub record WorkloadSucceeds (n : ℕ) (text : List ℕ) : Type 0 where
  pub p : Typed
  pub steps : List PlainStep
  pub trees : List Tree
  pub texts : Decides (program_text n) (proof_text n) p steps trees
  pub is : workload_line n ++ counted_text steps (length (conditions_of p steps)) (nodes_in trees) ≡ text

-- of a trace, the schedule gives this run;
pub record TraceSucceeds (told : Told) (a b c text : List ℕ) : Type 0 where
  pub pt : List ℕ
  pub qt : List ℕ
  pub st : List ℕ
  pub files : AreTwo told a b pt qt
  pub third : told c ≡ Some st
  pub short : length st ≤ 4194304
  pub p : Typed
  pub steps : List PlainStep
  pub schedule : PlainSchedule
  pub later : List (TransName × State)
  pub texts : Traces pt qt st p steps schedule later
  pub is : report_of (record { program = p; steps = steps }) (length schedule.moves) (observed_of p schedule later) ≡ text

-- and of a search for invariances, no number is too large while equations are looked for
pub record FindSucceeds (told : Told) (a text : List ℕ) : Type 0 where
  pub pt : List ℕ
  pub file : told a ≡ Some pt
  pub short : length pt ≤ 4194304
  pub p : Typed
  pub program : IsProgram pt p
  pub equations : List PlainEquation
  pub found_are : found (system_of p) ≡ Some equations
  pub is : invariants_text p equations ≡ text

abbrev pub Succeeds : Told → Option PlainRequest → List ℕ → Type 0
Succeeds told None text = ⊥
Succeeds told (Some (checks a b c)) text = CheckSucceeds told a b c text
Succeeds told (Some (verifies a b)) text = VerifySucceeds told a b text
Succeeds told (Some (proves a b)) text = ProveSucceeds told a b text
Succeeds told (Some (makes n)) text = WorkloadSucceeds n text
Succeeds told (Some (traces a b c)) text = TraceSucceeds told a b c text
Succeeds told (Some (finds a)) text = FindSucceeds told a text

abbrev pub proved_with : List ℕ → Outcome
proved_with text = record { status = Proved; text = text }

-- the plan ends with status 0 and this text, and so does each run where nothing outside failed, but for want of memory
pub record IsComplete (told : Told) (request : Option PlainRequest) (text : List ℕ) : Type 0 where
  pub outcome : outcome_of told (plan_of request) ≡ Some (proved_with text)
  pub runs : (status : Status) (before now : Option (List ℕ)) → EndsHonestly status before now (proved_with text) → (status ≡ Memory) ⊎ ((status ≡ Proved) × (now ≡ behind before text))

abbrev pub RunsAreComplete : Type 0
RunsAreComplete = (told : Told) (request : Option PlainRequest) (text : List ℕ) → Succeeds told request text → IsComplete told request text
