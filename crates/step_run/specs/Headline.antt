-- What a run has shown that ends with status 0, and when it does.
--
-- `specs/WellFormed.antt` says what the texts are. Here stand what is shown of them (`Hold`, `AreJudged`); for each
-- command a record of what its status 0 shows, and when this comes; and last of which files this is said.
use Rattle.std.specs.Prelude.{◌≡◌, ◌↔◌, ℕ, ◌≤◌, List, [], ◌∷◌, ◌++◌, length}
use Rattle.std.specs.Prelude.{All, Option, Some, None, IfSome}
use Rattle.st_form.specs.Formula.{Situation}
use Rattle.st_form.specs.declared.conditions.TransName.{TransName}
use Rattle.st_certificate.specs.Tree.{Tree}
use Rattle.temporal_goals.specs.Texts.{PlainStep}
use Rattle.fair_runs.specs.Kept.{IsKept}
use Rattle.observations.specs.Observation.{Observation}
use Rattle.spl_semantics.specs.Runs.{State, IsSeenOf}
use Rattle.spl_typer.specs.Programs.{Typed}
use Rattle.run_judging.specs.Greatest.{AreGreatest}
use Rattle.run_judging.specs.declared.judged.Judged.{Judged}
use Rattle.schedule_reader.specs.Schedules.{PlainSchedule}
use Rattle.trace_player.specs.Judgements.{JudgedOn}
use Rattle.equation_laws.specs.Equations.{PlainEquation, found}
use Rattle.step_words.specs.Request.{PlainRequest, checks, verifies, proves, makes, traces, finds}
use Rattle.step_workload.specs.Texts.{program_text, proof_text}
use Rattle.step_report.specs.Goals.{proved_text, counted_text, workload_line, certificates_text}
use Rattle.step_report.specs.Traces.{played_text}
use Rattle.step_plan.specs.declared.status.Status.{Status}
use Rattle.step_plan.specs.declared.status.Status.TheVariants.{Proved}
use Rattle.step_plan.specs.Plan.{Told}
use Rattle.step_run.specs.Conditions.{system_of, conditions_of}
use Rattle.step_run.specs.Verified.{nodes_in}
use Rattle.step_run.specs.Scheduled.{start_of}
use Rattle.step_run.specs.WellFormed.{IsProgram, Checks, Decides, Traces, AreShort, IsShort}

-- each goal holds on every run of the program and along every fair sequence of its states, and each response is met
abbrev pub Hold : Typed → List PlainStep → Type 0
Hold p steps = All (λ s. IsKept p.processes p.initial s.goal) steps

-- what is judged of the goal of each step
abbrev pub AreJudged : Observation Situation → List PlainStep → List Judged → Type 0
AreJudged o [] js = js ≡ []
AreJudged o (s ∷ ss) [] = ⊥
AreJudged o (s ∷ ss) (j ∷ js) = JudgedOn s.goal o j × AreJudged o ss js

-- the goals by name, and the numbers of goals, conditions and nodes
abbrev pub report : Typed → List PlainStep → List ℕ
report p steps = proved_text p.names steps (length (conditions_of p steps))

abbrev pub numbers : Typed → List PlainStep → List Tree → List ℕ
numbers p steps ts = counted_text steps (length (conditions_of p steps)) (nodes_in ts)

-- `check`: the certificates are valid, so the goals hold, and the output names them
pub record CheckShown (pt qt ct : List ℕ) (Said : List ℕ → Type 0) : Type 0 where
  pub program : Typed
  pub steps : List PlainStep
  pub texts : Checks pt qt ct program steps
  pub holds : Hold program steps
  pub said : Said (report program steps)

abbrev pub CheckPasses : List ℕ → List ℕ → List ℕ → Type 0
CheckPasses pt qt ct =
    AreShort pt qt × IsShort ct × ((p : Typed) × (steps : List PlainStep) × Checks pt qt ct p steps)

-- `verify`: the conditions are decided valid, so the goals hold, and the output names them
pub record VerifyShown (pt qt : List ℕ) (Said : List ℕ → Type 0) : Type 0 where
  pub program : Typed
  pub steps : List PlainStep
  pub trees : List Tree
  pub texts : Decides pt qt program steps trees
  pub holds : Hold program steps
  pub said : Said (report program steps)

abbrev pub VerifyPasses : List ℕ → List ℕ → Type 0
VerifyPasses pt qt =
    AreShort pt qt × ((p : Typed) × (steps : List PlainStep) × (ts : List Tree) × Decides pt qt p steps ts)

-- `prove`: the same, and the output is the certificates, where these aren't too long to be checked
pub record ProveShown (pt qt : List ℕ) (Said : List ℕ → Type 0) : Type 0 where
  pub program : Typed
  pub steps : List PlainStep
  pub trees : List Tree
  pub texts : Decides pt qt program steps trees
  pub holds : Hold program steps
  pub said : Said (certificates_text trees)

abbrev pub ProvePasses : List ℕ → List ℕ → Type 0
ProvePasses pt qt =
    AreShort pt qt × ((p : Typed) × (steps : List PlainStep) × (ts : List Tree)
    × Decides pt qt p steps ts × IsShort (certificates_text ts))

-- `workload`: the same of texts that are made, and the output counts
pub record WorkloadShown (n : ℕ) (Said : List ℕ → Type 0) : Type 0 where
  pub program : Typed
  pub steps : List PlainStep
  pub trees : List Tree
  pub texts : Decides (program_text n) (proof_text n) program steps trees
  pub holds : Hold program steps
  pub said : Said (workload_line n ++ numbers program steps trees)

abbrev pub WorkloadPasses : ℕ → Type 0
WorkloadPasses n =
    (p : Typed) × (steps : List PlainStep) × (ts : List Tree)
    × Decides (program_text n) (proof_text n) p steps ts

-- `trace`: of the run of the schedule the output tells how many rounds begin at each position at most, and of
-- each goal what is judged of it on that run
pub record TraceShown (pt qt st : List ℕ) (Said : List ℕ → Type 0) : Type 0 where
  pub program : Typed
  pub steps : List PlainStep
  pub schedule : PlainSchedule
  pub later : List (TransName × State)
  pub counts : List ℕ
  pub judged : List Judged
  pub seen : Observation Situation
  pub texts : Traces pt qt st program steps schedule later
  pub seen_of : IsSeenOf program.processes (start_of program schedule) later seen
  pub greatest : AreGreatest seen counts
  pub judges : AreJudged seen steps judged
  pub said : Said (played_text program.names steps (length schedule.moves) counts judged)

abbrev pub TracePasses : List ℕ → List ℕ → List ℕ → Type 0
TracePasses pt qt st =
    AreShort pt qt × (length st ≤ 4194304)
    × ((p : Typed) × (steps : List PlainStep) × (s : PlainSchedule) × (later : List (TransName × State))
    × Traces pt qt st p steps s later)

-- `invariants`: the output is the text of a proof, whose conditions are decided valid, so its goals hold; it comes
-- where no number is too large while equations are looked for
pub record InvariantsShown (pt : List ℕ) (Said : List ℕ → Type 0) : Type 0 where
  pub program : Typed
  pub text : List ℕ
  pub steps : List PlainStep
  pub trees : List Tree
  pub texts : Decides pt text program steps trees
  pub holds : Hold program steps
  pub said : Said text

abbrev pub InvariantsPass : List ℕ → Type 0
InvariantsPass pt =
    (length pt ≤ 4194304)
    × ((p : Typed) × (es : List PlainEquation) × IsProgram pt p × (found (system_of p) ≡ Some es))

-- where the bytes of both files are told, or of all three
abbrev pub Both : Told → List ℕ → List ℕ → (List ℕ → List ℕ → Type 0) → Type 0
Both told a b P = IfSome (told a) (λ pt. IfSome (told b) (λ qt. P pt qt))

abbrev pub Three : Told → List ℕ → List ℕ → List ℕ → (List ℕ → List ℕ → List ℕ → Type 0) → Type 0
Three told a b c P = Both told a b (λ pt qt. IfSome (told c) (λ ct. P pt qt ct))

-- what status 0 shows of the files that a request names
abbrev pub Headline : Told → (List ℕ → Type 0) → Option PlainRequest → Type 0
Headline told Said (Some (checks a b c)) = Three told a b c (λ pt qt ct. CheckShown pt qt ct Said)
Headline told Said (Some (verifies a b)) = Both told a b (λ pt qt. VerifyShown pt qt Said)
Headline told Said (Some (proves a b)) = Both told a b (λ pt qt. ProveShown pt qt Said)
Headline told Said (Some (makes n)) = WorkloadShown n Said
Headline told Said (Some (traces a b c)) = Three told a b c (λ pt qt st. TraceShown pt qt st Said)
Headline told Said (Some (finds a)) = IfSome (told a) (λ pt. InvariantsShown pt Said)
Headline told Said None = ⊥

-- and exactly when it comes
abbrev pub Exactly : Told → Status → Option PlainRequest → Type 0
Exactly told s (Some (checks a b c)) = Three told a b c (λ pt qt ct. (s ≡ Proved) ↔ CheckPasses pt qt ct)
Exactly told s (Some (verifies a b)) = Both told a b (λ pt qt. (s ≡ Proved) ↔ VerifyPasses pt qt)
Exactly told s (Some (proves a b)) = Both told a b (λ pt qt. (s ≡ Proved) ↔ ProvePasses pt qt)
Exactly told s (Some (makes n)) = (s ≡ Proved) ↔ WorkloadPasses n
Exactly told s (Some (traces a b c)) = Three told a b c (λ pt qt st. (s ≡ Proved) ↔ TracePasses pt qt st)
Exactly told s (Some (finds a)) = IfSome (told a) (λ pt. (s ≡ Proved) ↔ InvariantsPass pt)
Exactly told s None = s ≡ Proved → ⊥
