-- What each status but 0 means: one sentence for each, of which a run that ends so makes one true. Of status 0 the headline of
-- step_run speaks. `line_of` stands before each text of a workload.
use Rattle.std.specs.Prelude.{◌≡◌, ℕ, ◌≤◌, ◌<◌, false, true, List, [], ◌++◌, length, Option, Some, None}
use Rattle.st_tokens.specs.Stream.{text_stream}
use Rattle.st_tokens.specs.declared.limit.LimitKind.{LimitKind}
use Rattle.st_tokens.specs.declared.limit.LimitKind.TheVariants as limits
use Rattle.st_form.specs.Condition.{Implication}
use Rattle.st_certificate.specs.Tree.{Tree}
use Rattle.st_reading.specs.Reading.{Stop, other}
use Rattle.st_reading.specs.Faults.{Passed}
use Rattle.st_reading.specs.Breaches as breaches
use Rattle.st_reading.specs.Breaches.{Breach}
use Rattle.temporal_goals.specs.Texts.{PlainStep}
use Rattle.elimination_laws.specs.declared.stage.WideStage.{WideStage}
use Rattle.search_laws.specs.Moves.{open_at, wide_at}
use Rattle.search_laws.specs.States as searching
use Rattle.search_laws.specs.Walks.{PathStep}
use Rattle.vc_generator.specs.declared.faults.VcFault.{VcFault}
use Rattle.spl_parser.specs.ProgramTree as raw
use Rattle.spl_parser.specs.Theorems.{Spells}
use Rattle.expression_typer.specs.declared.fault.TypeFault.{TypeFault}
use Rattle.expression_typer.specs.Placed.{IsLeast}
use Rattle.spl_typer.specs.Programs.{Typed}
use Rattle.spl_typer.specs.ProgramRules.{program_faults}
use Rattle.spl_semantics.specs.Data.{store_of}
use Rattle.spl_semantics.specs.Stores.{holds}
use Rattle.proof_grammar.specs.Grammar.{SpellsScript}
use Rattle.schedule_reader.specs.Schedules.{PlainSchedule}
use Rattle.schedule_grammar.specs.FirstFault.{IsFirstFault}
use Rattle.schedule_grammar.specs.Theorems.{SpellsSchedule}
use Rattle.trace_laws.specs.Endings.{IsWideBehind, IsStuckBehind}
use Rattle.equation_laws.specs.Equations.{found}
use Rattle.block_laws.specs.Checked.{whole_text}
use Rattle.step_words.specs.Request.{PlainRequest, verifies, proves, makes}
use Rattle.step_workload.specs.Texts.{program_text, proof_text}
use Rattle.step_report.specs.declared.conditions.Reason.{Reason}
use Rattle.step_report.specs.declared.conditions.Reason.TheVariants.{Open, Wide}
use Rattle.step_report.specs.declared.refusals.FaultKind.{FaultKind}
use Rattle.step_report.specs.declared.refusals.FileRole.{FileRole}
use Rattle.step_report.specs.declared.refusals.FileRole.TheVariants.{Program, Proof, Certificates, Schedule}
use Rattle.step_report.specs.Ends.{wide_invariants_text}
use Rattle.step_report.specs.Goals.{workload_line, certificates_text}
use Rattle.step_report.specs.Limits.{limit_text}
use Rattle.step_report.specs.Refused.{refused_text, trailing_text}
use Rattle.step_report.specs.Searches.{open_text, wide_text}
use Rattle.step_report.specs.Traces.{illegal_start_text, illegal_move_text, value_limit_text}
use Rattle.step_plan.specs.declared.status.Status.{Status}
use Rattle.step_plan.specs.declared.status.Status.TheVariants.{Proved, NotProved, Words, ProgramRefused, ProofRefused, TrailingCerts, ReadFault, WriteFault, Limit, Memory, ScheduleRefused, Illegal, ValueLimit, InvariantsWide}
use Rattle.step_plan.specs.Limits.{length_limit, length_kind}
use Rattle.step_plan.specs.Plan.{Told, outcome_of}
use Rattle.step_run.specs.declared.refusals.Refusal.{Refusal}
use Rattle.step_run.specs.declared.refusals.Refusal.TheVariants as refusals
use Rattle.step_run.specs.Refusals.{of_stop, of_rule}
use Rattle.step_run.specs.Outcome.{words_refused, script_refused}
use Rattle.step_run.specs.Conditions.{system_of, setting_of, words_over, conditions_of, passes_limit, limit_of}
use Rattle.step_run.specs.Checked.{not_proved}
use Rattle.step_run.specs.Verified.{undecided}
use Rattle.step_run.specs.Plans.{plan_of}
use Rattle.step_run.specs.Request.{named_file}
use Rattle.step_run.specs.Scheduled.{start_of}
use Rattle.step_run.specs.Traced.{schedule_refused}
use Rattle.step_run.specs.WellFormed.{IsProgram, AreFound}
use Rattle.status_meanings.specs.Blocks.{IsFirstWithout}
use Rattle.status_meanings.specs.Stages.{IsOffGrammar, IsOffScript, posed_over}
use Rattle.status_meanings.specs.Ends.{IsTrailing, IsFirstOpen}

-- the text of a part in a run: the bytes of a file, within its length, or a workload's
pub data HasText (told : Told) : Option PlainRequest → FileRole → List ℕ → Type 0 where
  of_file : (request : PlainRequest) (role : FileRole) (name bytes : List ℕ) → named_file request role ≡ Some name → told name ≡ Some bytes → length bytes ≤ length_limit role → HasText told (Some request) role bytes
  made_program : (n : ℕ) → HasText told (Some (makes n)) Program (program_text n)
  made_proof : (n : ℕ) → HasText told (Some (makes n)) Proof (proof_text n)

abbrev pub line_of : Option PlainRequest → List ℕ
line_of (Some (makes n)) = workload_line n
line_of _ = []

-- commands that search for certificates
abbrev pub IsSearch : Option PlainRequest → Type 0
IsSearch (Some (verifies a b)) = Unit {0}
IsSearch (Some (proves a b)) = Unit {0}
IsSearch (Some (makes n)) = Unit {0}
IsSearch _ = ⊥

abbrev pub IsProve : Option PlainRequest → Type 0
IsProve (Some (proves a b)) = Unit {0}
IsProve _ = ⊥

-- a fault that is a limit
abbrev pub IsLimit : Stop Breach → Type 0
IsLimit (other (breaches.limited kind place)) = Unit {0}
IsLimit (other (breaches.crowded place)) = Unit {0}
IsLimit _ = ⊥

-- why a text is no program
pub data WhyProgram (pt : List ℕ) : Refusal → Type 0 where
  by_grammar : (f : Stop Passed) → IsOffGrammar pt f → WhyProgram pt (of_stop f)
  by_rule : (x : raw.Program) (f : TypeFault) → Spells pt x → IsLeast f (program_faults x) → WhyProgram pt (of_rule f)

module _ (told : Told) (request : Option PlainRequest) where
  -- the program that the request speaks of, its script, and that no condition passes a limit
  pub record ProgramOver (p : Typed) : Type 0 where
    pub pt : List ℕ
    pub text : HasText told request Program pt
    pub program : IsProgram pt p

  pub record ScriptOver (p : Typed) (steps : List PlainStep) : Type 0 where
    pub over : ProgramOver p
    pub qt : List ℕ
    pub text : HasText told request Proof qt
    pub script : SpellsScript (words_over p) qt steps

  pub record ConditionsOver (p : Typed) (steps : List PlainStep) : Type 0 where
    pub scripted : ScriptOver p steps
    pub few : passes_limit p steps ≡ None

  -- 1
  pub data NotDischarged : ℕ → List ℕ → Type 0 where
    without_block : (p : Typed) (steps : List PlainStep) (ct : List ℕ) (n : ℕ) (c : Implication) (reason : Reason) → ConditionsOver p steps → HasText told request Certificates ct
        → IsFirstWithout (setting_of p) (conditions_of p steps) (whole_text ct) n c reason → NotDischarged n (line_of request ++ (not_proved (posed_over p steps) n c reason).text)
    left_open : (p : Typed) (steps : List PlainStep) (n : ℕ) (c : Implication) (path : List PathStep) (state : Option searching.State) → ConditionsOver p steps → IsSearch request
        → IsFirstOpen (setting_of p) 1 (conditions_of p steps) n c (open_at path state) → NotDischarged n (line_of request ++ (undecided (posed_over p steps) n c Open (open_text p.names path state)).text)
    given_up : (p : Typed) (steps : List PlainStep) (n : ℕ) (c : Implication) (path : List PathStep) (stage : WideStage) → ConditionsOver p steps → IsSearch request
        → IsFirstOpen (setting_of p) 1 (conditions_of p steps) n c (wide_at path stage) → NotDischarged n (line_of request ++ (undecided (posed_over p steps) n c Wide (wide_text p.names path stage)).text)

  -- 2
  pub record RefusesWords (text : List ℕ) : Type 0 where
    pub none : request ≡ None
    pub is : words_refused.text ≡ text

  -- 3
  pub data RefusesProgram : List ℕ → Type 0 where
    refuses_program : (pt : List ℕ) (kind : FaultKind) (place : ℕ) → HasText told request Program pt → WhyProgram pt (refusals.Fault kind place) → RefusesProgram (line_of request ++ refused_text Program kind place)

  -- 4
  pub data RefusesProof : List ℕ → Type 0 where
    refuses_proof : (p : Typed) (qt : List ℕ) (f : Stop Breach) → ProgramOver p → HasText told request Proof qt → IsOffScript p qt f → (IsLimit f → ⊥) → RefusesProof (line_of request ++ (script_refused f).text)

  -- 5
  pub data HasTrailing : List ℕ → Type 0 where
    trails : (p : Typed) (steps : List PlainStep) (ct : List ℕ) (place : ℕ) → ConditionsOver p steps → HasText told request Certificates ct → IsTrailing (posed_over p steps) ct place
        → HasTrailing (line_of request ++ trailing_text place)

  -- 8
  pub data PassesLimit : List ℕ → Type 0 where
    long_file : (asked : PlainRequest) (role : FileRole) (name bytes : List ℕ) → request ≡ Some asked → named_file asked role ≡ Some name → told name ≡ Some bytes → length_limit role < length bytes
        → PassesLimit (line_of request ++ limit_text (length_kind role))
    by_program : (pt : List ℕ) (kind : LimitKind) → HasText told request Program pt → WhyProgram pt (refusals.Limit kind) → PassesLimit (line_of request ++ limit_text kind)
    by_proof : (p : Typed) (qt : List ℕ) (f : Stop Breach) → ProgramOver p → HasText told request Proof qt → IsOffScript p qt f → IsLimit f → PassesLimit (line_of request ++ (script_refused f).text)
    by_conditions : (p : Typed) (steps : List PlainStep) (fault : VcFault) (step : ℕ) → ScriptOver p steps → passes_limit p steps ≡ Some (fault, step) → PassesLimit (line_of request ++ limit_text (limit_of fault))
    by_certificates : (p : Typed) (steps : List PlainStep) (ts : List Tree) → ConditionsOver p steps → IsProve request → AreFound (setting_of p) (conditions_of p steps) ts → 268435456 < length (certificates_text ts)
        → PassesLimit (line_of request ++ limit_text limits.Certificates)
    by_schedule : (p : Typed) (steps : List PlainStep) (st : List ℕ) (f : Stop Breach) → ScriptOver p steps → HasText told request Schedule st → IsFirstFault p.names p.processes (text_stream st) f → IsLimit f
        → PassesLimit (line_of request ++ (schedule_refused f).text)

  -- 10
  pub data RefusesSchedule : List ℕ → Type 0 where
    refuses_schedule : (p : Typed) (steps : List PlainStep) (st : List ℕ) (f : Stop Breach) → ScriptOver p steps → HasText told request Schedule st → IsFirstFault p.names p.processes (text_stream st) f → (IsLimit f → ⊥)
        → RefusesSchedule (line_of request ++ (schedule_refused f).text)

  -- a schedule over a program and a script
  pub record Scheduled (p : Typed) (s : PlainSchedule) : Type 0 where
    pub steps : List PlainStep
    pub scripted : ScriptOver p steps
    pub st : List ℕ
    pub text : HasText told request Schedule st
    pub schedule : SpellsSchedule p.names p.processes st s

  -- 11
  pub data IsIllegal : List ℕ → Type 0 where
    no_start : (p : Typed) (s : PlainSchedule) → Scheduled p s → holds p.initial (store_of s.store) ≡ false → IsIllegal (line_of request ++ illegal_start_text)
    no_move : (p : Typed) (s : PlainSchedule) (k : ℕ) → Scheduled p s → holds p.initial (store_of s.store) ≡ true → IsStuckBehind p.processes (start_of p s) s.moves k → IsIllegal (line_of request ++ illegal_move_text k)

  -- 12
  pub data IsTooLarge : List ℕ → Type 0 where
    too_large : (p : Typed) (s : PlainSchedule) (k : ℕ) → Scheduled p s → holds p.initial (store_of s.store) ≡ true → IsWideBehind p.processes (start_of p s) s.moves k → IsTooLarge (line_of request ++ value_limit_text k)

  -- 13
  pub data FindsTooLarge : List ℕ → Type 0 where
    finds_too_large : (p : Typed) → ProgramOver p → found (system_of p) ≡ None → FindsTooLarge (line_of request ++ wide_invariants_text)

  abbrev pub Meaning : Status → List ℕ → Type 0
  Meaning Proved text = Unit {0}
  Meaning (NotProved n) text = NotDischarged n text
  Meaning Words text = RefusesWords text
  Meaning ProgramRefused text = RefusesProgram text
  Meaning ProofRefused text = RefusesProof text
  Meaning TrailingCerts text = HasTrailing text
  Meaning Limit text = PassesLimit text
  Meaning ScheduleRefused text = RefusesSchedule text
  Meaning Illegal text = IsIllegal text
  Meaning ValueLimit text = IsTooLarge text
  Meaning InvariantsWide text = FindsTooLarge text
  Meaning ReadFault text = ⊥
  Meaning WriteFault text = ⊥
  Meaning Memory text = ⊥

  -- the plan of the request ends with this status and text
  abbrev pub EndsWith : Status → List ℕ → Type 0
  EndsWith status text = outcome_of told (plan_of request) ≡ Some (record { status = status; text = text })

  -- each status, with its sentence
  pub record StatusesMean : Type 0 where
    pub discharge : (n : ℕ) (text : List ℕ) → EndsWith (NotProved n) text → NotDischarged n text
    pub words : (text : List ℕ) → EndsWith Words text → RefusesWords text
    pub program : (text : List ℕ) → EndsWith ProgramRefused text → RefusesProgram text
    pub proof : (text : List ℕ) → EndsWith ProofRefused text → RefusesProof text
    pub trailing : (text : List ℕ) → EndsWith TrailingCerts text → HasTrailing text
    pub limit : (text : List ℕ) → EndsWith Limit text → PassesLimit text
    pub schedule : (text : List ℕ) → EndsWith ScheduleRefused text → RefusesSchedule text
    pub illegal : (text : List ℕ) → EndsWith Illegal text → IsIllegal text
    pub value : (text : List ℕ) → EndsWith ValueLimit text → IsTooLarge text
    pub invariants : (text : List ℕ) → EndsWith InvariantsWide text → FindsTooLarge text
    pub read_fault : (text : List ℕ) → EndsWith ReadFault text → ⊥
    pub write_fault : (text : List ℕ) → EndsWith WriteFault text → ⊥
    pub memory : (text : List ℕ) → EndsWith Memory text → ⊥

abbrev pub EachMeansSo : Type 0
EachMeansSo = (told : Told) (request : Option PlainRequest) → StatusesMean told request
