-- From how a run ends to the sentence of its status.
use Rattle.std.proofs.Common.{◌≡◌, ℕ, List, ◌∷◌, ◌++◌, refl, sym, ap, ◌∙◌, subst}
use Rattle.std.specs.Prelude.{Option, Some, None}
use Rattle.st_certificate.specs.Tree.{Tree}
use Rattle.st_tokens.specs.declared.kind.TokenFault.TheVariants as tokens
use Rattle.st_reading.specs.Reading.{Stop, syntax, broken, other}
use Rattle.st_reading.specs.Faults.{Passed, passed}
use Rattle.st_reading.specs.Breaches as breaches
use Rattle.st_reading.specs.Breaches.{Breach}
use Rattle.temporal_goals.specs.Texts.{PlainStep}
use Rattle.spl_parser.specs.ProgramTree as raw
use Rattle.spl_parser.specs.Theorems.{Spells, SpelledIsRead}
use Rattle.expression_typer.specs.declared.fault.TypeFault.{TypeFault}
use Rattle.expression_typer.specs.declared.fault.TypeFault.TheVariants as faults
use Rattle.expression_typer.specs.Placed.{IsLeast}
use Rattle.spl_typer.specs.Programs.{Typed}
use Rattle.spl_typer.specs.ProgramRules.{program_faults}
use Rattle.typing_laws.specs.Laws.{AreRules, ReadIsTyped}
use Rattle.schedule_reader.specs.Schedules.{PlainSchedule}
use Rattle.schedule_grammar.specs.FirstFault.{IsFirstFault}
use Rattle.schedule_grammar.specs.Theorems.{SpellsSchedule}
use Rattle.st_tokens.specs.Stream.{text_stream}
use Rattle.step_words.specs.Request.{PlainRequest, checks, verifies, proves, makes, traces, finds}
use Rattle.step_workload.specs.Texts.{program_text, proof_text}
use Rattle.step_report.specs.declared.refusals.FileRole.{FileRole}
use Rattle.step_report.specs.declared.refusals.FileRole.TheVariants.{Program, Proof, Certificates, Schedule}
use Rattle.step_plan.specs.declared.status.Status.{Status}
use Rattle.step_plan.specs.declared.status.Status.TheVariants.{NotProved, Words, ProgramRefused, ProofRefused, TrailingCerts, ReadFault, WriteFault, Limit, Memory, ScheduleRefused, Illegal, ValueLimit, InvariantsWide}
use Rattle.step_plan.specs.Outcome.{Outcome}
use Rattle.step_plan.specs.Plan.{Told}
use Rattle.step_run.specs.declared.refusals.Refusal.{Refusal}
use Rattle.step_run.specs.declared.refusals.Refusal.TheVariants as refusals
use Rattle.step_run.specs.Refusals.{of_stop, of_rule}
use Rattle.step_run.specs.Outcome.{program_refused, script_refused}
use Rattle.step_run.specs.Traced.{Scripted, schedule_refused}
use Rattle.step_run.specs.Conditions.{Posed, setting_of, conditions_of}
use Rattle.step_run.specs.Checked.{goals_proved}
use Rattle.step_run.specs.Verified.{goals_counted}
use Rattle.step_run.specs.Request.{named_file}
use Rattle.step_run.specs.WellFormed.{AreFound}
use Rattle.status_meanings.specs.Stages.{FileGoes, is_too_long, is_read, ProgramGoes, off_grammar, breaks_rule, is_program, ScriptGoes, off_script, is_script, IsOffScript, posed_over, LimitsGo, passes_one, passes_none, ScriptedTexts, PosedFiles, ScriptedFiles}
use Rattle.status_meanings.specs.Ends.{CheckGoes, lacks_block, has_trailing, has_blocks, SearchGoes, leaves_open, gives_up, finds_all, WritesGo, writes, writes_none, TraceGoes, off_schedule, starts_nowhere, grows_wide, gets_stuck, is_run, FindsGo, finds_none, finds_these}
use Rattle.status_meanings.specs.Statuses.{EndsAs, RunsEndSo}
use Rattle.status_meanings.specs.Meanings.{HasText, of_file, made_program, made_proof, line_of, IsSearch, IsProve, WhyProgram, by_grammar, by_rule, ProgramOver, ScriptOver, ConditionsOver, without_block, left_open, given_up, refuses_program, refuses_proof, trails, long_file, by_program, by_proof, by_conditions, by_certificates, by_schedule, refuses_schedule, Scheduled, no_start, no_move, too_large, finds_too_large, Meaning, EndsWith, EachMeansSo}

-- NO REFUSAL IS WANT OF MEMORY
stop_named : (f : Stop Passed) → of_stop f ≡ refusals.Memory → ⊥
stop_named (syntax place) e = cc
stop_named (broken (tokens.BadByte place)) e = cc
stop_named (broken (tokens.LongNumber place)) e = cc
stop_named (other (passed kind place)) e = cc

rule_named : (f : TypeFault) → (f ≡ faults.Memory → ⊥) → of_rule f ≡ refusals.Memory → ⊥
rule_named (faults.Unknown place) not e = cc
rule_named (faults.Twice place) not e = cc
rule_named (faults.WrongType place) not e = cc
rule_named (faults.NonLinear place) not e = cc
rule_named (faults.TooLarge place) not e = cc
rule_named (faults.InputAssigned place) not e = cc
rule_named (faults.SelectHead place) not e = cc
rule_named (faults.SameTarget place) not e = cc
rule_named (faults.Limit kind place) not e = cc
rule_named faults.Memory not e = not refl

no_memory : SpelledIsRead → ReadIsTyped → (pt : List ℕ) (x : raw.Program) (f : TypeFault) → Spells pt x → IsLeast f (program_faults x) → f ≡ faults.Memory → ⊥
no_memory read typed pt x f spells least is = (subst AreRules (least.among ∙ ap (λ (g : TypeFault). g ∷ least.rest) is) (typed pt x (read pt x spells)).0).0

module _ (read : SpelledIsRead) (typed : ReadIsTyped) (told : Told) (request : Option PlainRequest) where
  -- the sentence of an outcome, behind the line of a workload
  abbrev Says : Outcome → Type 0
  Says o = Meaning told request o.status (line_of request ++ o.text)

  file_says : (asked : PlainRequest) (role : FileRole) (name : List ℕ) (Next : List ℕ → Outcome → Type 0) (o : Outcome) → request ≡ Some asked → named_file asked role ≡ Some name → FileGoes told role name Next o
      → ((bytes : List ℕ) (q : Outcome) → HasText told request role bytes → Next bytes q → Says q) → Says o
  file_says asked role name Next o is named (is_too_long bytes tells long) behind = long_file asked role name bytes is named tells long
  file_says asked role name Next o is named (is_read bytes q tells short next) behind =
      behind bytes q (subst (λ (r : Option PlainRequest). HasText told r role bytes) (sym is) (of_file asked role name bytes named tells short)) next

  refusal_says : (pt : List ℕ) (r : Refusal) → HasText told request Program pt → WhyProgram pt r → (r ≡ refusals.Memory → ⊥) → Says (program_refused r)
  refusal_says pt (refusals.Fault kind place) text why not = refuses_program pt kind place text why
  refusal_says pt (refusals.Limit kind) text why not = by_program pt kind text why
  refusal_says pt refusals.Memory text why not = absurd (not refl)

  program_says : (pt : List ℕ) (Next : Typed → Outcome → Type 0) (o : Outcome) → HasText told request Program pt → ProgramGoes pt Next o → ((p : Typed) (q : Outcome) → ProgramOver told request p → Next p q → Says q) → Says o
  program_says pt Next o text (off_grammar f h) behind = refusal_says pt (of_stop f) text (by_grammar f h) (stop_named f)
  program_says pt Next o text (breaks_rule x f spells least) behind = refusal_says pt (of_rule f) text (by_rule x f spells least) (rule_named f (no_memory read typed pt x f spells least))
  program_says pt Next o text (is_program p q h next) behind = behind p q (record { pt = pt; text = text; program = h }) next

  script_off : (p : Typed) (qt : List ℕ) (f : Stop Breach) → ProgramOver told request p → HasText told request Proof qt → IsOffScript p qt f → Says (script_refused f)
  script_off p qt (syntax place) over text h = refuses_proof p qt (syntax place) over text h (λ z. z)
  script_off p qt (broken (tokens.BadByte place)) over text h = refuses_proof p qt (broken (tokens.BadByte place)) over text h (λ z. z)
  script_off p qt (broken (tokens.LongNumber place)) over text h = refuses_proof p qt (broken (tokens.LongNumber place)) over text h (λ z. z)
  script_off p qt (other (breaches.broke rule place)) over text h = refuses_proof p qt (other (breaches.broke rule place)) over text h (λ z. z)
  script_off p qt (other (breaches.limited kind place)) over text h = by_proof p qt (other (breaches.limited kind place)) over text h tt
  script_off p qt (other (breaches.crowded place)) over text h = by_proof p qt (other (breaches.crowded place)) over text h tt
  script_off p qt (other (breaches.unformed place)) over text h = refuses_proof p qt (other (breaches.unformed place)) over text h (λ z. z)

  script_says : (p : Typed) (qt : List ℕ) (Next : List PlainStep → Outcome → Type 0) (o : Outcome) → ProgramOver told request p → HasText told request Proof qt → ScriptGoes p qt Next o
      → ((steps : List PlainStep) (q : Outcome) → ScriptOver told request p steps → Next steps q → Says q) → Says o
  script_says p qt Next o over text (off_script f h) behind = script_off p qt f over text h
  script_says p qt Next o over text (is_script steps q h next) behind = behind steps q (record { over = over; qt = qt; text = text; script = h }) next

  limits_say : (p : Typed) (steps : List PlainStep) (Next : Posed → Outcome → Type 0) (o : Outcome) → ScriptOver told request p steps → LimitsGo p steps Next o
      → ((q : Outcome) → ConditionsOver told request p steps → Next (posed_over p steps) q → Says q) → Says o
  limits_say p steps Next o over (passes_one fault step is) behind = by_conditions p steps fault step over is
  limits_say p steps Next o over (passes_none q is next) behind = behind q (record { scripted = over; few = is }) next

  texts_say : (p : Typed) (qt : List ℕ) (Next : Posed → Outcome → Type 0) (o : Outcome) → ProgramOver told request p → HasText told request Proof qt → ScriptedTexts p qt Next o
      → ((steps : List PlainStep) (q : Outcome) → ConditionsOver told request p steps → Next (posed_over p steps) q → Says q) → Says o
  texts_say p qt Next o over text h behind = script_says p qt (λ steps q. LimitsGo p steps Next q) o over text h (λ steps q s l. limits_say p steps Next q s l (λ r c n. behind steps r c n))

  check_says : (p : Typed) (steps : List PlainStep) (ct : List ℕ) (o : Outcome) → ConditionsOver told request p steps → HasText told request Certificates ct → CheckGoes (posed_over p steps) ct o → Says o
  check_says p steps ct o over text (lacks_block n c reason h) = without_block p steps ct n c reason over text h
  check_says p steps ct o over text (has_trailing place h) = trails p steps ct place over text h
  check_says p steps ct o over text (has_blocks h) = tt

  search_says : (p : Typed) (steps : List PlainStep) (Next : List Tree → Outcome → Type 0) (o : Outcome) → ConditionsOver told request p steps → IsSearch request → SearchGoes (posed_over p steps) Next o
      → ((ts : List Tree) (q : Outcome) → AreFound (setting_of p) (conditions_of p steps) ts → Next ts q → Says q) → Says o
  search_says p steps Next o over search (leaves_open n c path state h) behind = left_open p steps n c path state over search h
  search_says p steps Next o over search (gives_up n c path stage h) behind = given_up p steps n c path stage over search h
  search_says p steps Next o over search (finds_all ts q h next) behind = behind ts q h next

  written_says : (p : Typed) (steps : List PlainStep) (ts : List Tree) (o : Outcome) → ConditionsOver told request p steps → IsProve request → AreFound (setting_of p) (conditions_of p steps) ts → WritesGo ts o → Says o
  written_says p steps ts o over prove found (writes short) = tt
  written_says p steps ts o over prove found (writes_none long) = by_certificates p steps ts over prove found long

  schedule_off : (p : Typed) (steps : List PlainStep) (st : List ℕ) (f : Stop Breach) → ScriptOver told request p steps → HasText told request Schedule st → IsFirstFault p.names p.processes (text_stream st) f → Says (schedule_refused f)
  schedule_off p steps st (syntax place) over text h = refuses_schedule p steps st (syntax place) over text h (λ z. z)
  schedule_off p steps st (broken (tokens.BadByte place)) over text h = refuses_schedule p steps st (broken (tokens.BadByte place)) over text h (λ z. z)
  schedule_off p steps st (broken (tokens.LongNumber place)) over text h = refuses_schedule p steps st (broken (tokens.LongNumber place)) over text h (λ z. z)
  schedule_off p steps st (other (breaches.broke rule place)) over text h = refuses_schedule p steps st (other (breaches.broke rule place)) over text h (λ z. z)
  schedule_off p steps st (other (breaches.limited kind place)) over text h = by_schedule p steps st (other (breaches.limited kind place)) over text h tt
  schedule_off p steps st (other (breaches.crowded place)) over text h = by_schedule p steps st (other (breaches.crowded place)) over text h tt
  schedule_off p steps st (other (breaches.unformed place)) over text h = refuses_schedule p steps st (other (breaches.unformed place)) over text h (λ z. z)

  scheduled : (p : Typed) (steps : List PlainStep) (st : List ℕ) (s : PlainSchedule) → ScriptOver told request p steps → HasText told request Schedule st → SpellsSchedule p.names p.processes st s → Scheduled told request p s
  scheduled p steps st s over text lawful = record { steps = steps; scripted = over; st = st; text = text; schedule = lawful }

  trace_says : (p : Typed) (steps : List PlainStep) (st : List ℕ) (o : Outcome) → ScriptOver told request p steps → HasText told request Schedule st → TraceGoes (record { program = p; steps = steps }) st o → Says o
  trace_says p steps st o over text (off_schedule f h) = schedule_off p steps st f over text h
  trace_says p steps st o over text (starts_nowhere s lawful meets) = no_start p s (scheduled p steps st s over text lawful) meets
  trace_says p steps st o over text (grows_wide s k lawful meets h) = too_large p s k (scheduled p steps st s over text lawful) meets h
  trace_says p steps st o over text (gets_stuck s k lawful meets h) = no_move p s k (scheduled p steps st s over text lawful) meets h
  trace_says p steps st o over text (is_run s later lawful run) = tt

  finds_say : (p : Typed) (o : Outcome) → ProgramOver told request p → FindsGo p o → Says o
  finds_say p o over (finds_none is) = finds_too_large p over is
  finds_say p o over (finds_these es is) = tt

  -- two files
  posed_say : (asked : PlainRequest) (a b : List ℕ) (Next : Posed → Outcome → Type 0) (o : Outcome) → request ≡ Some asked → named_file asked Program ≡ Some a → named_file asked Proof ≡ Some b → PosedFiles told a b Next o
      → ((p : Typed) (steps : List PlainStep) (q : Outcome) → ConditionsOver told request p steps → Next (posed_over p steps) q → Says q) → Says o
  posed_say asked a b Next o is first second h behind =
      file_says asked Program a (λ pt q. ProgramGoes pt (λ p r. FileGoes told Proof b (λ qt s. ScriptedTexts p qt Next s) r) q) o is first h
      (λ pt q text g. program_says pt (λ p r. FileGoes told Proof b (λ qt s. ScriptedTexts p qt Next s) r) q text g
      (λ p r over f. file_says asked Proof b (λ qt s. ScriptedTexts p qt Next s) r is second f (λ qt s proof k. texts_say p qt Next s over proof k (λ steps t c n. behind p steps t c n))))

  scripted_say : (asked : PlainRequest) (a b : List ℕ) (Next : Scripted → Outcome → Type 0) (o : Outcome) → request ≡ Some asked → named_file asked Program ≡ Some a → named_file asked Proof ≡ Some b → ScriptedFiles told a b Next o
      → ((p : Typed) (steps : List PlainStep) (q : Outcome) → ScriptOver told request p steps → Next (record { program = p; steps = steps }) q → Says q) → Says o
  scripted_say asked a b Next o is first second h behind =
      file_says asked Program a (λ pt q. ProgramGoes pt (λ p r. FileGoes told Proof b (λ qt s. ScriptGoes p qt (λ steps t. Next (record { program = p; steps = steps }) t) s) r) q) o is first h
      (λ pt q text g. program_says pt (λ p r. FileGoes told Proof b (λ qt s. ScriptGoes p qt (λ steps t. Next (record { program = p; steps = steps }) t) s) r) q text g
      (λ p r over f. file_says asked Proof b (λ qt s. ScriptGoes p qt (λ steps t. Next (record { program = p; steps = steps }) t) s) r is second f
      (λ qt s proof k. script_says p qt (λ steps t. Next (record { program = p; steps = steps }) t) s over proof k (λ steps t c n. behind p steps t c n))))

module _ (read : SpelledIsRead) (typed : ReadIsTyped) (told : Told) where
  means : (request : Option PlainRequest) (o : Outcome) → EndsAs told request o → Meaning told request o.status o.text
  means None o e = subst (λ (q : Outcome). Meaning told None q.status q.text) e (record { none = refl; is = refl })
  means (Some (checks a b c)) o h =
      posed_say read typed told (Some (checks a b c)) (checks a b c) a b (λ x q. FileGoes told Certificates c (λ ct r. CheckGoes x ct r) q) o refl refl refl h
      (λ p steps q over f. file_says read typed told (Some (checks a b c)) (checks a b c) Certificates c (λ ct r. CheckGoes (posed_over p steps) ct r) q refl refl f
      (λ ct r text g. check_says read typed told (Some (checks a b c)) p steps ct r over text g))
  means (Some (verifies a b)) o h =
      posed_say read typed told (Some (verifies a b)) (verifies a b) a b (λ x q. SearchGoes x (λ ts r. goals_proved x ≡ r) q) o refl refl refl h
      (λ p steps q over f. search_says read typed told (Some (verifies a b)) p steps (λ ts r. goals_proved (posed_over p steps) ≡ r) q over tt f
      (λ ts r found e. subst (λ (z : Outcome). Meaning told (Some (verifies a b)) z.status z.text) e tt))
  means (Some (proves a b)) o h =
      posed_say read typed told (Some (proves a b)) (proves a b) a b (λ x q. SearchGoes x (λ ts r. WritesGo ts r) q) o refl refl refl h
      (λ p steps q over f. search_says read typed told (Some (proves a b)) p steps (λ ts r. WritesGo ts r) q over tt f
      (λ ts r found g. written_says read typed told (Some (proves a b)) p steps ts r over tt found g))
  means (Some (makes n)) o h =
      subst (λ (z : Outcome). Meaning told (Some (makes n)) z.status z.text) h.is
      (program_says read typed told (Some (makes n)) (program_text n) (λ p q. ScriptedTexts p (proof_text n) (λ x r. SearchGoes x (λ ts s. goals_counted x ts ≡ s) r) q) h.inner (made_program n) h.ends
      (λ p q over g. texts_say read typed told (Some (makes n)) p (proof_text n) (λ x r. SearchGoes x (λ ts s. goals_counted x ts ≡ s) r) q over (made_proof n) g
      (λ steps r c k. search_says read typed told (Some (makes n)) p steps (λ ts s. goals_counted (posed_over p steps) ts ≡ s) r c tt k
      (λ ts s found e. subst (λ (z : Outcome). Meaning told (Some (makes n)) z.status (line_of (Some (makes n)) ++ z.text)) e tt))))
  means (Some (traces a b c)) o h =
      scripted_say read typed told (Some (traces a b c)) (traces a b c) a b (λ x q. FileGoes told Schedule c (λ st r. TraceGoes x st r) q) o refl refl refl h
      (λ p steps q over f. file_says read typed told (Some (traces a b c)) (traces a b c) Schedule c (λ st r. TraceGoes (record { program = p; steps = steps }) st r) q refl refl f
      (λ st r text g. trace_says read typed told (Some (traces a b c)) p steps st r over text g))
  means (Some (finds a)) o h =
      file_says read typed told (Some (finds a)) (finds a) Program a (λ pt q. ProgramGoes pt (λ p r. FindsGo p r) q) o refl refl h
      (λ pt q text g. program_says read typed told (Some (finds a)) pt (λ p r. FindsGo p r) q text g (λ p r over k. finds_say read typed told (Some (finds a)) p r over k))

-- the plan's end is one that is said
so : SpelledIsRead → ReadIsTyped → RunsEndSo → (told : Told) (request : Option PlainRequest) (status : Status) (text : List ℕ) → EndsWith told request status text → Meaning told request status text
so read typed law told request status text e =
    let o : Outcome = record { status = status; text = text } in
    means read typed told request o ((law told request o).0 e)

pub each_means_so : SpelledIsRead → ReadIsTyped → RunsEndSo → EachMeansSo
each_means_so read typed law told request = record {
  discharge = λ n text e. so read typed law told request (NotProved n) text e;
  words = λ text e. so read typed law told request Words text e;
  program = λ text e. so read typed law told request ProgramRefused text e;
  proof = λ text e. so read typed law told request ProofRefused text e;
  trailing = λ text e. so read typed law told request TrailingCerts text e;
  limit = λ text e. so read typed law told request Limit text e;
  schedule = λ text e. so read typed law told request ScheduleRefused text e;
  illegal = λ text e. so read typed law told request Illegal text e;
  value = λ text e. so read typed law told request ValueLimit text e;
  invariants = λ text e. so read typed law told request InvariantsWide text e;
  read_fault = λ text e. so read typed law told request ReadFault text e;
  write_fault = λ text e. so read typed law told request WriteFault text e;
  memory = λ text e. so read typed law told request Memory text e;
}
