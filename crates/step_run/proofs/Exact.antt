-- Status 0 comes exactly where the texts are so.
use Rattle.std.proofs.Common.{◌≡◌, ℕ, ◌+◌, ◌^◌, ◌<◌, ◌≤◌, Bool, true, false, cond, nat_lt, List, [], ◌∷◌, ◌++◌, length, refl, sym, ap, ◌∙◌, subst, arith}
use Rattle.std.specs.Prelude.{Option, Some, None, Ok, IfSome}
use Rattle.std.proofs.lemmas.Bool.Decides.{nat_tests}
use Rattle.st_tokens.specs.declared.limit.LimitKind.TheVariants as limits
use Rattle.st_form.specs.Condition.{Implication}
use Rattle.st_certificate.specs.Tree.{Tree}
use Rattle.temporal_goals.specs.Texts.{PlainStep}
use Rattle.equation_laws.specs.Equations.{PlainEquation, found}
use Rattle.farkas_check.specs.Problem.{Setting}
use Rattle.spl_parser.specs.Theorems.{SpelledIsRead}
use Rattle.spl_typer.specs.Programs.{Typed}
use Rattle.block_laws.specs.Checked.{whole_text}
use Rattle.block_laws.specs.Laws.{AllDischarged}
use Rattle.step_words.specs.Request.{PlainRequest, checks, verifies, proves, makes, traces, finds}
use Rattle.step_workload.specs.Texts.{program_text, proof_text}
use Rattle.step_report.specs.declared.refusals.FileRole.TheVariants.{Program, Proof, Certificates}
use Rattle.step_report.specs.Goals.{certificates_text, workload_line}
use Rattle.step_plan.specs.declared.status.Status.TheVariants.{Proved}
use Rattle.step_plan.specs.Limits.{limited}
use Rattle.step_plan.specs.Outcome.{Outcome}
use Rattle.step_plan.specs.Plan.{Told, Plan, ends, goes_on, asks, then_plan, EndsIn}
use Rattle.step_run.specs.Outcome.{words_refused}
use Rattle.step_run.specs.Source.{source_spelled}
use Rattle.step_run.specs.Conditions.{Posed, system_of, setting_of, conditions_of}
use Rattle.step_run.specs.Checked.{goals_proved, ending, check_ended, checked}
use Rattle.step_run.specs.Verified.{all_found, found_before, by_verdict, verdict_on, verified_from, search_ended, searched, certificates, goals_counted, counted}
use Rattle.step_run.specs.Invariants.{invariants_of}
use Rattle.step_run.specs.Plans.{source_of_text, script_of_text, obliged, posed_of_text, posed_plan, conditions_plan, check_posed, verify_posed, prove_posed, workload_posed, workload_conditions, count_posed, with_number, numbered, find_in, plan_for, plan_of}
use Rattle.step_run.specs.WellFormed.{Reads, IsProgram, Checks, AreFound, Decides, AreShort, IsShort}
use Rattle.step_run.specs.Headline.{Hold, report, numbers, Headline, Exactly}
use Rattle.step_run.proofs.Posing.{script_read, obliged_is, few_drafts}
use Rattle.step_run.proofs.Stages.{goes_then}
use Rattle.step_run.proofs.Named.{only_workload}
use Rattle.step_run.proofs.Within.{none_pass}
use Rattle.step_run.proofs.Found.{looked, looks, source_found}
use Rattle.step_plan.proofs.Named.{AsksOnly}
use Rattle.judging_laws.specs.Counted.{round_counts}
use Rattle.judging_laws.proofs.Counted.{counts-are-greatest}
use Rattle.spl_semantics.proofs.SeenRuns.{observed_seen}
use Rattle.step_run.specs.Scheduled.{start_of, observed_of}
use Rattle.step_run.specs.Judged.{all_judged}
use Rattle.step_run.proofs.Judging.{are_judged}
use Rattle.step_run.proofs.Runs.{trace_shows, trace_ends}
use Rattle.step_run.proofs.Headline.{IsProved, posed, file_proved, file_goes, source_proved, source_goes, posed_proved, Laws, script_of, reads, hold, by_blocks, by_search, check_passed, search_passed, certificates_passed}

module _ (law : Laws) (spelled : SpelledIsRead) where
  posed_goes : (pt qt : List ℕ) (p : Typed) (steps : List PlainStep) → Reads pt qt p steps → posed_of_text p qt ≡ goes_on (posed p steps)
  posed_goes pt qt p steps r = goes_then (obliged p) (script_of_text p qt) steps (goes_on (posed p steps)) (script_read p qt (Ok steps) (script_of law qt p steps r.scripted.script)) (obliged_is p steps None (none_pass p steps r.within))

  module _ (told : Told) (o : Outcome) where
    -- the files are read, and the conditions posed
    files_go : (a b pt qt : List ℕ) (p : Typed) (steps : List PlainStep) (next : Posed → Plan ⊥) → told a ≡ Some pt → told b ≡ Some qt → AreShort pt qt → Reads pt qt p steps
        → EndsIn told (then_plan (conditions_plan a b) next) o → EndsIn told (next (posed p steps)) o
    files_go a b pt qt p steps next ia ib short r e =
        let first = file_goes told o Program a pt (λ text. then_plan (then_plan (source_of_text text) (posed_plan b)) next) ia short.0 e in
        let second = subst (λ (q : Plan Typed). EndsIn told (then_plan (then_plan q (posed_plan b)) next) o) (source_goes spelled law.meant pt p r.scripted.program) first in
        let third = file_goes told o Proof b qt (λ text. then_plan (posed_of_text p text) next) ib short.1 second in
        subst (λ (q : Plan Posed). EndsIn told (then_plan q next) o) (posed_goes pt qt p steps r) third

    -- the other way round, where the run ends with status 0
    record FromFiles (pt qt : List ℕ) (next : Posed → Plan ⊥) : Type 0 where
      short : AreShort pt qt
      p : Typed
      steps : List PlainStep
      source : source_spelled pt ≡ Ok p
      reads_them : Reads pt qt p steps
      goes : EndsIn told (next (posed p steps)) o

    from_files : (a b pt qt : List ℕ) (next : Posed → Plan ⊥) → told a ≡ Some pt → told b ≡ Some qt → EndsIn told (then_plan (conditions_plan a b) next) o → IsProved o → FromFiles pt qt next
    from_files a b pt qt next ia ib e proved =
        let first = file_proved told o Program a pt (λ text. then_plan (then_plan (source_of_text text) (posed_plan b)) next) ia e proved in
        let source = source_proved told o pt (posed_plan b) next first.1 proved in
        let second = file_proved told o Proof b qt (λ text. then_plan (posed_of_text source.0 text) next) ib source.2 proved in
        let rest = posed_proved told o source.0 qt next second.1 proved in
        record {
          short = (first.0, second.0);
          p = source.0;
          steps = rest.steps;
          source = source.1;
          reads_them = reads law pt qt source.0 rest.steps source.1 rest.script rest.few;
          goes = rest.goes;
        }

-- few conditions
room : (pt qt : List ℕ) (p : Typed) (steps : List PlainStep) → Reads pt qt p steps → 1 + length (conditions_of p steps) < 2 ^ 32
room pt qt p steps r = let few = few_drafts p steps (none_pass p steps r.within) in omega (arith, few)

-- blocks for all conditions end with status 0
discharged_ends : (x : Posed) (text : List ℕ) → AllDischarged (setting_of x.program) x.conditions (whole_text text) → checked x text ≡ goals_proved x
unfolding checked
discharged_ends x text all = ap (check_ended x) all.valid ∙ ap (ending x) all.blank

-- so do certificates for all
found_is : (k : Setting) (n : ℕ) (cs : List Implication) (ts : List Tree) → AreFound k cs ts → verified_from k n cs ≡ all_found ts
unfolding verdict_on
found_is k n [] ts f = ap all_found (sym f)
found_is k n (c ∷ cs) [] f = absurd f
found_is k n (c ∷ cs) (t ∷ ts) f = ap (by_verdict n c (verified_from k (n + 1) cs)) f.0 ∙ ap (found_before t) (found_is k (n + 1) cs ts f.1)

found_ends : (x : Posed) (all : List Tree → Outcome) (ts : List Tree) → AreFound (setting_of x.program) x.conditions ts → searched x all ≡ all ts
unfolding searched
found_ends x all ts f = ap (search_ended x all) (found_is (setting_of x.program) 1 x.conditions ts f)

short_ends : (ts : List Tree) → IsShort (certificates_text ts) → IsProved (certificates ts)
short_ends ts short = by (nat_lt 268435456 (length (certificates_text ts))) refl where
  not_past : (n : ℕ) → n ≤ 268435456 → nat_lt 268435456 n ≡ true → ⊥
  not_past n h e = grind (arith, nat_tests)

  by : (b : Bool) → nat_lt 268435456 (length (certificates_text ts)) ≡ b → IsProved (cond b (limited limits.Certificates) (record { status = Proved; text = certificates_text ts }))
  by true e = absurd (not_past (length (certificates_text ts)) short e)
  by false e = refl

-- an end of a workload bears its number
numbered_ends : (told : Told) (n : ℕ) (plan : Plan ⊥) (o : Outcome) → AsksOnly (λ role name. ⊥) plan → EndsIn told (numbered n plan) o → (p : Outcome) × EndsIn told plan p × (with_number n p ≡ o)
numbered_ends told n (ends p) o only e = (p, refl, e)
numbered_ends told n (goes_on x) o only e = absurd e
numbered_ends told n (asks role name go) o only e = absurd only.0

each_told : (t : Option (List ℕ)) (P : List ℕ → Type 0) → ((text : List ℕ) → t ≡ Some text → P text) → IfSome t P
each_told None P f = tt
each_told (Some text) P f = f text refl

module _ (law : Laws) (spelled : SpelledIsRead) (told : Told) (o : Outcome) where
  -- the end of each request with status 0
  check_shows : (a b c pt qt ct : List ℕ) → told a ≡ Some pt → told b ≡ Some qt → told c ≡ Some ct → EndsIn told (plan_for (checks a b c)) o → IsProved o
      → AreShort pt qt × IsShort ct × ((p : Typed) × (steps : List PlainStep) × Checks pt qt ct p steps × Hold p steps × (o.text ≡ report p steps))
  check_shows a b c pt qt ct ia ib ic e proved =
      let f = from_files law spelled told o a b pt qt (check_posed c) ia ib e proved in
      let last = file_proved told o {A = ⊥} Certificates c ct (λ text. ends (checked (posed f.p f.steps) text)) ic f.goes proved in
      let passed = check_passed (posed f.p f.steps) ct o last.1 proved in
      let blocks = (law.blocks (setting_of f.p) (conditions_of f.p f.steps) (whole_text ct) refl (room pt qt f.p f.steps f.reads_them)).0 passed.all in
      let holds = hold law f.p f.steps (pt, f.source) (qt, script_of law qt f.p f.steps f.reads_them.scripted.script) (by_blocks law f.p (conditions_of f.p f.steps) (whole_text ct) blocks) in
      (f.short, last.0, (f.p, f.steps, record { reads = f.reads_them; blocks = blocks }, holds, ap (λ (x : Outcome). x.text) passed.same))

  check_ends : (a b c pt qt ct : List ℕ) (p : Typed) (steps : List PlainStep) → told a ≡ Some pt → told b ≡ Some qt → told c ≡ Some ct → AreShort pt qt → IsShort ct → Checks pt qt ct p steps
      → EndsIn told (plan_for (checks a b c)) o → IsProved o
  check_ends a b c pt qt ct p steps ia ib ic short third h e =
      let goes = files_go law spelled told o a b pt qt p steps (check_posed c) ia ib short h.reads e in
      let last : checked (posed p steps) ct ≡ o = file_goes told o {A = ⊥} Certificates c ct (λ text. ends (checked (posed p steps) text)) ic third goes in
      let all = (law.blocks (setting_of p) (conditions_of p steps) (whole_text ct) refl (room pt qt p steps h.reads)).1 h.blocks in
      subst IsProved (sym (discharged_ends (posed p steps) ct all) ∙ last) refl

  -- a search behind two files
  search_shows : (a b pt qt : List ℕ) (all : Posed → List Tree → Outcome) (next : Posed → Plan ⊥) → ((x : Posed) → next x ≡ ends (searched x (all x))) → told a ≡ Some pt → told b ≡ Some qt
      → EndsIn told (then_plan (conditions_plan a b) next) o → IsProved o
      → AreShort pt qt × ((p : Typed) × (steps : List PlainStep) × (ts : List Tree) × Decides pt qt p steps ts × Hold p steps × (o ≡ all (posed p steps) ts))
  search_shows a b pt qt all next is ia ib e proved =
      let f = from_files law spelled told o a b pt qt next ia ib e proved in
      let x = posed f.p f.steps in
      let last : searched x (all x) ≡ o = subst (λ (q : Plan ⊥). EndsIn told q o) (is x) f.goes in
      let found = search_passed x (all x) o last proved in
      let holds = hold law f.p f.steps (pt, f.source) (qt, script_of law qt f.p f.steps f.reads_them.scripted.script) (by_search law f.p f.steps found.trees (pt, f.source) (qt, script_of law qt f.p f.steps f.reads_them.scripted.script) found.found) in
      (f.short, (f.p, f.steps, found.trees, record { reads = f.reads_them; found = found.found }, holds, found.same))

  search_ends : (a b pt qt : List ℕ) (all : Posed → List Tree → Outcome) (next : Posed → Plan ⊥) → ((x : Posed) → next x ≡ ends (searched x (all x))) → (p : Typed) (steps : List PlainStep) (ts : List Tree)
      → told a ≡ Some pt → told b ≡ Some qt → AreShort pt qt → Decides pt qt p steps ts → IsProved (all (posed p steps) ts) → EndsIn told (then_plan (conditions_plan a b) next) o → IsProved o
  search_ends a b pt qt all next is p steps ts ia ib short h proved e =
      let x = posed p steps in
      let goes = files_go law spelled told o a b pt qt p steps next ia ib short h.reads e in
      let last : searched x (all x) ≡ o = subst (λ (q : Plan ⊥). EndsIn told q o) (is x) goes in
      subst IsProved (sym (found_ends x (all x) ts h.found) ∙ last) proved

  -- a workload
  workload_shows : (n : ℕ) → EndsIn told (plan_for (makes n)) o → IsProved o
      → (p : Typed) × (steps : List PlainStep) × (ts : List Tree) × Decides (program_text n) (proof_text n) p steps ts × Hold p steps × (o.text ≡ workload_line n ++ numbers p steps ts)
  workload_shows n e proved =
      let inner = numbered_ends told n (then_plan (workload_conditions n) count_posed) o (only_workload (λ role name. ⊥) n) e in
      let q = inner.0 in
      let done : IsProved q = ap (λ (x : Outcome). x.status) inner.2 ∙ proved in
      let source = source_proved told q (program_text n) (workload_posed n) count_posed inner.1 done in
      let rest = posed_proved told q source.0 (proof_text n) count_posed source.2 done in
      let x = posed source.0 rest.steps in
      let found = search_passed x (goals_counted x) q rest.goes done in
      let them = reads law (program_text n) (proof_text n) source.0 rest.steps source.1 rest.script rest.few in
      let holds = hold law source.0 rest.steps (program_text n, source.1) (proof_text n, rest.script) (by_search law source.0 rest.steps found.trees (program_text n, source.1) (proof_text n, rest.script) found.found) in
      (source.0, rest.steps, found.trees, record { reads = them; found = found.found }, holds, sym (ap (λ (y : Outcome). y.text) inner.2) ∙ ap (λ (y : Outcome). workload_line n ++ y.text) found.same)

  workload_ends : (n : ℕ) (p : Typed) (steps : List PlainStep) (ts : List Tree) → Decides (program_text n) (proof_text n) p steps ts → EndsIn told (plan_for (makes n)) o → IsProved o
  workload_ends n p steps ts h e =
      let x = posed p steps in
      let first = ap (λ (q : Plan Typed). then_plan q (workload_posed n)) (source_goes spelled law.meant (program_text n) p h.reads.scripted.program) in
      let second : workload_conditions n ≡ goes_on x = first ∙ posed_goes law spelled (program_text n) (proof_text n) p steps h.reads in
      let last : with_number n (counted x) ≡ o = subst (λ (q : Plan Posed). EndsIn told (numbered n (then_plan q count_posed)) o) second e in
      subst IsProved (ap (with_number n) (sym (found_ends x (goals_counted x) ts h.found)) ∙ last) refl

  -- invariants that are found
  finds_show : (a pt : List ℕ) → told a ≡ Some pt → EndsIn told (plan_for (finds a)) o → IsProved o
      → (length pt ≤ 4194304) × ((p : Typed) × (es : List PlainEquation) × IsProgram pt p × (found (system_of p) ≡ Some es))
      × ((p : Typed) × (steps : List PlainStep) × (ts : List Tree) × Decides pt o.text p steps ts × Hold p steps)
  finds_show a pt ia e proved =
      let first = file_proved told o Program a pt (λ text. then_plan (source_of_text text) find_in) ia e proved in
      let source = source_found told o pt first.1 proved in
      let p = source.0 in
      let l = looked p o source.2 proved in
      let script = script_of law o.text p l.steps l.spells in
      let them = reads law pt o.text p l.steps source.1 script l.few in
      let holds = hold law p l.steps (pt, source.1) (o.text, script) (by_search law p l.steps l.trees (pt, source.1) (o.text, script) l.decided) in (
        first.0,
        (p, l.equations, them.scripted.program, l.found_are),
        (p, l.steps, l.trees, record { reads = them; found = l.decided }, holds),
      )

  finds_end : (a pt : List ℕ) (p : Typed) (es : List PlainEquation) → told a ≡ Some pt → length pt ≤ 4194304 → IsProgram pt p → found (system_of p) ≡ Some es → EndsIn told (plan_for (finds a)) o → IsProved o
  finds_end a pt p es ia short h are e =
      let goes = file_goes told o Program a pt (λ text. then_plan (source_of_text text) find_in) ia short e in
      let last : invariants_of p ≡ o = subst (λ (q : Plan Typed). EndsIn told (then_plan q find_in) o) (source_goes spelled law.meant pt p h) goes in
      subst IsProved last (looks p es are)

-- what a request shows with status 0
pub shows : (law : Laws) → SpelledIsRead → (told : Told) (request : Option PlainRequest) (o : Outcome) (Said : List ℕ → Type 0) → EndsIn told (plan_of request) o → IsProved o → Said o.text → Headline told Said request
shows law spelled told None o Said e proved said = absurd (let same : IsProved words_refused = subst IsProved (sym e) proved in cc)
shows law spelled told (Some (checks a b c)) o Said e proved said =
    each_told (told a) _ (λ pt ia. each_told (told b) _ (λ qt ib. each_told (told c) _ (λ ct ic. (
    let s = check_shows law spelled told o a b c pt qt ct ia ib ic e proved in
    let t = s.2 in
    record { program = t.0; steps = t.1; texts = t.2; holds = t.3; said = subst Said t.4 said }
    ))))
shows law spelled told (Some (verifies a b)) o Said e proved said =
    each_told (told a) _ (λ pt ia. each_told (told b) _ (λ qt ib. (
    let s = search_shows law spelled told o a b pt qt (λ x ts. goals_proved x) verify_posed (λ x. refl) ia ib e proved in
    let t = s.1 in
    record { program = t.0; steps = t.1; trees = t.2; texts = t.3; holds = t.4; said = subst Said (ap (λ (x : Outcome). x.text) t.5) said }
    )))
shows law spelled told (Some (proves a b)) o Said e proved said =
    each_told (told a) _ (λ pt ia. each_told (told b) _ (λ qt ib. (
    let s = search_shows law spelled told o a b pt qt (λ x ts. certificates ts) prove_posed (λ x. refl) ia ib e proved in
    let t = s.1 in
    let c = certificates_passed t.2 o t.5 proved in
    record { program = t.0; steps = t.1; trees = t.2; texts = t.3; holds = t.4; said = subst Said (ap (λ (x : Outcome). x.text) c.0) said }
    )))
shows law spelled told (Some (makes n)) o Said e proved said =
    let t = workload_shows law spelled told o n e proved in
    record { program = t.0; steps = t.1; trees = t.2; texts = t.3; holds = t.4; said = subst Said t.5 said }
shows law spelled told (Some (traces a b c)) o Said e proved said =
    each_told (told a) _ (λ pt ia. each_told (told b) _ (λ qt ib. each_told (told c) _ (λ st ic. (
    let r = trace_shows law spelled told o a b c pt qt st ia ib ic e proved in
    let t = r.2 in
    let seen = observed_of t.0 t.2 t.3 in
    record {
      program = t.0;
      steps = t.1;
      schedule = t.2;
      later = t.3;
      counts = round_counts seen;
      judged = all_judged seen t.1;
      seen = seen;
      texts = t.4;
      seen_of = observed_seen t.0.processes t.4.scripted.program.means.numbered (start_of t.0 t.2) t.3;
      greatest = counts-are-greatest seen;
      judges = are_judged seen t.1;
      said = subst Said (ap (λ (x : Outcome). x.text) t.5) said;
    }
    ))))
shows law spelled told (Some (finds a)) o Said e proved said =
    each_told (told a) _ (λ pt ia. (
    let t = (finds_show law spelled told o a pt ia e proved).2 in
    record { program = t.0; text = o.text; steps = t.1; trees = t.2; texts = t.3; holds = t.4; said = said }
    ))

-- and when it comes
pub exactly : (law : Laws) → SpelledIsRead → (told : Told) (request : Option PlainRequest) (o : Outcome) → EndsIn told (plan_of request) o → Exactly told o.status request
exactly law spelled told None o e = λ proved. (let same : IsProved words_refused = subst IsProved (sym e) proved in cc)
exactly law spelled told (Some (checks a b c)) o e =
    each_told (told a) _ (λ pt ia. each_told (told b) _ (λ qt ib. each_told (told c) _ (λ ct ic. (
      (λ proved. (let s = check_shows law spelled told o a b c pt qt ct ia ib ic e proved in let t = s.2 in (s.0, s.1, (t.0, t.1, t.2)))),
      (λ h. check_ends law spelled told o a b c pt qt ct h.2.0 h.2.1 ia ib ic h.0 h.1 h.2.2 e),
    ))))
exactly law spelled told (Some (verifies a b)) o e =
    each_told (told a) _ (λ pt ia. each_told (told b) _ (λ qt ib. (
      (λ proved. (let s = search_shows law spelled told o a b pt qt (λ x ts. goals_proved x) verify_posed (λ x. refl) ia ib e proved in let t = s.1 in (s.0, (t.0, t.1, t.2, t.3)))),
      (λ h. search_ends law spelled told o a b pt qt (λ x ts. goals_proved x) verify_posed (λ x. refl) h.1.0 h.1.1 h.1.2 ia ib h.0 h.1.3 refl e),
    )))
exactly law spelled told (Some (proves a b)) o e =
    each_told (told a) _ (λ pt ia. each_told (told b) _ (λ qt ib. (
      (λ proved. (
          let s = search_shows law spelled told o a b pt qt (λ x ts. certificates ts) prove_posed (λ x. refl) ia ib e proved in
          let t = s.1 in
          (s.0, (t.0, t.1, t.2, t.3, (certificates_passed t.2 o t.5 proved).1))
          )),
      (λ h. search_ends law spelled told o a b pt qt (λ x ts. certificates ts) prove_posed (λ x. refl) h.1.0 h.1.1 h.1.2 ia ib h.0 h.1.3 (short_ends h.1.2 h.1.4) e),
    )))
exactly law spelled told (Some (makes n)) o e =
    ((λ proved. (let t = workload_shows law spelled told o n e proved in (t.0, t.1, t.2, t.3))), (λ h. workload_ends law spelled told o n h.0 h.1 h.2 h.3 e))
exactly law spelled told (Some (traces a b c)) o e =
    each_told (told a) _ (λ pt ia. each_told (told b) _ (λ qt ib. each_told (told c) _ (λ st ic. (
      (λ proved. (let r = trace_shows law spelled told o a b c pt qt st ia ib ic e proved in let t = r.2 in (r.0, r.1, (t.0, t.1, t.2, t.3, t.4)))),
      (λ h. trace_ends law spelled told o a b c pt qt st h.2.0 h.2.1 h.2.2 h.2.3 ia ib ic h.0 h.1 h.2.4 e),
    ))))
exactly law spelled told (Some (finds a)) o e =
    each_told (told a) _ (λ pt ia. (
      (λ proved. (let s = finds_show law spelled told o a pt ia e proved in (s.0, s.1))),
      (λ h. finds_end law spelled told o a pt h.1.0 h.1.1 ia h.0 h.1.2 h.1.3 e),
    ))
