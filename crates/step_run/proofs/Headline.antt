-- From an end with status 0 to what it shows.
use Rattle.std.proofs.Common.{◌≡◌, inl, inr, ℕ, zero, suc, ◌+◌, ◌^◌, ◌<◌, ◌≤◌, Bool, true, false, cond, nat_lt, List, [], ◌∷◌, length, map, refl, sym, ap, ◌∙◌, subst, arith}
use Rattle.std.specs.Prelude.{Option, Some, None, Result, Ok, Err, slice_get, ℤ}
use Rattle.st_tokens.specs.declared.limit.LimitKind.{LimitKind}
use Rattle.st_tokens.specs.declared.limit.LimitKind.TheVariants as limits
use Rattle.std.proofs.lemmas.Bool.Decides.{nat_tests}
use Rattle.std.proofs.lemmas.List.{length-map}
use Rattle.st_form.specs.Condition.{Implication}
use Rattle.st_form.specs.Formula.{Formula, Formulas, truth_value, row, equal, bool_var, at, negation, every, some, none, more}
use Rattle.st_linear.specs.Linear.{Linear, AllBelow}
use Rattle.st_certificate.specs.Tree.{Tree}
use Rattle.temporal_goals.specs.Texts.{PlainStep}
use Rattle.control_facts.specs.Alternatives.{control_of}
use Rattle.farkas_check.specs.Problem.{Setting}
use Rattle.farkas_check.specs.Meaning.{IsValidCondition}
use Rattle.farkas_check.proofs.Law.{certified}
use Rattle.search_laws.specs.Forms.{AllForms, AllFormsOf, IsProper}
use Rattle.search_laws.specs.Laws.{CertificatesAreValid}
use Rattle.search_laws.specs.Moves.{Verdict, valid, open_at, wide_at, decided}
use Rattle.transition_system.specs.Bounds.{IsSystem, LinearWithin, EntriesWithin, FormulaWithin, FormulasWithin}
use Rattle.vc_generator.specs.Building.{Draft}
use Rattle.vc_generator.specs.declared.faults.VcFault.{VcFault}
use Rattle.list_laws.specs.Each.{Each}
use Rattle.condition_sizes.specs.Within.{DraftWithin}
use Rattle.script_laws.specs.Script.{script_list}
use Rattle.script_laws.specs.Laws.{ScriptsProve, ScriptsAreWithin}
use Rattle.script_bounds.specs.Over.{OverIsWritten}
use Rattle.spl_semantics.proofs.ControlMet.{reached_meets}
use Rattle.spl_translation.specs.Translation.{translation}
use Rattle.spl_translation.proofs.Corresponding.{corresponds}
use Rattle.spl_translation.proofs.Observed.{run_seen}
use Rattle.spl_translation.proofs.Systemic.{translation_is_system}
use Rattle.obligation_laws.specs.Obligations.{AreValid}
use Rattle.obligation_laws.proofs.Enough.{enough}
use Rattle.script_obligations.proofs.Programs.{scripts-hold}
use Rattle.fair_runs.proofs.Keeping.{kept}
use Rattle.spl_parser.specs.Theorems.{ReadIsSpelled, SpelledIsRead}
use Rattle.spl_typer.specs.Programs.{Typed}
use Rattle.program_rules.specs.Theorems.{LawfulIsTyping}
use Rattle.proof_script.specs.Obeying.{ScriptsAreProofs}
use Rattle.proof_script.specs.Speaking.{ScriptsAreOver}
use Rattle.st_tokens.specs.declared.kind.TokenFault.{TokenFault}
use Rattle.st_tokens.specs.declared.kind.TokenFault.TheVariants as tokens
use Rattle.st_reading.specs.Reading.{Stop, syntax, broken, other}
use Rattle.st_reading.specs.Breaches as breaches
use Rattle.st_reading.specs.Breaches.{Breach, broke, crowded, unformed}
use Rattle.cert_text.specs.Blank.{first_place, past_blanks}
use Rattle.cert_text.specs.Held.{Held}
use Rattle.block_laws.specs.Checked.{Checked, all_valid, refused, whole_text, checked_from}
use Rattle.block_laws.specs.Blocks.{HasBlocks, behind}
use Rattle.block_laws.specs.Laws.{AllDischarged, BlocksAreExact}
use Rattle.step_report.specs.declared.refusals.FileRole.{FileRole}
use Rattle.step_report.specs.declared.refusals.FileRole.TheVariants.{Proof}
use Rattle.step_report.specs.Goals.{certificates_text}
use Rattle.step_plan.specs.declared.status.Status.{Status}
use Rattle.step_plan.specs.declared.status.Status.TheVariants.{Proved, ProofRefused}
use Rattle.step_plan.specs.Limits.{length_limit, length_kind, limited}
use Rattle.step_plan.specs.Outcome.{Outcome}
use Rattle.step_plan.specs.Reading.{AreTold, IsPast}
use Rattle.step_plan.specs.Plan.{Told, Plan, goes_on, asks, then_plan, EndsIn}
use Rattle.step_run.specs.declared.refusals.Refusal.{Refusal}
use Rattle.step_run.specs.declared.refusals.Refusal.TheVariants.{Fault, Limit, Memory}
use Rattle.step_run.specs.Outcome.{program_refused, token_fault, text_refused, script_refused}
use Rattle.step_run.specs.Source.{source_spelled, IsSpelled}
use Rattle.proof_grammar.specs.Grammar.{SpellsScript}
use Rattle.proof_grammar.specs.Theorems.{SpelledScriptsAreRead, ReadScriptsAreSpelled}
use Rattle.schedule_grammar.specs.Theorems.{SpelledSchedulesAreRead, ReadSchedulesAreSpelled}
use Rattle.step_run.specs.Conditions.{Posed, system_of, setting_of, words_over, steps_spelled, drafts, conditions_of, passes_limit, limit_of}
use Rattle.step_run.specs.Checked.{goals_proved, ending, check_ended, checked}
use Rattle.step_run.specs.Verified.{Verified, all_found, left_open, given_up, by_verdict, verdict_on, verified_from, search_ended, searched, certificates}
use Rattle.step_run.specs.Plans.{program_or_end, source_of_text, steps_or_end, posed_or_end, obliged, posed_of_text}
use Rattle.step_run.specs.Posing.{IsScript}
use Rattle.step_run.specs.WellFormed.{IsProgram, IsScripted, Reads, AreFound}
use Rattle.step_run.specs.Headline.{Hold}
use Rattle.step_run.proofs.Sources.{source_read}
use Rattle.step_run.proofs.Posing.{script_read, obliged_is, is_proof, is_written}
use Rattle.step_run.proofs.Typed.{well_typed}
use Rattle.step_run.proofs.Meant.{source_means, program_spelled}
use Rattle.step_run.proofs.Within.{are_within}

abbrev pub IsProved : Outcome → Type 0
IsProved o = o.status ≡ Proved

-- a program, its script and its conditions
abbrev pub posed : Typed → List PlainStep → Posed
posed p steps = record { program = p; steps = steps; conditions = conditions_of p steps }

-- what stands before the conditions ends no run with status 0
refused_not : (refusal : Refusal) → IsProved (program_refused refusal) → ⊥
refused_not (Fault kind place) e = cc
refused_not (Limit kind) e = cc
refused_not Memory e = cc

token_not : (status : Status) (role : FileRole) → (status ≡ Proved → ⊥) → (f : TokenFault) → IsProved (token_fault status role f) → ⊥
token_not status role never (tokens.BadByte place) e = never e
token_not status role never (tokens.LongNumber place) e = never e

pub text_not : (status : Status) (role : FileRole) → (status ≡ Proved → ⊥) → (f : Stop Breach) → IsProved (text_refused status role f) → ⊥
text_not status role never (syntax place) e = never e
text_not status role never (broken f) e = token_not status role never f e
text_not status role never (other (broke rule place)) e = never e
text_not status role never (other (breaches.limited kind place)) e = cc
text_not status role never (other (crowded place)) e = cc
text_not status role never (other (unformed place)) e = never e

pub script_not : (f : Stop Breach) → IsProved (script_refused f) → ⊥
script_not = text_not ProofRefused Proof (λ e. cc)

limited_not : (kind : LimitKind) → IsProved (limited kind) → ⊥
limited_not kind e = cc

module _ (told : Told) (o : Outcome) where
  pub ends_as : (p : Outcome) → (IsProved p → ⊥) → p ≡ o → IsProved o → ⊥
  ends_as p never is e = never (subst IsProved (sym is) e)

  -- a file that is told is within its limit, and its bytes are gone on with
  pub file_proved : {A : Type 0} (role : FileRole) (name text : List ℕ) (go : List ℕ → Plan A) → told name ≡ Some text → EndsIn told (asks role name go) o → IsProved o → (length text ≤ length_limit role) × EndsIn told (go text) o
  file_proved role name text go is (inl long) e = absurd (limited_not (length_kind role) (subst IsProved long.1 e))
  file_proved role name text go is (inr m) e =
      let same : m.0 ≡ text = subst (λ (t : Option (List ℕ)). AreTold t m.0) is m.1 in
      (subst (λ (b : List ℕ). length b ≤ length_limit role) same m.2, subst (λ (b : List ℕ). EndsIn told (go b) o) same m.3)

  -- one within its limit is gone on with
  pub file_goes : {A : Type 0} (role : FileRole) (name text : List ℕ) (go : List ℕ → Plan A) → told name ≡ Some text → length text ≤ length_limit role → EndsIn told (asks role name go) o → EndsIn told (go text) o
  file_goes role name text go is short (inl long) = absurd (let past : IsPast (Some text) (length_limit role) = subst (λ (t : Option (List ℕ)). IsPast t (length_limit role)) is long.0 in omega (arith, past, short))
  file_goes role name text go is short (inr m) =
      let same : m.0 ≡ text = subst (λ (t : Option (List ℕ)). AreTold t m.0) is m.1 in
      subst (λ (b : List ℕ). EndsIn told (go b) o) same m.3

  -- the text of the program spells one
  pub source_proved : {A : Type 0} (text : List ℕ) (f : Typed → Plan A) (next : A → Plan ⊥) → EndsIn told (then_plan (then_plan (source_of_text text) f) next) o → IsProved o
      → (p : Typed) × (source_spelled text ≡ Ok p) × EndsIn told (then_plan (f p) next) o
  source_proved text f next e proved =
      by (source_spelled text) refl (subst (λ (q : Plan Typed). EndsIn told (then_plan (then_plan q f) next) o) (source_read text (source_spelled text) refl) e) where
        by : (r : Result Typed Refusal) → source_spelled text ≡ r → EndsIn told (then_plan (then_plan (program_or_end r) f) next) o → (p : Typed) × (source_spelled text ≡ Ok p) × EndsIn told (then_plan (f p) next) o
        by (Ok p) is g = (p, is, g)
        by (Err refusal) is g = absurd (ends_as (program_refused refusal) (refused_not refusal) g proved)

  -- the text of the proof spells a script, and no condition passes a limit
  pub record IsPosed (p : Typed) (text : List ℕ) (next : Posed → Plan ⊥) : Type 0 where
    pub steps : List PlainStep
    pub script : steps_spelled p text ≡ Ok steps
    pub few : passes_limit p steps ≡ None
    pub goes : EndsIn told (next (posed p steps)) o

  pub posed_proved : (p : Typed) (text : List ℕ) (next : Posed → Plan ⊥) → EndsIn told (then_plan (posed_of_text p text) next) o → IsProved o → IsPosed p text next
  posed_proved p text next e proved =
      by (steps_spelled p text) refl (subst (λ (q : Plan (List PlainStep)). EndsIn told (then_plan (then_plan q (obliged p)) next) o) (script_read p text (steps_spelled p text) refl) e) where
        by_limit : (steps : List PlainStep) (r : Option (VcFault × ℕ)) → steps_spelled p text ≡ Ok steps → passes_limit p steps ≡ r → EndsIn told (then_plan (posed_or_end p steps r) next) o → IsPosed p text next
        by_limit steps None script few g = record { steps = steps; script = script; few = few; goes = g }
        by_limit steps (Some passed) script few g = absurd (ends_as (limited (limit_of passed.0)) (limited_not (limit_of passed.0)) g proved)

        by : (r : Result (List PlainStep) (Stop Breach)) → steps_spelled p text ≡ r → EndsIn told (then_plan (then_plan (steps_or_end r) (obliged p)) next) o → IsPosed p text next
        by (Ok steps) is g =
            by_limit steps (passes_limit p steps) is refl (subst (λ (q : Plan Posed). EndsIn told (then_plan q next) o) (obliged_is p steps (passes_limit p steps) refl) g)
        by (Err fault) is g = absurd (ends_as (script_refused fault) (script_not fault) g proved)

pub source_goes : SpelledIsRead → LawfulIsTyping → (pt : List ℕ) (p : Typed) → IsProgram pt p → source_of_text pt ≡ goes_on p
source_goes read meant pt p h = source_read pt (Ok p) (program_spelled read meant pt p h)

-- what is within bounds is as the search wants it
pub record IsSearched (p : Typed) (d : Draft) : Type 0 where
  pub given : AllForms (IsProper (length (setting_of p).variables)) d.condition.given
  pub shown : AllForms (IsProper (length (setting_of p).variables)) d.condition.shown

module _ (truths : List Bool) (locations : ℕ) where
  there : (xs : List Bool) (v : ℕ) (b : Bool) → slice_get xs v ≡ Some b → v < length xs
  there [] v b e = cc e
  there (x ∷ xs) zero b e = omega arith
  there (x ∷ xs) (suc v) b e = let h = there xs v b e in omega arith

  entries_below : (es : List (ℕ × ℤ)) → EntriesWithin truths (2 ^ 69) es → AllBelow (length truths) es
  entries_below [] h = tt
  entries_below (e ∷ es) h = (there truths e.0 false h.0, entries_below es h.2)

  proper_form : (f : Linear) → LinearWithin truths (2 ^ 69) f → IsProper (length truths) f
  proper_form f h = record { entries = h.rising; below = entries_below f.entries h.entries }

  mutual
    proper : (f : Formula) → FormulaWithin truths locations (2 ^ 69) f → AllForms (IsProper (length truths)) f
    proper (truth_value b) h = tt
    proper (row f) h = proper_form f h
    proper (equal f) h = proper_form f h
    proper (bool_var v) h = tt
    proper (at l) h = tt
    proper (negation f) h = proper f h
    proper (every fs) h = all_proper fs h
    proper (some fs) h = all_proper fs h

    all_proper : (fs : Formulas) → FormulasWithin truths locations (2 ^ 69) fs → AllFormsOf (IsProper (length truths)) fs
    all_proper none h = tt
    all_proper (more f fs) h = (proper f h.0, all_proper fs h.1)

-- the laws of the crates below
pub record Laws : Type 0 where
  pub spelled : ReadIsSpelled
  pub scripts_spelled : ReadScriptsAreSpelled
  pub scripts_read : SpelledScriptsAreRead
  pub schedules_spelled : ReadSchedulesAreSpelled
  pub schedules_read : SpelledSchedulesAreRead
  pub meant : LawfulIsTyping
  pub proofs : ScriptsAreProofs
  pub over : ScriptsAreOver
  pub written : OverIsWritten
  pub within : ScriptsAreWithin
  pub prove : ScriptsProve
  pub blocks : BlocksAreExact
  pub valid : CertificatesAreValid

module _ (law : Laws) where
  -- the script that a text spells is read
  pub script_of : (qt : List ℕ) (p : Typed) (steps : List PlainStep) → SpellsScript (words_over p) qt steps → steps_spelled p qt ≡ Ok steps
  script_of qt p steps h = law.scripts_read (words_over p) qt steps h

  -- the texts are well formed
  pub scripted : (pt qt : List ℕ) (p : Typed) (steps : List PlainStep) → source_spelled pt ≡ Ok p → steps_spelled p qt ≡ Ok steps → IsScripted pt qt p steps
  scripted pt qt p steps source script = record { program = source_means law.spelled law.meant pt p source; script = law.scripts_spelled (words_over p) qt steps script }

  pub reads : (pt qt : List ℕ) (p : Typed) (steps : List PlainStep) → source_spelled pt ≡ Ok p → steps_spelled p qt ≡ Ok steps → passes_limit p steps ≡ None → Reads pt qt p steps
  reads pt qt p steps source script few = record { scripted = scripted pt qt p steps source script; within = are_within p steps few }

  -- where all conditions are valid, the goals hold
  abbrev pub AllValid : Typed → List Implication → Type 0
  AllValid p [] = Unit {0}
  AllValid p (c ∷ cs) = IsValidCondition (control_of p.processes) c.given c.shown × AllValid p cs

  valid_drafts : (p : Typed) (ds : List Draft) → AllValid p (map (λ d. d.condition) ds) → AreValid (control_of p.processes) ds
  valid_drafts p [] h = tt
  valid_drafts p (d ∷ ds) h = (h.0, valid_drafts p ds h.1)

  pub hold : (p : Typed) (steps : List PlainStep) → IsSpelled p → IsScript p steps → AllValid p (conditions_of p steps) → Hold p steps
  unfolding drafts system_of
  hold p steps spelled script valid_all =
      let k = well_typed p spelled in
      let system = translation p.variables p.initial p.processes p.locations in
      let both = corresponds p.variables p.initial p.processes p.locations k.well k.typed k.start in
      let proof = is_proof law.proofs p system steps refl script in
      let on_runs =
      scripts-hold p.processes p.initial system law.prove
      (λ lemmas conditions goal proves cited all. enough p.processes p.initial system (λ st r. reached_meets p.processes p.initial k.well st r)
      (λ o run. run_seen p.processes p.initial k.well.numbered system both o run) lemmas conditions goal proves cited all)
      steps proof (valid_drafts p (script_list system steps) valid_all) in
      λ i d below. kept p.processes p.initial k.well _ (on_runs i d below)

  control_is : (p : Typed) (c : Implication) → IsValidCondition (setting_of p).control c.given c.shown → IsValidCondition (control_of p.processes) c.given c.shown
  unfolding setting_of
  control_is p c h = h

  -- the conditions of a script are as the search wants them
  variables_are : (p : Typed) → length (setting_of p).variables ≡ length (system_of p).truths
  unfolding setting_of system_of
  variables_are p = sym (length-map p.variables (λ v. v.truth))

  system_whole : (p : Typed) → IsSpelled p → IsSystem (system_of p)
  unfolding system_of
  system_whole p spelled = translation_is_system p.variables p.initial p.processes p.locations p.statements (well_typed p spelled)

  searched_each : (p : Typed) (ds : List Draft) → Each (DraftWithin (system_of p)) ds → Each (λ d. IsSearched p d) ds
  searched_each p [] h = tt
  searched_each p (d ∷ ds) h = (
    record {
      given = subst (λ n. AllForms (IsProper n) d.condition.given) (sym (variables_are p)) (proper (system_of p).truths (system_of p).locations d.condition.given h.0.given);
      shown = subst (λ n. AllForms (IsProper n) d.condition.shown) (sym (variables_are p)) (proper (system_of p).truths (system_of p).locations d.condition.shown h.0.shown);
    },
    searched_each p ds h.1,
  )

  pub searched_drafts : (p : Typed) (steps : List PlainStep) → IsSpelled p → IsScript p steps → Each (λ d. IsSearched p d) (drafts p steps)
  unfolding drafts
  searched_drafts p steps spelled script =
      searched_each p (script_list (system_of p) steps)
      (law.within (system_of p) steps (system_whole p spelled) (is_written law.over law.written p (system_of p) steps spelled refl script))

  -- valid blocks show valid conditions
  pub by_blocks : (p : Typed) (cs : List Implication) (h : Held) → HasBlocks (setting_of p) cs h → AllValid p cs
  by_blocks p [] h b = tt
  by_blocks p (c ∷ cs) h b = (control_is p c (certified (setting_of p) c.given c.shown _ b.0.valid), by_blocks p cs (behind h b.0) b.1)

  -- so do certificates that are found
  found_valid : (p : Typed) (ds : List Draft) (ts : List Tree) → Each (λ d. IsSearched p d) ds → AreFound (setting_of p) (map (λ d. d.condition) ds) ts → AllValid p (map (λ d. d.condition) ds)
  found_valid p [] ts proper found = tt
  found_valid p (d ∷ ds) [] proper found = absurd found
  found_valid p (d ∷ ds) (t ∷ ts) proper found = (
    control_is p d.condition (law.valid (setting_of p) d.condition.given d.condition.shown t proper.0.given proper.0.shown found.0).holds,
    found_valid p ds ts proper.1 found.1,
  )

  pub by_search : (p : Typed) (steps : List PlainStep) (ts : List Tree) → IsSpelled p → IsScript p steps → AreFound (setting_of p) (conditions_of p steps) ts → AllValid p (conditions_of p steps)
  by_search p steps ts spelled script found = found_valid p (drafts p steps) ts (searched_drafts p steps spelled script) found

-- the outcome of a check with status 0
by_ending : (x : Posed) (place : Option ℕ) → IsProved (ending x place) → (place ≡ None) × (ending x place ≡ goals_proved x)
by_ending x None e = (refl, refl)
by_ending x (Some place) e = absurd cc

pub record Passed (x : Posed) (text : List ℕ) (o : Outcome) : Type 0 where
  pub all : AllDischarged (setting_of x.program) x.conditions (whole_text text)
  pub same : o ≡ goals_proved x

by_check : (x : Posed) (text : List ℕ) (o : Outcome) (r : Checked) → checked_from (setting_of x.program) 1 x.conditions (whole_text text) ≡ r → check_ended x r ≡ o → IsProved o → Passed x text o
by_check x text o (all_valid rest) is e proved =
    let b = by_ending x (first_place (past_blanks rest)) (subst IsProved (sym e) proved) in
    record { all = record { rest = rest; valid = is; blank = b.0 }; same = sym e ∙ b.1 }
by_check x text o (refused n c reason) is e proved = absurd (let same : IsProved (check_ended x (refused n c reason)) = subst IsProved (sym e) proved in cc)

pub check_passed : (x : Posed) (text : List ℕ) (o : Outcome) → checked x text ≡ o → IsProved o → Passed x text o
unfolding checked
check_passed x text o e proved = by_check x text o (checked_from (setting_of x.program) 1 x.conditions (whole_text text)) refl e proved

-- the outcome of a search with status 0
pub record Found (x : Posed) (all : List Tree → Outcome) (o : Outcome) : Type 0 where
  pub trees : List Tree
  pub found : AreFound (setting_of x.program) x.conditions trees
  pub same : o ≡ all trees

found_first : (k : Setting) (n : ℕ) (c : Implication) (cs : List Implication) (ts : List Tree) (v : Verdict) (r : Verified) → decided k c.given c.shown ≡ v → verified_from k (n + 1) cs ≡ r
    → ((us : List Tree) → r ≡ all_found us → AreFound k cs us) → by_verdict n c r v ≡ all_found ts → AreFound k (c ∷ cs) ts
found_first k n c cs ts (valid t) (all_found us) is rest go e =
    let same : t ∷ us ≡ ts = cc in subst (AreFound k (c ∷ cs)) same (is, go us refl)
found_first k n c cs ts (valid t) (left_open m d path state) is rest go e = absurd cc
found_first k n c cs ts (valid t) (given_up m d path stage) is rest go e = absurd cc
found_first k n c cs ts (open_at path state) r is rest go e = absurd cc
found_first k n c cs ts (wide_at path stage) r is rest go e = absurd cc

verdict_unfolds : (k : Setting) (c : Implication) → verdict_on k c ≡ decided k c.given c.shown
unfolding verdict_on
verdict_unfolds k c = refl

all_are_found : (k : Setting) (n : ℕ) (cs : List Implication) (ts : List Tree) → verified_from k n cs ≡ all_found ts → AreFound k cs ts
all_are_found k n [] ts e = (let same : [] ≡ ts = cc in sym same)
all_are_found k n (c ∷ cs) ts e =
    found_first k n c cs ts (decided k c.given c.shown) (verified_from k (n + 1) cs) refl refl (λ us is. all_are_found k (n + 1) cs us is)
    (ap (by_verdict n c (verified_from k (n + 1) cs)) (sym (verdict_unfolds k c)) ∙ e)

by_search_ended : (x : Posed) (all : List Tree → Outcome) (o : Outcome) (r : Verified) → verified_from (setting_of x.program) 1 x.conditions ≡ r → search_ended x all r ≡ o → IsProved o → Found x all o
by_search_ended x all o (all_found ts) is e proved = record { trees = ts; found = all_are_found (setting_of x.program) 1 x.conditions ts is; same = sym e }
by_search_ended x all o (left_open n c path state) is e proved = absurd (let same : IsProved (search_ended x all (left_open n c path state)) = subst IsProved (sym e) proved in cc)
by_search_ended x all o (given_up n c path stage) is e proved = absurd (let same : IsProved (search_ended x all (given_up n c path stage)) = subst IsProved (sym e) proved in cc)

pub search_passed : (x : Posed) (all : List Tree → Outcome) (o : Outcome) → searched x all ≡ o → IsProved o → Found x all o
unfolding searched
search_passed x all o e proved = by_search_ended x all o (verified_from (setting_of x.program) 1 x.conditions) refl e proved

-- the text of certificates with status 0
abbrev written_end : List Tree → Bool → Outcome
written_end ts b = cond b (limited limits.Certificates) (record { status = Proved; text = certificates_text ts })

pub certificates_passed : (ts : List Tree) (o : Outcome) → o ≡ certificates ts → IsProved o → (o ≡ record { status = Proved; text = certificates_text ts }) × (length (certificates_text ts) ≤ 268435456)
certificates_passed ts o is proved = by (nat_lt 268435456 (length (certificates_text ts))) refl where
  below : (n : ℕ) → nat_lt 268435456 n ≡ false → n ≤ 268435456
  below n e = grind (arith, nat_tests)

  by : (b : Bool) → nat_lt 268435456 (length (certificates_text ts)) ≡ b → (o ≡ record { status = Proved; text = certificates_text ts }) × (length (certificates_text ts) ≤ 268435456)
  by true e = absurd (let same : IsProved (written_end ts true) = subst IsProved (is ∙ ap (written_end ts) e) proved in cc)
  by false e = (is ∙ ap (written_end ts) e, below (length (certificates_text ts)) e)
