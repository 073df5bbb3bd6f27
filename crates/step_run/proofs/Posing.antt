-- A script and its conditions, as stages of a plan.
use Rattle.std.proofs.Common.{◌≡◌, ℕ, ◌+◌, ◌≤◌, ◌<◌, Bool, true, false, nat_le, nat_lt, List, [], ◌∷◌, ◌++◌, map, length, ap, ◌∙◌, sym, subst, arith, refl, length-append}
use Rattle.std.specs.Prelude.{Option, Some, None, Result, Err, if◌then◌else◌, All}
use Rattle.std.proofs.lemmas.Bool.Decides.{nat_tests}
use Rattle.std.proofs.lemmas.List.{length-map}
use Rattle.st_form.specs.Condition.{Implication}
use Rattle.st_form.specs.Shared.{plain_condition}
use Rattle.st_form.specs.declared.conditions.Condition.{Condition}
use Rattle.temporal_goals.specs.Texts.{PlainStep}
use Rattle.vc_generator.specs.Building.{Draft}
use Rattle.vc_generator.specs.Refusing.{weight_in, weights, refusal}
use Rattle.vc_generator.specs.declared.faults.VcFault.{VcFault}
use Rattle.vc_generator.specs.declared.faults.VcFault.TheVariants as limits
use Rattle.script_laws.specs.Script.{script_list}
use Rattle.script_laws.specs.Refused.{refused_by, refused_at}
use Rattle.rule_fits.specs.Obeying.{IsProof}
use Rattle.script_laws.specs.Written.{StepWritten}
use Rattle.script_bounds.specs.Over.{OverIsWritten}
use Rattle.script_speech.specs.Over.{StepOver}
use Rattle.script_obligations.specs.Laws.{AreThese}
use Rattle.list_laws.specs.Each.{Each}
use Rattle.obligations.specs.declared.faults.ObligationFault.{ObligationFault}
use Rattle.obligations.specs.declared.faults.ObligationFault.TheVariants as faults
use Rattle.obligations.specs.Made.{IsRefusal}
use Rattle.proof_script.specs.Script as scripts
use Rattle.proof_script.specs.Obeying.{ScriptsAreProofs}
use Rattle.proof_script.specs.Speaking.{ScriptsAreOver}
use Rattle.st_reading.specs.Reading.{Stop, IsStop}
use Rattle.st_reading.specs.Breaches.{Breach}
use Rattle.transition_system.specs.Systems.{System}
use Rattle.spl_translation.specs.Translation.{translation}
use Rattle.spl_typer.specs.Programs.{Typed}
use Rattle.spl_typer.proofs.Tabled.{names_stand}
use Rattle.step_plan.specs.declared.ended.Ended.{Ended}
use Rattle.step_plan.specs.Outcome.{ended_view, IsDecided}
use Rattle.step_plan.specs.Plan.{ends, goes_on}
use Rattle.step_run.specs.declared.refusals.Refusal.{Refusal}
use Rattle.step_run.specs.declared.refusals.Refusal.TheVariants.{Memory}
use Rattle.step_run.specs.Outcome.{proof_refused, IsScriptRefusal}
use Rattle.step_run.specs.Source.{IsSpelled}
use Rattle.step_run.specs.Conditions.{system_of, steps_spelled, drafts, conditions_of, passes_limit}
use Rattle.step_run.specs.Plans.{steps_or_end, script_of_text, posed_or_end, obliged}
use Rattle.step_run.specs.Posing.{IsScript, IsPassed}
use Rattle.step_run.proofs.Sources.{not_memory}
use Rattle.step_run.proofs.Typed.{from_text}

pub script_read : (p : Typed) (text : List ℕ) (r : Result (List PlainStep) (Stop Breach)) → steps_spelled p text ≡ r → script_of_text p text ≡ steps_or_end r
unfolding script_of_text
script_read p text r is = ap steps_or_end is

pub system_is : (p : Typed) (system : System) → system ≡ translation p.variables p.initial p.processes p.locations → system ≡ system_of p
unfolding system_of
system_is p system e = e

pub translation_is : (p : Typed) (system : System) → system ≡ system_of p → system ≡ translation p.variables p.initial p.processes p.locations
unfolding system_of
translation_is p system e = e

-- the script that a call gives for the program's system
pub steps_read : (p : Typed) (system : System) (text : List ℕ) (r : Result (List PlainStep) (Stop Breach)) → system ≡ system_of p → scripts.script_spelled p.names system text ≡ r → steps_spelled p text ≡ r
steps_read p system text r same is = ap (λ s. scripts.script_spelled p.names s text) (sym same) ∙ is

pub script_over : (p : Typed) (system : System) (text : List ℕ) (seen : Option (Stop Breach)) (refusal : Refusal) (ended : Ended) → system ≡ system_of p → IsStop seen (scripts.script_spelled p.names system text)
    → IsScriptRefusal seen refusal → ended_view ended ≡ proof_refused refusal → IsDecided ended.status → (script_of_text p text ≡ ends (ended_view ended)) × IsDecided ended.status
script_over p system text (Some f) refusal ended same fails from is decided =
    (script_read p text (Err f) (steps_read p system text (Err f) same fails) ∙ ap ends (sym (is ∙ from)), decided)
script_over p system text None refusal ended same fails from is decided = absurd (not_memory ended (proof_refused Memory) (is ∙ ap proof_refused from) decided)

-- the conditions of a script
drafts_are : (p : Typed) (system : System) (steps : List PlainStep) → system ≡ system_of p → script_list system steps ≡ drafts p steps
unfolding drafts
drafts_are p system steps same = ap (λ s. script_list s steps) same

pub obliged_is : (p : Typed) (steps : List PlainStep) (o : Option (VcFault × ℕ)) → passes_limit p steps ≡ o → obliged p steps ≡ posed_or_end p steps o
unfolding obliged
obliged_is p steps o is = ap (posed_or_end p steps) is

module _ (p : Typed) (system : System) (steps : List PlainStep) (same : system ≡ system_of p) where
  passes_is : (o : Option (VcFault × ℕ)) → refused_at [] (script_list system steps) ≡ o → passes_limit p steps ≡ o
  passes_is o is = ap (refused_at []) (sym (drafts_are p system steps same)) ∙ is

  conditions_are : (cs : List Condition) → AreThese cs (script_list system steps) → map plain_condition cs ≡ conditions_of p steps
  conditions_are cs these = these ∙ ap (map (λ d. d.condition)) (drafts_are p system steps same)

  pub obliged_on : (cs : List Condition) → (refused_at [] (script_list system steps) ≡ None) × AreThese cs (script_list system steps)
      → obliged p steps ≡ goes_on (record { program = p; steps = steps; conditions = map plain_condition cs })
  obliged_on cs made =
      obliged_is p steps None (passes_is None made.0) ∙ ap (λ (l : List Implication). goes_on (record { program = p; steps = steps; conditions = l })) (sym (conditions_are cs made.1))

  pub obliged_over : (f : ObligationFault) (ended : Ended) → IsRefusal f (refused_at [] (script_list system steps)) → IsPassed f (ended_view ended) → IsDecided ended.status
      → (obliged p steps ≡ ends (ended_view ended)) × IsDecided ended.status
  obliged_over (faults.TooMany n) ended first is decided = (obliged_is p steps (Some (limits.TooMany, n)) (passes_is (Some (limits.TooMany, n)) first) ∙ ap ends (sym is), decided)
  obliged_over (faults.TooWide n) ended first is decided = (obliged_is p steps (Some (limits.TooWide, n)) (passes_is (Some (limits.TooWide, n)) first) ∙ ap ends (sym is), decided)
  obliged_over (faults.TooHeavy n) ended first is decided = (obliged_is p steps (Some (limits.TooHeavy, n)) (passes_is (Some (limits.TooHeavy, n)) first) ∙ ap ends (sym is), decided)
  obliged_over faults.Memory ended first is decided = absurd is

-- at most 20,000 conditions are appended
record Goes (old : List Implication) (d : Draft) (ds : List Draft) : Type 0 where
  room : length old < 20000
  more : refused_at (old ++ d.condition ∷ []) ds ≡ None

not_full : (n : ℕ) → nat_le 20000 n ≡ false → n < 20000
not_full n e = grind (arith, nat_tests)

one_more : (old : List Implication) (d : Draft) (ds : List Draft) (full wide heavy : Bool) → nat_le 20000 (length old) ≡ full
    → refused_by (if full then Some limits.TooMany else (if wide then Some limits.TooWide else (if heavy then Some limits.TooHeavy else None))) d.condition.name.step (refused_at (old ++ d.condition ∷ []) ds) ≡ None
    → Goes old d ds
one_more old d ds true wide heavy is e = absurd cc
one_more old d ds false true heavy is e = absurd cc
one_more old d ds false false true is e = absurd cc
one_more old d ds false false false is e = record { room = not_full (length old) is; more = e }

few_appended : (old : List Implication) (ds : List Draft) → length old ≤ 20000 → refused_at old ds ≡ None → length old + length ds ≤ 20000
few_appended old [] le e = omega arith
few_appended old (d ∷ ds) le e =
    let one = one_more old d ds (nat_le 20000 (length old)) (nat_lt 2048 d.wide) (nat_lt 16777216 (weights old + weight_in d.condition)) refl e in
    let room = one.room in
    let size = length-append old (d.condition ∷ []) in
    omega (arith, few_appended (old ++ d.condition ∷ []) ds (omega arith) one.more)

pub few_conditions : (cs : List Condition) (ds : List Draft) → (refused_at [] ds ≡ None) × AreThese cs ds → length cs ≤ 20000
few_conditions cs ds made =
    let sizes : length (map plain_condition cs) ≡ length (map (λ d. d.condition) ds) = ap length made.1 in
    omega (arith, few_appended [] ds (omega arith) made.0, sizes, length-map cs plain_condition, length-map ds (λ d. d.condition))

-- a script that some text spells over a program is a proof, and written
pub is_proof : ScriptsAreProofs → (p : Typed) (system : System) (steps : List PlainStep) → system ≡ system_of p → IsScript p steps → IsProof system steps
is_proof law p system steps same script = subst (λ s. IsProof s steps) (sym same) (law p.names (system_of p) script.0 steps script.1)

pub is_written : ScriptsAreOver → OverIsWritten → (p : Typed) (system : System) (steps : List PlainStep) → IsSpelled p → system ≡ system_of p → IsScript p steps → Each (StepWritten system) steps
is_written over written p system steps spelled same script =
    let f = from_text spelled.0 p spelled.1 in
    let is = translation_is p system same in
    let here : All (StepOver p.variables p.locations) steps = over p.variables p.locations p.names (system_of p) (names_stand f.program p f.types) script.0 steps script.1 in
    written p.variables system (ap (λ s. s.truths) is) steps (subst (λ n. All (StepOver p.variables n) steps) (sym (ap (λ s. s.locations) is)) here)

pub few_drafts : (p : Typed) (steps : List PlainStep) → passes_limit p steps ≡ None → length (conditions_of p steps) ≤ 20000
few_drafts p steps few = omega (arith, few_appended [] (drafts p steps) (omega arith) few, length-map (drafts p steps) (λ d. d.condition))
