-- Each part of a plan ends the run, or goes on, as is said of it. What is said behind it goes along both ways.
use Rattle.std.proofs.Common.{◌≡◌, ℕ, ◌<◌, ◌≤◌, Bool, true, false, nat_lt, List, [], ◌∷◌, length, refl, sym, ap, ◌∙◌, subst, arith}
use Rattle.std.specs.Prelude.{Option, Some, None, Result, Ok, Err, if◌then◌else◌, option_and_then}
use Rattle.std.proofs.lemmas.Bool.Decides.{nat_tests}
use Rattle.st_reading.specs.Reading.{Stop}
use Rattle.st_reading.specs.Faults.{Passed}
use Rattle.st_reading.specs.Breaches.{Breach}
use Rattle.temporal_goals.specs.Texts.{PlainStep}
use Rattle.vc_generator.specs.declared.faults.VcFault.{VcFault}
use Rattle.spl_parser.specs.ProgramTree as raw
use Rattle.spl_parser.specs.Theorems.{SpelledIsRead, ReadIsSpelled, FirstFault}
use Rattle.spl_parser.specs.Parsing.{parsed}
use Rattle.expression_typer.specs.declared.fault.TypeFault.{TypeFault}
use Rattle.expression_typer.specs.Placed.{IsLeast}
use Rattle.spl_typer.specs.Programs.{Typed, typing}
use Rattle.spl_typer.specs.ProgramRules.{program_faults}
use Rattle.typing_laws.specs.Laws.{TellsLeast, ReadIsTyped}
use Rattle.program_rules.specs.Theorems.{LawfulIsTyping}
use Rattle.proof_grammar.specs.Theorems.{SpelledScriptsAreRead, ReadScriptsAreSpelled}
use Rattle.script_grammar.specs.FirstFaults.{ScriptsFirstFault}
use Rattle.step_report.specs.declared.refusals.FileRole.{FileRole}
use Rattle.step_plan.specs.Limits.{length_limit, too_long, limited}
use Rattle.step_plan.specs.Outcome.{Outcome}
use Rattle.step_plan.specs.Plan.{Told, Plan, ends, goes_on, asks, outcome_of}
use Rattle.step_run.specs.declared.refusals.Refusal.{Refusal}
use Rattle.step_run.specs.Refusals.{of_stop, of_rule}
use Rattle.step_run.specs.Outcome.{program_refused, script_refused}
use Rattle.step_run.specs.Source.{source_typed, source_of, source_spelled}
use Rattle.step_run.specs.Conditions.{Posed, words_over, steps_spelled, passes_limit, limit_of}
use Rattle.step_run.specs.Plans.{source_of_text, script_of_text, obliged}
use Rattle.step_run.specs.WellFormed.{IsProgram}
use Rattle.step_run.proofs.Sources.{source_read}
use Rattle.step_run.proofs.Meant.{typed_means, program_spelled}
use Rattle.step_run.proofs.Posing.{script_read, obliged_is}
use Rattle.status_meanings.specs.Stages.{FileGoes, is_too_long, is_read, IsOffGrammar, ProgramGoes, off_grammar, breaks_rule, is_program, IsOffScript, ScriptGoes, off_script, is_script, posed_over, LimitsGo, passes_one, passes_none}

-- the laws of the crates below
pub record TextLaws : Type 0 where
  pub spelled : ReadIsSpelled
  pub read : SpelledIsRead
  pub first : FirstFault
  pub typed : ReadIsTyped
  pub meant : LawfulIsTyping
  pub scripts_spelled : ReadScriptsAreSpelled
  pub scripts_read : SpelledScriptsAreRead
  pub scripts_first : ScriptsFirstFault

pub some_is : (p o : Outcome) → ◌≡◌ {A = Option Outcome} (Some p) (Some o) → p ≡ o
some_is p o e = cc

ok_is : {A X : Type 0} (r : Result A X) (x : A) (f : X) → r ≡ Ok x → r ≡ Err f → ⊥
ok_is r x f e g = let no : Ok x ≡ Err f = sym e ∙ g in cc

past : (limit n : ℕ) → nat_lt limit n ≡ true → limit < n
past limit n h = grind (arith, nat_tests)

within : (limit n : ℕ) → nat_lt limit n ≡ false → n ≤ limit
within limit n h = grind (arith, nat_tests)

is_past : (limit n : ℕ) → limit < n → nat_lt limit n ≡ true
is_past limit n h = grind (arith, nat_tests)

is_within : (limit n : ℕ) → n ≤ limit → nat_lt limit n ≡ false
is_within limit n h = grind (arith, nat_tests)

-- FILES
module _ (told : Told) (role : FileRole) (name : List ℕ) (go : List ℕ → Plan ⊥) (Next : List ℕ → Outcome → Type 0) where
  abbrev heard : List ℕ → Option Outcome
  heard bytes = if nat_lt (length_limit role) (length bytes) then Some (too_long role) else outcome_of told (go bytes)

  module _ (behind : (bytes : List ℕ) (o : Outcome) → outcome_of told (go bytes) ≡ Some o → Next bytes o) where
    by_length : (bytes : List ℕ) (o : Outcome) → told name ≡ Some bytes → (b : Bool) → nat_lt (length_limit role) (length bytes) ≡ b → (if b then Some (too_long role) else outcome_of told (go bytes)) ≡ Some o → FileGoes told role name Next o
    by_length bytes o is true test e = subst (FileGoes told role name Next) (some_is (too_long role) o e) (is_too_long bytes is (past (length_limit role) (length bytes) test))
    by_length bytes o is false test e = is_read bytes o is (within (length_limit role) (length bytes) test) (behind bytes o e)

    by_bytes : (o : Outcome) (t : Option (List ℕ)) → told name ≡ t → option_and_then heard t ≡ Some o → FileGoes told role name Next o
    by_bytes o None is e = absurd cc
    by_bytes o (Some bytes) is e = by_length bytes o is (nat_lt (length_limit role) (length bytes)) refl e

    pub file_to : (o : Outcome) → outcome_of told (asks role name go) ≡ Some o → FileGoes told role name Next o
    file_to o e = by_bytes o (told name) refl e

  pub file_from : ((bytes : List ℕ) (o : Outcome) → Next bytes o → outcome_of told (go bytes) ≡ Some o) → (o : Outcome) → FileGoes told role name Next o → outcome_of told (asks role name go) ≡ Some o
  file_from behind o (is_too_long bytes is long) =
      ap (option_and_then heard) is ∙ ap (λ (b : Bool). if b then Some (too_long role) else outcome_of told (go bytes)) (is_past (length_limit role) (length bytes) long)
  file_from behind o (is_read bytes q is short next) =
      ap (option_and_then heard) is ∙ ap (λ (b : Bool). if b then Some (too_long role) else outcome_of told (go bytes)) (is_within (length_limit role) (length bytes) short) ∙ behind bytes q next

-- PROGRAMS
source_stopped : (pt : List ℕ) (f : Stop Passed) → parsed pt ≡ Err f → source_spelled pt ≡ Err (of_stop f)
unfolding source_spelled
source_stopped pt f e = ap source_of e

source_ruled : (pt : List ℕ) (x : raw.Program) (f : TypeFault) → parsed pt ≡ Ok x → typing x ≡ Err f → source_spelled pt ≡ Err (of_rule f)
unfolding source_spelled
source_ruled pt x f e is = ap source_of e ∙ ap source_typed is

source_ok : (pt : List ℕ) (x : raw.Program) (p : Typed) → parsed pt ≡ Ok x → typing x ≡ Ok p → source_spelled pt ≡ Ok p
unfolding source_spelled
source_ok pt x p e is = ap source_of e ∙ ap source_typed is

told_least : (r t : Result Typed TypeFault) (fs : List TypeFault) → r ≡ t → TellsLeast r fs → TellsLeast t fs
told_least r t fs is h = subst (λ z. TellsLeast z fs) is h

same_least : (f g : TypeFault) (fs : List TypeFault) → IsLeast f fs → IsLeast g fs → f ≡ g
same_least f g fs h k = let e : f ∷ h.rest ≡ g ∷ k.rest = sym h.among ∙ k.among in cc

some_least : (f : TypeFault) (fs : List TypeFault) → fs ≡ [] → IsLeast f fs → ⊥
some_least f fs e h = let no : f ∷ h.rest ≡ [] = sym h.among ∙ e in cc

module _ (law : TextLaws) (told : Told) (pt : List ℕ) (wrap : Plan Typed → Plan ⊥) (next : Typed → Plan ⊥) (stops : (o : Outcome) → wrap (ends o) ≡ ends o) (goes : (p : Typed) → wrap (goes_on p) ≡ next p) (Next : Typed → Outcome → Type 0) where
  program_ended : (refusal : Refusal) → source_spelled pt ≡ Err refusal → outcome_of told (wrap (source_of_text pt)) ≡ Some (program_refused refusal)
  program_ended refusal is = ap (λ (q : Plan ⊥). outcome_of told q) (ap wrap (source_read pt (Err refusal) is) ∙ stops (program_refused refusal))

  program_gone : (p : Typed) → source_spelled pt ≡ Ok p → outcome_of told (wrap (source_of_text pt)) ≡ outcome_of told (next p)
  program_gone p is = ap (λ (q : Plan ⊥). outcome_of told q) (ap wrap (source_read pt (Ok p) is) ∙ goes p)

  program_of : (x : raw.Program) (p : Typed) → parsed pt ≡ Ok x → typing x ≡ Ok p → IsProgram pt p
  program_of x p reads is = typed_means law.spelled law.meant pt x p reads is

  module _ (behind : (p : Typed) (o : Outcome) → IsProgram pt p → outcome_of told (next p) ≡ Some o → Next p o) where
    by_typing : (x : raw.Program) (o : Outcome) (r : Result Typed TypeFault) → parsed pt ≡ Ok x → typing x ≡ r → outcome_of told (wrap (source_of_text pt)) ≡ Some o → ProgramGoes pt Next o
    by_typing x o (Ok p) reads is e = is_program p o (program_of x p reads is) (behind p o (program_of x p reads is) (sym (program_gone p (source_ok pt x p reads is)) ∙ e))
    by_typing x o (Err f) reads is e =
        subst (ProgramGoes pt Next) (some_is (program_refused (of_rule f)) o (sym (program_ended (of_rule f) (source_ruled pt x f reads is)) ∙ e))
        (breaks_rule x f (law.spelled pt x reads) (told_least (typing x) (Err f) (program_faults x) is (law.typed pt x reads).1))

    off : (f : Stop Passed) → parsed pt ≡ Err f → IsOffGrammar pt f
    off f e = record { refused = e; none = λ x h. ok_is (parsed pt) x f (law.read pt x h) e; first = law.first pt f e }

    by_reading : (o : Outcome) (r : Result raw.Program (Stop Passed)) → parsed pt ≡ r → outcome_of told (wrap (source_of_text pt)) ≡ Some o → ProgramGoes pt Next o
    by_reading o (Ok x) reads e = by_typing x o (typing x) reads refl e
    by_reading o (Err f) reads e =
        subst (ProgramGoes pt Next) (some_is (program_refused (of_stop f)) o (sym (program_ended (of_stop f) (source_stopped pt f reads)) ∙ e)) (off_grammar f (off f reads))

    pub program_to : (o : Outcome) → outcome_of told (wrap (source_of_text pt)) ≡ Some o → ProgramGoes pt Next o
    program_to o e = by_reading o (parsed pt) refl e

  least_is : (x : raw.Program) (f : TypeFault) → IsLeast f (program_faults x) → (r : Result Typed TypeFault) → typing x ≡ r → TellsLeast r (program_faults x) → typing x ≡ Err f
  least_is x f h (Ok p) is k = absurd (some_least f (program_faults x) k h)
  least_is x f h (Err g) is k = is ∙ ap (λ (z : TypeFault). Err z) (same_least g f (program_faults x) k h)

  pub program_from : ((p : Typed) (o : Outcome) → IsProgram pt p → Next p o → outcome_of told (next p) ≡ Some o) → (o : Outcome) → ProgramGoes pt Next o → outcome_of told (wrap (source_of_text pt)) ≡ Some o
  program_from behind o (off_grammar f h) = program_ended (of_stop f) (source_stopped pt f h.refused)
  program_from behind o (breaks_rule x f spells least) =
      let reads = law.read pt x spells in
      program_ended (of_rule f) (source_ruled pt x f reads (least_is x f least (typing x) refl (law.typed pt x reads).1))
  program_from behind o (is_program p q h n) = program_gone p (program_spelled law.read law.meant pt p h) ∙ behind p q h n

-- SCRIPTS
module _ (law : TextLaws) (told : Told) (p : Typed) (qt : List ℕ) (wrap : Plan (List PlainStep) → Plan ⊥) (next : List PlainStep → Plan ⊥) (stops : (o : Outcome) → wrap (ends o) ≡ ends o) (goes : (steps : List PlainStep) → wrap (goes_on steps) ≡ next steps) (Next : List PlainStep → Outcome → Type 0) where
  script_ended : (f : Stop Breach) → steps_spelled p qt ≡ Err f → outcome_of told (wrap (script_of_text p qt)) ≡ Some (script_refused f)
  script_ended f is = ap (λ (q : Plan ⊥). outcome_of told q) (ap wrap (script_read p qt (Err f) is) ∙ stops (script_refused f))

  script_gone : (steps : List PlainStep) → steps_spelled p qt ≡ Ok steps → outcome_of told (wrap (script_of_text p qt)) ≡ outcome_of told (next steps)
  script_gone steps is = ap (λ (q : Plan ⊥). outcome_of told q) (ap wrap (script_read p qt (Ok steps) is) ∙ goes steps)

  off_it : (f : Stop Breach) → steps_spelled p qt ≡ Err f → IsOffScript p qt f
  off_it f e = record { none = λ steps h. ok_is (steps_spelled p qt) steps f (law.scripts_read (words_over p) qt steps h) e; first = (law.scripts_first (words_over p) qt f).0 e }

  module _ (behind : (steps : List PlainStep) (o : Outcome) → outcome_of told (next steps) ≡ Some o → Next steps o) where
    by_script : (o : Outcome) (r : Result (List PlainStep) (Stop Breach)) → steps_spelled p qt ≡ r → outcome_of told (wrap (script_of_text p qt)) ≡ Some o → ScriptGoes p qt Next o
    by_script o (Ok steps) is e = is_script steps o (law.scripts_spelled (words_over p) qt steps is) (behind steps o (sym (script_gone steps is) ∙ e))
    by_script o (Err f) is e = subst (ScriptGoes p qt Next) (some_is (script_refused f) o (sym (script_ended f is) ∙ e)) (off_script f (off_it f is))

    pub script_to : (o : Outcome) → outcome_of told (wrap (script_of_text p qt)) ≡ Some o → ScriptGoes p qt Next o
    script_to o e = by_script o (steps_spelled p qt) refl e

  pub script_from : ((steps : List PlainStep) (o : Outcome) → Next steps o → outcome_of told (next steps) ≡ Some o) → (o : Outcome) → ScriptGoes p qt Next o → outcome_of told (wrap (script_of_text p qt)) ≡ Some o
  script_from behind o (off_script f h) = script_ended f ((law.scripts_first (words_over p) qt f).1 h.first)
  script_from behind o (is_script steps q h n) = script_gone steps (law.scripts_read (words_over p) qt steps h) ∙ behind steps q n

-- CONDITIONS
module _ (told : Told) (p : Typed) (steps : List PlainStep) (wrap : Plan Posed → Plan ⊥) (next : Posed → Plan ⊥) (stops : (o : Outcome) → wrap (ends o) ≡ ends o) (goes : (x : Posed) → wrap (goes_on x) ≡ next x) (Next : Posed → Outcome → Type 0) where
  limit_ended : (fault : VcFault) (step : ℕ) → passes_limit p steps ≡ Some (fault, step) → outcome_of told (wrap (obliged p steps)) ≡ Some (limited (limit_of fault))
  limit_ended fault step is = ap (λ (q : Plan ⊥). outcome_of told q) (ap wrap (obliged_is p steps (Some (fault, step)) is) ∙ stops (limited (limit_of fault)))

  limit_gone : passes_limit p steps ≡ None → outcome_of told (wrap (obliged p steps)) ≡ outcome_of told (next (posed_over p steps))
  limit_gone is = ap (λ (q : Plan ⊥). outcome_of told q) (ap wrap (obliged_is p steps None is) ∙ goes (posed_over p steps))

  module _ (behind : (o : Outcome) → passes_limit p steps ≡ None → outcome_of told (next (posed_over p steps)) ≡ Some o → Next (posed_over p steps) o) where
    by_limit : (o : Outcome) (r : Option (VcFault × ℕ)) → passes_limit p steps ≡ r → outcome_of told (wrap (obliged p steps)) ≡ Some o → LimitsGo p steps Next o
    by_limit o None is e = passes_none o is (behind o is (sym (limit_gone is) ∙ e))
    by_limit o (Some passed) is e = subst (LimitsGo p steps Next) (some_is (limited (limit_of passed.0)) o (sym (limit_ended passed.0 passed.1 is) ∙ e)) (passes_one passed.0 passed.1 is)

    pub limits_to : (o : Outcome) → outcome_of told (wrap (obliged p steps)) ≡ Some o → LimitsGo p steps Next o
    limits_to o e = by_limit o (passes_limit p steps) refl e

  pub limits_from : ((o : Outcome) → passes_limit p steps ≡ None → Next (posed_over p steps) o → outcome_of told (next (posed_over p steps)) ≡ Some o) → (o : Outcome) → LimitsGo p steps Next o → outcome_of told (wrap (obliged p steps)) ≡ Some o
  limits_from behind o (passes_one fault step is) = limit_ended fault step is
  limits_from behind o (passes_none q is n) = limit_gone is ∙ behind q is n
