-- How each part of a run ends it, or how it goes on behind: files, the program, the script, the limits of its conditions.
use Rattle.std.specs.Prelude.{◌≡◌, ℕ, ◌≤◌, ◌<◌, List, length, Some, None, Err}
use Rattle.st_tokens.specs.Stream.{text_stream}
use Rattle.st_reading.specs.Reading.{Stop}
use Rattle.st_reading.specs.Faults.{Passed}
use Rattle.st_reading.specs.Breaches.{Breach}
use Rattle.st_reading.specs.Theorem.{IsFirst}
use Rattle.temporal_goals.specs.Texts.{PlainStep}
use Rattle.vc_generator.specs.declared.faults.VcFault.{VcFault}
use Rattle.spl_parser.specs.ProgramTree as raw
use Rattle.spl_parser.specs.Grammar.{SpellsProgram}
use Rattle.spl_parser.specs.Theorems.{Spells}
use Rattle.spl_parser.specs.Parsing.{parsed}
use Rattle.expression_typer.specs.declared.fault.TypeFault.{TypeFault}
use Rattle.expression_typer.specs.Placed.{IsLeast}
use Rattle.spl_typer.specs.Programs.{Typed}
use Rattle.spl_typer.specs.ProgramRules.{program_faults}
use Rattle.proof_grammar.specs.Grammar.{SpellsScript}
use Rattle.script_grammar.specs.Grammar.{IsRawScript}
use Rattle.script_grammar.specs.Rules.{broken_rules}
use Rattle.script_grammar.specs.Theorems.{Forms, Sums}
use Rattle.script_grammar.specs.FirstFaults.{IsFirstFault}
use Rattle.step_report.specs.declared.refusals.FileRole.{FileRole}
use Rattle.step_report.specs.declared.refusals.FileRole.TheVariants.{Program, Proof}
use Rattle.step_plan.specs.Limits.{length_limit, too_long, limited}
use Rattle.step_plan.specs.Outcome.{Outcome}
use Rattle.step_plan.specs.Plan.{Told}
use Rattle.step_run.specs.Refusals.{of_stop, of_rule}
use Rattle.step_run.specs.Outcome.{program_refused, script_refused}
use Rattle.step_run.specs.Conditions.{Posed, words_over, conditions_of, passes_limit, limit_of}
use Rattle.step_run.specs.Traced.{Scripted}
use Rattle.step_run.specs.WellFormed.{IsProgram}

-- What comes of bytes, or of a value, is said by `Next`.
-- A file that is told is longer than it may be, or read.
pub data FileGoes (told : Told) (role : FileRole) (name : List ℕ) (Next : List ℕ → Outcome → Type 0) : Outcome → Type 0 where
  is_too_long : (bytes : List ℕ) → told name ≡ Some bytes → length_limit role < length bytes → FileGoes told role name Next (too_long role)
  is_read : (bytes : List ℕ) (o : Outcome) → told name ≡ Some bytes → length bytes ≤ length_limit role → Next bytes o → FileGoes told role name Next o

-- no program within the limits is spelled, and this is the first fault
pub record IsOffGrammar (pt : List ℕ) (f : Stop Passed) : Type 0 where
  pub refused : parsed pt ≡ Err f
  pub none : (x : raw.Program) → Spells pt x → ⊥
  pub first : IsFirst SpellsProgram (text_stream pt) f

-- The text of a program is refused by the grammar, or spells one in which this is the lowest rule that is broken at the first place
-- where one is, or spells a program.
pub data ProgramGoes (pt : List ℕ) (Next : Typed → Outcome → Type 0) : Outcome → Type 0 where
  off_grammar : (f : Stop Passed) → IsOffGrammar pt f → ProgramGoes pt Next (program_refused (of_stop f))
  breaks_rule : (x : raw.Program) (f : TypeFault) → Spells pt x → IsLeast f (program_faults x) → ProgramGoes pt Next (program_refused (of_rule f))
  is_program : (p : Typed) (o : Outcome) → IsProgram pt p → Next p o → ProgramGoes pt Next o

-- no script is spelled over the program, and this is the first fault: a rule that is broken in what begins the text, or else
-- where the grammar doesn't go on
pub record IsOffScript (p : Typed) (qt : List ℕ) (f : Stop Breach) : Type 0 where
  pub none : (steps : List PlainStep) → SpellsScript (words_over p) qt steps → ⊥
  pub first : IsFirstFault (IsRawScript Forms Sums) (broken_rules (words_over p)) (text_stream qt) f

pub data ScriptGoes (p : Typed) (qt : List ℕ) (Next : List PlainStep → Outcome → Type 0) : Outcome → Type 0 where
  off_script : (f : Stop Breach) → IsOffScript p qt f → ScriptGoes p qt Next (script_refused f)
  is_script : (steps : List PlainStep) (o : Outcome) → SpellsScript (words_over p) qt steps → Next steps o → ScriptGoes p qt Next o

-- a program, its script and the script's conditions
abbrev pub posed_over : Typed → List PlainStep → Posed
posed_over p steps = record { program = p; steps = steps; conditions = conditions_of p steps }

-- a condition of the script passes a limit as the first, or none does
pub data LimitsGo (p : Typed) (steps : List PlainStep) (Next : Posed → Outcome → Type 0) : Outcome → Type 0 where
  passes_one : (fault : VcFault) (step : ℕ) → passes_limit p steps ≡ Some (fault, step) → LimitsGo p steps Next (limited (limit_of fault))
  passes_none : (o : Outcome) → passes_limit p steps ≡ None → Next (posed_over p steps) o → LimitsGo p steps Next o

-- texts of a program and of a proof, up to the conditions
abbrev pub ScriptedTexts : Typed → List ℕ → (Posed → Outcome → Type 0) → Outcome → Type 0
ScriptedTexts p qt Next o = ScriptGoes p qt (λ steps q. LimitsGo p steps Next q) o

abbrev pub MadeTexts : List ℕ → List ℕ → (Posed → Outcome → Type 0) → Outcome → Type 0
MadeTexts pt qt Next o = ProgramGoes pt (λ p q. ScriptedTexts p qt Next q) o

-- two files, up to the conditions
abbrev pub PosedFiles : Told → List ℕ → List ℕ → (Posed → Outcome → Type 0) → Outcome → Type 0
PosedFiles told a b Next o = FileGoes told Program a (λ pt q. ProgramGoes pt (λ p r. FileGoes told Proof b (λ qt s. ScriptedTexts p qt Next s) r) q) o

-- the same for a trace, which makes no conditions
abbrev pub ScriptedFiles : Told → List ℕ → List ℕ → (Scripted → Outcome → Type 0) → Outcome → Type 0
ScriptedFiles told a b Next o =
    FileGoes told Program a (λ pt q. ProgramGoes pt (λ p r. FileGoes told Proof b (λ qt s. ScriptGoes p qt (λ steps t. Next (record { program = p; steps = steps }) t) s) r) q) o
