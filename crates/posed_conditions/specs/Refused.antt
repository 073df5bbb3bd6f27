-- Why two texts give no conditions: each answer but want of memory is so of the texts.
use Rattle.std.specs.Prelude.{◌≡◌, ◌<◌, ◌⊎◌, ℕ, List, [], length, Ok}
use Rattle.transition_system.specs.Plain.{plain_system}
use Rattle.temporal_goals.specs.Texts.{PlainStep}
use Rattle.st_reading.specs.Reading.{IsStop}
use Rattle.st_reading.specs.Faults as parsing
use Rattle.spl_parser.specs.ProgramTree as raw
use Rattle.spl_parser.specs.Parsing.{parsed}
use Rattle.expression_typer.specs.Answers.{Fails}
use Rattle.spl_typer.specs.Programs.{typing}
use Rattle.proof_script.specs.Faults as scripts
use Rattle.proof_script.specs.Script.{script_spelled}
use Rattle.script_laws.specs.Script.{script_list}
use Rattle.script_laws.specs.Refused.{refused_at}
use Rattle.obligations.specs.Made.{IsRefusal}
use Rattle.posed_conditions.specs.declared.faults.PosingFault.{PosingFault}
use Rattle.posed_conditions.specs.declared.faults.PosingFault.TheVariants as faults
use Rattle.posed_conditions.specs.declared.translated.TranslatedProgram.{TranslatedProgram}
use Rattle.posed_conditions.specs.Translated.{IsOfText}

-- typing the tree breaks a rule, and this is the first
abbrev pub BreaksTyping : raw.Program → PosingFault → Type 0
BreaksTyping tree (faults.Typing f) = Fails f (typing tree)
BreaksTyping tree faults.Memory = Unit {0}
BreaksTyping tree (faults.Program f) = ⊥
BreaksTyping tree faults.LongProof = ⊥
BreaksTyping tree (faults.Proof f) = ⊥
BreaksTyping tree (faults.Conditions f) = ⊥

-- the text is no program, or its tree breaks a rule of typing
abbrev pub RefusesProgram : List ℕ → PosingFault → Type 0
RefusesProgram text (faults.Program f) = IsStop (parsing.see f) (parsed text)
RefusesProgram text (faults.Typing f) = (tree : raw.Program) × (parsed text ≡ Ok tree) × Fails f (typing tree)
RefusesProgram text faults.Memory = Unit {0}
RefusesProgram text faults.LongProof = ⊥
RefusesProgram text (faults.Proof f) = ⊥
RefusesProgram text (faults.Conditions f) = ⊥

-- the conditions of the steps pass this limit
abbrev pub PassesLimit : TranslatedProgram → List PlainStep → PosingFault → Type 0
PassesLimit x steps (faults.Conditions f) = IsRefusal f (refused_at [] (script_list (plain_system x.system) steps))
PassesLimit x steps faults.Memory = Unit {0}
PassesLimit x steps (faults.Program f) = ⊥
PassesLimit x steps (faults.Typing f) = ⊥
PassesLimit x steps faults.LongProof = ⊥
PassesLimit x steps (faults.Proof f) = ⊥

-- the text is too long, no script over the program, or its conditions pass a limit
abbrev pub RefusesProof : TranslatedProgram → List ℕ → PosingFault → Type 0
RefusesProof x text faults.LongProof = 4194304 < length text
RefusesProof x text (faults.Proof f) = IsStop (scripts.see f) (script_spelled x.names (plain_system x.system) text)
RefusesProof x text (faults.Conditions f) = (steps : List PlainStep) × (script_spelled x.names (plain_system x.system) text ≡ Ok steps) × IsRefusal f (refused_at [] (script_list (plain_system x.system) steps))
RefusesProof x text faults.Memory = Unit {0}
RefusesProof x text (faults.Program f) = ⊥
RefusesProof x text (faults.Typing f) = ⊥

-- one text is refused as a program, or the other as a proof over the program of the first
abbrev pub RefusesTexts : List ℕ → List ℕ → PosingFault → Type 0
RefusesTexts program proof fault = RefusesProgram program fault ⊎ ((x : TranslatedProgram) × IsOfText program x × RefusesProof x proof fault)
