-- How runs end.
use Rattle.std.specs.Prelude.{◌≡◌, ℕ, [], Option, Some, None}
use Rattle.st_tokens.specs.declared.kind.TokenFault.{TokenFault}
use Rattle.st_tokens.specs.declared.kind.TokenFault.TheVariants as tokens
use Rattle.st_reading.specs.Reading.{Stop, syntax, broken, other}
use Rattle.st_reading.specs.Rule as rules
use Rattle.st_reading.specs.Rule.{Rule}
use Rattle.st_reading.specs.Breaches as breaches
use Rattle.st_reading.specs.Breaches.{Breach, broke, crowded, unformed}
use Rattle.step_report.specs.declared.refusals.FaultKind.{FaultKind}
use Rattle.step_report.specs.declared.refusals.FaultKind.TheVariants as kinds
use Rattle.step_report.specs.declared.refusals.FileRole.{FileRole}
use Rattle.step_report.specs.declared.refusals.FileRole.TheVariants.{Program, Proof}
use Rattle.step_report.specs.Traces.{moves_limit_text}
use Rattle.step_report.specs.Refused.{words_refused_text, refused_text}
use Rattle.step_report.specs.Ends.{answered}
use Rattle.step_plan.specs.declared.status.Status.{Status}
use Rattle.step_plan.specs.declared.status.Status.TheVariants.{Words, ProgramRefused, ProofRefused, Limit as Limited, Memory as NoMemory}
use Rattle.step_plan.specs.Limits.{limited}
use Rattle.step_plan.specs.Outcome.{Outcome}
use Rattle.step_run.specs.declared.refusals.Refusal.{Refusal}
use Rattle.step_run.specs.declared.refusals.Refusal.TheVariants.{Fault, Limit, Memory}

abbrev pub words_refused : Outcome
words_refused = record { status = Words; text = words_refused_text answered }

-- want of memory, which no text gives
abbrev pub no_memory : Outcome
no_memory = record { status = NoMemory; text = [] }

abbrev pub program_refused : Refusal → Outcome
program_refused (Fault kind place) = record { status = ProgramRefused; text = refused_text Program kind place }
program_refused (Limit kind) = limited kind
program_refused Memory = no_memory

abbrev pub proof_refused : Refusal → Outcome
proof_refused (Fault kind place) = record { status = ProofRefused; text = refused_text Proof kind place }
proof_refused (Limit kind) = limited kind
proof_refused Memory = no_memory

-- what a report calls a rule
abbrev pub kind_of : Rule → FaultKind
kind_of rules.Unknown = kinds.Unknown
kind_of rules.Twice = kinds.Twice
kind_of rules.WrongType = kinds.WrongType
kind_of rules.NonLinear = kinds.NonLinear
kind_of rules.TooLarge = kinds.TooLarge
kind_of rules.InputAssigned = kinds.InputAssigned
kind_of rules.SelectHead = kinds.SelectHead
kind_of rules.SameTarget = kinds.SameTarget
kind_of rules.UnknownLemma = kinds.UnknownLemma
kind_of rules.NotInvariant = kinds.NotInvariant
kind_of rules.WrongCount = kinds.WrongCount
kind_of rules.UnknownTransition = kinds.UnknownTransition
kind_of rules.UnknownNode = kinds.UnknownNode
kind_of rules.Upward = kinds.Upward
kind_of rules.NoTerminal = kinds.NoTerminal
kind_of rules.UnfairHelper = kinds.UnfairHelper
kind_of rules.NotCompassionate = kinds.NotCompassionate
kind_of rules.NoHelper = kinds.NoHelper
kind_of rules.Unset = kinds.Unset

-- a text of this role is refused, with the first of its faults
abbrev pub text_fault : Status → FileRole → FaultKind → ℕ → Outcome
text_fault status role kind place = record { status = status; text = refused_text role kind place }

abbrev pub token_fault : Status → FileRole → TokenFault → Outcome
token_fault status role (tokens.BadByte place) = text_fault status role kinds.BadByte place
token_fault status role (tokens.LongNumber place) = text_fault status role kinds.LongNumber place

abbrev pub moves_limited : Outcome
moves_limited = record { status = Limited; text = moves_limit_text }

abbrev pub text_refused : Status → FileRole → Stop Breach → Outcome
text_refused status role (syntax place) = text_fault status role kinds.Syntax place
text_refused status role (broken f) = token_fault status role f
text_refused status role (other (broke rule place)) = text_fault status role (kind_of rule) place
text_refused status role (other (breaches.limited kind place)) = limited kind
text_refused status role (other (crowded place)) = moves_limited
text_refused status role (other (unformed place)) = text_fault status role kinds.Syntax place

-- the first fault of a script
abbrev pub script_refused : Stop Breach → Outcome
script_refused = text_refused ProofRefused Proof

-- the refusal of the code ends a run as the fault does, and is want of memory where the code's fault is that
abbrev pub IsScriptRefusal : Option (Stop Breach) → Refusal → Type 0
IsScriptRefusal None refusal = refusal ≡ Memory
IsScriptRefusal (Some f) refusal = proof_refused refusal ≡ script_refused f
