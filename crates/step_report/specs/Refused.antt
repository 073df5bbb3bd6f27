-- The texts of words and texts that are refused, and of files that aren't read.
use Rattle.std.specs.Prelude.{ℕ, List, [], ◌∷◌, ◌++◌, codes}
use Rattle.std.specs.Fmt.{decimal}
use Rattle.step_report.specs.Names.{line}
use Rattle.step_report.specs.declared.refusals.FaultKind.{FaultKind}
use Rattle.step_report.specs.declared.refusals.FaultKind.TheVariants as kinds
use Rattle.step_report.specs.declared.refusals.FileRole.{FileRole}
use Rattle.step_report.specs.declared.refusals.FileRole.TheVariants.{Program, Proof, Certificates, Schedule}
use Rattle.step_report.specs.declared.usage.Command.{Command}
use Rattle.step_report.specs.declared.usage.Command.TheVariants.{Check, Verify, Prove, Workload, Trace, Invariants}

-- how the words of a command read
abbrev pub usage_text : Command → List ℕ
usage_text Check = codes "usage: step check PROGRAM PROOF CERTS [--workers N]"
usage_text Verify = codes "usage: step verify PROGRAM PROOF [--workers N]"
usage_text Prove = codes "usage: step prove PROGRAM PROOF"
usage_text Workload = codes "usage: step workload N"
usage_text Trace = codes "usage: step trace PROGRAM PROOF SCHEDULE"
usage_text Invariants = codes "usage: step invariants PROGRAM"

abbrev pub usage_lines : List Command → List ℕ
usage_lines [] = []
usage_lines (c ∷ cs) = line (usage_text c) ++ usage_lines cs

-- words that are none of these commands'
abbrev pub words_refused_text : List Command → List ℕ
words_refused_text commands = line (codes "words refused") ++ usage_lines commands

abbrev pub role_text : FileRole → List ℕ
role_text Program = codes "program"
role_text Proof = codes "proof"
role_text Certificates = codes "certificates"
role_text Schedule = codes "schedule"

abbrev pub read_fault_text : FileRole → List ℕ
read_fault_text role = line (codes "read fault: " ++ role_text role)

abbrev pub kind_text : FaultKind → List ℕ
kind_text kinds.Syntax = codes "Syntax"
kind_text kinds.BadByte = codes "BadByte"
kind_text kinds.LongNumber = codes "LongNumber"
kind_text kinds.Unknown = codes "Unknown"
kind_text kinds.Twice = codes "Twice"
kind_text kinds.WrongType = codes "WrongType"
kind_text kinds.NonLinear = codes "NonLinear"
kind_text kinds.TooLarge = codes "TooLarge"
kind_text kinds.InputAssigned = codes "InputAssigned"
kind_text kinds.SelectHead = codes "SelectHead"
kind_text kinds.SameTarget = codes "SameTarget"
kind_text kinds.UnknownLemma = codes "UnknownLemma"
kind_text kinds.NotInvariant = codes "NotInvariant"
kind_text kinds.WrongCount = codes "WrongCount"
kind_text kinds.UnknownTransition = codes "UnknownTransition"
kind_text kinds.UnknownNode = codes "UnknownNode"
kind_text kinds.Upward = codes "Upward"
kind_text kinds.NoTerminal = codes "NoTerminal"
kind_text kinds.UnfairHelper = codes "UnfairHelper"
kind_text kinds.NotCompassionate = codes "NotCompassionate"
kind_text kinds.NoHelper = codes "NoHelper"
kind_text kinds.Unset = codes "Unset"

-- why the text of a program, of a proof or of a schedule is refused, and at which byte from 0 on
abbrev pub refused_text : FileRole → FaultKind → ℕ → List ℕ
refused_text role kind place = line (role_text role ++ codes " refused: " ++ kind_text kind ++ codes " at " ++ decimal place)

-- what stands behind the last block
abbrev pub trailing_text : ℕ → List ℕ
trailing_text place = line (codes "trailing text at " ++ decimal place)
