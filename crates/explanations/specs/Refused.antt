-- Why nothing is told of two texts: one of them is refused.
use Rattle.std.specs.Prelude.{◌⊎◌, ℕ, List, Option, Some, None}
use Rattle.st_reading.specs.Faults as parsing
use Rattle.expression_typer.specs.declared.fault.TypeFault.{TypeFault}
use Rattle.expression_typer.specs.declared.fault.TypeFault.TheVariants as rules
use Rattle.proof_script.specs.Faults as scripts
use Rattle.obligations.specs.declared.faults.ObligationFault.{ObligationFault}
use Rattle.obligations.specs.declared.faults.ObligationFault.TheVariants as limits
use Rattle.posed_conditions.specs.declared.faults.PosingFault.{PosingFault}
use Rattle.posed_conditions.specs.declared.faults.PosingFault.TheVariants as faults
use Rattle.posed_conditions.specs.declared.translated.TranslatedProgram.{TranslatedProgram}
use Rattle.posed_conditions.specs.Refused.{RefusesProof, RefusesTexts}

-- a reader stops there
abbrev pub IsSeen : {X : Type 0} → Option X → Type 0
IsSeen (Some x) = Unit {0}
IsSeen None = ⊥

-- a rule of typing is broken
abbrev pub IsRule : TypeFault → Type 0
IsRule (rules.Unknown place) = Unit {0}
IsRule (rules.Twice place) = Unit {0}
IsRule (rules.WrongType place) = Unit {0}
IsRule (rules.NonLinear place) = Unit {0}
IsRule (rules.TooLarge place) = Unit {0}
IsRule (rules.InputAssigned place) = Unit {0}
IsRule (rules.SelectHead place) = Unit {0}
IsRule (rules.SameTarget place) = Unit {0}
IsRule (rules.Limit kind place) = Unit {0}
IsRule rules.Memory = ⊥

-- a limit on conditions is passed
abbrev pub IsLimit : ObligationFault → Type 0
IsLimit (limits.TooMany step) = Unit {0}
IsLimit (limits.TooWide step) = Unit {0}
IsLimit (limits.TooHeavy step) = Unit {0}
IsLimit limits.Memory = ⊥

-- the fault is one of the texts, and no want of memory
abbrev pub IsOfTexts : PosingFault → Type 0
IsOfTexts (faults.Program f) = IsSeen (parsing.see f)
IsOfTexts (faults.Typing f) = IsRule f
IsOfTexts faults.LongProof = Unit {0}
IsOfTexts (faults.Proof f) = IsSeen (scripts.see f)
IsOfTexts (faults.Conditions f) = IsLimit f
IsOfTexts faults.Memory = ⊥

-- one text is refused as a program, or the other as a proof over the program of the first
abbrev pub AreRefused : List ℕ → List ℕ → Type 0
AreRefused program proof = (fault : PosingFault) × IsOfTexts fault × RefusesTexts program proof fault

-- the text is refused as a proof over the program
abbrev pub IsNoScript : TranslatedProgram → List ℕ → Type 0
IsNoScript x proof = (fault : PosingFault) × IsOfTexts fault × RefusesProof x proof fault
