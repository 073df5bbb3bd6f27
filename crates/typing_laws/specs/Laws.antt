-- What is promised of the typing of a text's program: it is refused at the first place where a rule is broken, for the lowest
-- rule that is broken there.
use Rattle.std.specs.Prelude.{◌≡◌, ℕ, List, [], ◌∷◌, Result, Ok, Err}
use Rattle.st_program.specs.Programs.{IsProgram}
use Rattle.st_tokens.specs.declared.limit.LimitKind.{LimitKind}
use Rattle.st_tokens.specs.declared.limit.LimitKind.TheVariants as limits
use Rattle.spl_parser.specs.ProgramTree.{Program}
use Rattle.spl_parser.specs.Parsing.{parsed}
use Rattle.expression_typer.specs.declared.fault.TypeFault.{TypeFault}
use Rattle.expression_typer.specs.declared.fault.TypeFault.TheVariants as faults
use Rattle.spl_typer.specs.Programs.{Typed, typing}
use Rattle.spl_typer.specs.ProgramRules.{program_faults}
use Rattle.expression_typer.specs.Placed.{IsLeast}

-- the limits of groups
abbrev pub IsGroupLimit : LimitKind → Type 0
IsGroupLimit limits.Paths = Unit {0}
IsGroupLimit limits.Atoms = Unit {0}
IsGroupLimit limits.Weight = Unit {0}
IsGroupLimit _ = ⊥

-- a rule of typing, or a limit of groups
abbrev pub IsRule : TypeFault → Type 0
IsRule (faults.Limit kind place) = IsGroupLimit kind
IsRule faults.Memory = ⊥
IsRule _ = Unit {0}

abbrev pub AreRules : List TypeFault → Type 0
AreRules [] = Unit {0}
AreRules (f ∷ fs) = IsRule f × AreRules fs

-- Ok exactly where no rule is broken; else the lowest rule broken at the first place
abbrev pub TellsLeast : {A : Type 0} → Result A TypeFault → List TypeFault → Type 0
TellsLeast (Ok x) fs = fs ≡ []
TellsLeast (Err f) fs = IsLeast f fs

abbrev pub ReadIsTyped : Type 0
ReadIsTyped = (text : List ℕ) (p : Program) → parsed text ≡ Ok p → AreRules (program_faults p) × TellsLeast (typing p) (program_faults p)

-- what typing gives is a program: well formed, each part of it of its type, and within the limits
abbrev pub TypedIsWell : Type 0
TypedIsWell = (text : Program) (p : Typed) → typing text ≡ Ok p → IsProgram p.variables p.initial p.processes p.locations p.statements
