-- What is promised of the rules on programs.
use Rattle.std.specs.Prelude.{◌≡◌, ◌↔◌, ℕ, List, [], Ok}
use Rattle.st_program.specs.Programs.{IsProgram}
use Rattle.spl_parser.specs.ProgramTree.{Program}
use Rattle.spl_parser.specs.Theorems.{Spells}
use Rattle.spl_typer.specs.Programs.{Typed, typing}
use Rattle.spl_typer.specs.ProgramRules.{program_faults}
use Rattle.program_meaning.specs.Meaning.{Means}
use Rattle.program_rules.specs.Lawful.{IsLawful}

-- Of a program that a text spells, typing gives what its tree stands for, where that is lawful; and nothing else is.
abbrev pub LawfulIsTyping : Type 0
LawfulIsTyping = (text : List ℕ) (tree : Program) (p : Typed) → Spells text tree → (typing tree ≡ Ok p) ↔ (Means tree p × IsLawful tree p)

-- What such a tree stands for is a program: well formed, each part of it of its type, and within the limits.
abbrev pub LawfulIsWell : Type 0
LawfulIsWell = (text : List ℕ) (tree : Program) (p : Typed) → Spells text tree → Means tree p → IsLawful tree p → IsProgram p.variables p.initial p.processes p.locations p.statements

-- No rule is broken in a tree exactly where the program that it stands for is lawful.
abbrev pub RulesAreKept : Type 0
RulesAreKept = (text : List ℕ) (tree : Program) (p : Typed) → Spells text tree → Means tree p → (program_faults tree ≡ []) ↔ IsLawful tree p
