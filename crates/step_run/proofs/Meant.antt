-- The program that a text spells, and what its tree stands for: typing gives the one exactly where the other is lawful.
use Rattle.std.proofs.Common.{◌≡◌, ℕ, List, Ok}
use Rattle.spl_parser.specs.ProgramTree as raw
use Rattle.spl_parser.specs.Parsing.{parsed}
use Rattle.spl_parser.specs.Theorems.{ReadIsSpelled, SpelledIsRead}
use Rattle.spl_typer.specs.Programs.{Typed, typing}
use Rattle.program_rules.specs.Theorems.{LawfulIsTyping}
use Rattle.step_run.specs.Source.{source_spelled}
use Rattle.step_run.specs.WellFormed.{IsProgram}
use Rattle.typing_laws.proofs.Whole.{typed_is_well}
use Rattle.step_run.proofs.Typed.{IsWell, from_text, spelled_ok}

-- what is read and typed is a program
pub typed_means : ReadIsSpelled → LawfulIsTyping → (pt : List ℕ) (tree : raw.Program) (p : Typed) → parsed pt ≡ Ok tree → typing tree ≡ Ok p → IsProgram pt p
typed_means spelled meant pt tree p reads types =
    let spells = spelled pt tree reads in
    let both = (meant pt tree p spells).0 types in
    record { tree = tree; spelled = spells; means = both.0; lawful = both.1 }

pub source_means : ReadIsSpelled → LawfulIsTyping → (pt : List ℕ) (p : Typed) → source_spelled pt ≡ Ok p → IsProgram pt p
source_means spelled meant pt p source =
    let f = from_text pt p source in
    typed_means spelled meant pt f.program p f.reads f.types

-- and a program is typed and read
pub program_types : LawfulIsTyping → (pt : List ℕ) (p : Typed) → (h : IsProgram pt p) → typing h.tree ≡ Ok p
program_types meant pt p h = (meant pt h.tree p h.spelled).1 (h.means, h.lawful)

pub program_well : LawfulIsTyping → (pt : List ℕ) (p : Typed) → IsProgram pt p → IsWell p
program_well meant pt p h = typed_is_well h.tree p (program_types meant pt p h)

pub program_spelled : SpelledIsRead → LawfulIsTyping → (pt : List ℕ) (p : Typed) → IsProgram pt p → source_spelled pt ≡ Ok p
program_spelled read meant pt p h = spelled_ok pt h.tree p (read pt h.tree h.spelled) (program_types meant pt p h)
