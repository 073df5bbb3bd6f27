-- A program of a text with all that is made of it: names, what its components can be at, and its fair transition system.
use Rattle.std.specs.Prelude.{◌≡◌, ◌≤◌, ◌<◌, ℕ, List, length, All, Ok}
use Rattle.st_form.specs.Plain.{plain}
use Rattle.st_program.specs.Plain.{plain_children}
use Rattle.control_facts.specs.Alternatives.{control_of}
use Rattle.transition_system.specs.Plain.{plain_system}
use Rattle.spl_translation.specs.Translation.{translation}
use Rattle.spl_parser.specs.ProgramTree as raw
use Rattle.spl_parser.specs.Parsing.{parsed}
use Rattle.spl_typer.specs.Programs.{Typed, typed_view, typing}
use Rattle.posed_conditions.specs.declared.translated.TranslatedProgram.{TranslatedProgram}

-- the program with its names, as the rules of typing give it
abbrev pub typed_of : TranslatedProgram → Typed
typed_of x = typed_view (x.program, x.names)

-- the program is what some tree is typed to, and the rest is made of it
pub record IsTranslated (x : TranslatedProgram) : Type 0 where
  pub tree : raw.Program
  pub types : typing tree ≡ Ok (typed_of x)
  pub system : plain_system x.system ≡ translation x.program.variables (plain x.program.initial) (plain_children x.program.processes) x.program.locations
  pub control : x.components ≡ control_of (plain_children x.program.processes)
  pub owned : length x.components.owners ≡ x.program.locations
  pub owners : All (λ c. c < length x.components.components) x.components.owners
  pub named : length x.program.variables ≡ length x.names.variables
  pub few : length x.program.variables ≤ 64

-- it is made of this tree
pub record IsOfTree (tree : raw.Program) (x : TranslatedProgram) : Type 0 where
  pub made : IsTranslated x
  pub same : made.tree ≡ tree

-- it is made of the tree that the text spells
pub record IsOfText (text : List ℕ) (x : TranslatedProgram) : Type 0 where
  pub made : IsTranslated x
  pub spells : parsed text ≡ Ok made.tree
