-- What is so of a program that is typed from a tree.
use Rattle.std.proofs.Common.{◌≡◌, ◌≤◌, ℕ, List, sym, ap, ◌∙◌, length}
use Rattle.std.specs.Prelude.{Ok}
use Rattle.spl_parser.specs.ProgramTree as raw
use Rattle.spl_parser.specs.Parsing.{parsed}
use Rattle.spl_typer.specs.Programs.{Typed, typing}
use Rattle.spl_typer.proofs.Tabled.{as_many}
use Rattle.typing_laws.proofs.Whole.{typed_is_well}
use Rattle.posed_conditions.specs.declared.translated.TranslatedProgram.{TranslatedProgram}
use Rattle.posed_conditions.specs.Translated.{IsOfTree, IsOfText}

pub all_named : (tree : raw.Program) (p : Typed) → typing tree ≡ Ok p → length p.variables ≡ length p.names.variables
all_named tree p types = sym (as_many tree p types)

pub few_variables : (tree : raw.Program) (p : Typed) → typing tree ≡ Ok p → length p.variables ≤ 64
few_variables tree p types = (typed_is_well tree p types).few_variables

-- what is made of the tree that a text spells is made of the text
pub of_text : (text : List ℕ) (tree : raw.Program) (x : TranslatedProgram) → parsed text ≡ Ok tree → IsOfTree tree x → IsOfText text x
of_text text tree x reads h = record { made = h.made; spells = reads ∙ ap (λ (t : raw.Program). Ok t) (sym h.same) }
