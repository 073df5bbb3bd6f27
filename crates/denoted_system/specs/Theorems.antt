-- What is promised of the system that a program denotes.
use Rattle.std.specs.Prelude.{◌≡◌, ℕ, List}
use Rattle.st_form.specs.Formula.{Formula}
use Rattle.st_form.specs.declared.variables.Variable.{Variable}
use Rattle.st_program.specs.Tree.{Processes}
use Rattle.spl_translation.specs.Translation.{translation}
use Rattle.denoted_system.specs.System.{denoted}

-- The system that a program denotes is the one that it is translated to.
abbrev pub SystemIsTranslation : Type 0
SystemIsTranslation = (variables : List Variable) (initial : Formula) (p : Processes) (locations : ℕ) → denoted variables initial p locations ≡ translation variables initial p locations
