-- What is promised of which program a text is.
use Rattle.std.specs.Prelude.{◌≡◌, ◌↔◌, ℕ, List, [], Ok}
use Rattle.spl_parser.specs.ProgramTree.{Program}
use Rattle.spl_parser.specs.Numbers.{IsWithin}
use Rattle.spl_parser.specs.Theorems.{Spells}
use Rattle.spl_typer.specs.Programs.{Typed, typing}
use Rattle.spl_typer.specs.ProgramRules.{program_faults}
use Rattle.program_meaning.specs.Meaning.{Means}
use Rattle.program_meaning.specs.Denoting.{Denotes}
use Rattle.program_meaning.specs.Sizes.{IsSmall}

-- A tree stands for one program at most, whatever is wrong with it.
abbrev pub MeantOnce : Type 0
MeantOnce = (tree : Program) (p q : Typed) → Means tree p → Means tree q → p ≡ q

-- What typing gives of a program that a text spells is what the tree stands for, where no rule is broken in it; and nothing else is.
abbrev pub MeansIsTyping : Type 0
MeansIsTyping = (text : List ℕ) (tree : Program) (p : Typed) → Spells text tree → (typing tree ≡ Ok p) ↔ ((program_faults tree ≡ []) × Means tree p)

-- What a tree denotes is what it means: numbering places along with the statements is the same as telling them of the whole program.
abbrev pub DenotesIsMeans : Type 0
DenotesIsMeans = (tree : Program) (p : Typed) → Denotes tree p ↔ Means tree p

-- A program is small where the parser finds it within its limits.
abbrev pub SmallIsWithin : Type 0
SmallIsWithin = (tree : Program) → IsSmall tree ↔ IsWithin tree
