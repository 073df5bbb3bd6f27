-- The rules that a program of a text keeps, said of the program that its tree stands for.
use Rattle.std.specs.Prelude.{ℕ, List, ◌++◌, map}
use Rattle.st_program.specs.Tree.{action}
use Rattle.st_program.specs.Member.{Member}
use Rattle.st_program.specs.Spots.{Spot, all_spots}
use Rattle.st_program.specs.Names.{AreApart, names_in}
use Rattle.st_program.specs.Locations.{HeadsFit}
use Rattle.spl_parser.specs.ProgramTree as raw
use Rattle.spl_typer.specs.Programs.{Typed}
use Rattle.program_rules.specs.Changes.{ActionIsAllowed}
use Rattle.program_rules.specs.Groups.{GroupsAreWithin}

-- the names that a program declares: those of its variables, of its processes, and its labels
abbrev pub all_names : raw.Program → Typed → List (List ℕ)
all_names tree p = names_in p.names.variables ++ (map (λ q. q.name.text) tree.processes ++ names_in p.names.labels)

-- No rule is broken: no name is declared twice; no statement changes an input, a variable by what isn't of its type, or one
-- twice at once; no branch of a selection begins with a loop; and groups are within their limits.
pub record IsLawful (tree : raw.Program) (p : Typed) : Type 0 where
  pub apart : AreApart (all_names tree p)
  pub allowed : (x : Spot) → Member x (all_spots p.processes) → ActionIsAllowed p.variables (action x.stmt)
  pub heads : (x : Spot) → Member x (all_spots p.processes) → HeadsFit (action x.stmt)
  pub groups : GroupsAreWithin p.processes
