-- What the code does at a list, as plain data.
use Rattle.std.specs.Prelude.{◌≡◌, List, map, All, Option}
use Rattle.st_form.specs.Formula.{Formula, Formulas}
use Rattle.st_certificate.specs.Tree.{linear}
use Rattle.search_laws.specs.Walks as plain
use Rattle.tree_table.specs.Table.{step_of}
use Rattle.sharing_laws.specs.Contexts.{InContext}
use Rattle.shared_search.specs.declared.moves.Move.{Move}
use Rattle.shared_search.specs.declared.moves.Move.TheVariants.{Closes, Divides, Fails}
use Rattle.shared_search.specs.Contexts.{ContextTable}
use Rattle.shared_search.specs.Lists.{child_of, IsChild}

-- the code does what is defined, or gives up
abbrev pub IsMove : List Formula → ContextTable → Move → plain.Move InContext → Type 0
IsMove ts cs (Closes picks) m = m ≡ plain.closes (linear picks.items)
IsMove ts cs (Divides step children) m = All (IsChild ts cs) children.items × (m ≡ plain.divides (step_of step) (map (child_of ts cs) children.items))
IsMove ts cs Fails m = Unit {0}

-- the code closes as is defined, or gives up
abbrev pub IsLeaf : Move → plain.Move (Option Formulas) → Type 0
IsLeaf (Closes picks) m = m ≡ plain.closes (linear picks.items)
IsLeaf (Divides step children) m = ⊥
IsLeaf Fails m = Unit {0}
