-- What names a move in a schedule.
use Rattle.std.specs.Prelude.{◌≡◌, ◌++◌, ℕ, List, codes, Option, Some, None, ⊤}
use Rattle.st_form.specs.declared.conditions.Part.{Part}
use Rattle.st_form.specs.declared.conditions.Part.TheVariants.{Whole, Entry, Exit}
use Rattle.st_form.specs.declared.conditions.TransName.{TransName}
use Rattle.st_form.specs.declared.conditions.TransName.TheVariants.{Idle, Step}
use Rattle.st_program.specs.Names.{Names, statement_label}

-- what stands behind the name of a statement for a part of it
abbrev pub part_bytes : Part → List ℕ
part_bytes Whole = codes ""
part_bytes Entry = codes ".entry"
part_bytes Exit = codes ".exit"

-- a statement with a label is named by it; one without by its number, of which nothing is said
abbrev pub IsNamed : Option (List ℕ) → Part → List ℕ → Type 0
IsNamed (Some label) part text = text ≡ label ++ part_bytes part
IsNamed None part text = ⊤

-- the text names the move
abbrev pub IsMoveText : Names → TransName → List ℕ → Type 0
IsMoveText names Idle text = text ≡ codes "-"
IsMoveText names (Step occ part) text = IsNamed (statement_label occ names.labels) part text
