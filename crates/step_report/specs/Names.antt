-- What reports call the parts of a program. A text is the list of its bytes.
use Rattle.std.specs.Prelude.{ℕ, ◌+◌, List, [], ◌++◌, codes, slice_index_or, Option, Some, None}
use Rattle.std.specs.Fmt.{decimal}
use Rattle.st_form.specs.declared.conditions.TransName.{TransName}
use Rattle.st_form.specs.declared.conditions.TransName.TheVariants.{Idle, Step}
use Rattle.st_form.specs.declared.conditions.Part.{Part}
use Rattle.st_form.specs.declared.conditions.Part.TheVariants.{Whole, Entry, Exit}
use Rattle.st_program.specs.Names.{Names, names_in, label_of, statement_label}

-- a text and a line feed
abbrev pub line : List ℕ → List ℕ
line text = text ++ codes "\n"

-- a variable by its name; a number that is no variable's has none
abbrev pub variable_text : Names → ℕ → List ℕ
variable_text names v = slice_index_or (names_in names.variables) v []

-- a label, or else a number from 1 on behind a sign
abbrev pub label_text : Option (List ℕ) → List ℕ → ℕ → List ℕ
label_text (Some label) sign n = label
label_text None sign n = sign ++ decimal (n + 1)

-- a location by its first label, or by its number
abbrev pub location_text : Names → ℕ → List ℕ
location_text names l = label_text (label_of l names.labels) (codes "@") l

-- a statement by its label, or by its number
abbrev pub statement_text : Names → ℕ → List ℕ
statement_text names n = label_text (statement_label n names.labels) (codes "#") n

abbrev pub part_text : Part → List ℕ
part_text Whole = []
part_text Entry = codes ".entry"
part_text Exit = codes ".exit"

-- a transition by its statement
abbrev pub transition_text : Names → TransName → List ℕ
transition_text names Idle = codes "idle"
transition_text names (Step n part) = statement_text names n ++ part_text part
