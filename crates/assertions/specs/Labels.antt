-- What names a statement, and a part of one.
use Rattle.std.specs.Prelude.{ℕ, List, codes, if◌then◌else◌, Option, Some, None}
use Rattle.std.specs.Option.{option_and_then}
use Rattle.std.specs.Str.{bytes_eq}
use Rattle.st_form.specs.declared.conditions.Part.{Part}
use Rattle.st_form.specs.declared.conditions.Part.TheVariants.{Entry, Exit}
use Rattle.st_program.specs.Names.{Names}
use Rattle.st_program.specs.Names as tables
use Rattle.expression_typer.specs.Naming.{is_text}

-- the statement with this label
abbrev pub labelled : Names → List ℕ → Option ℕ
labelled names label = if is_text label then option_and_then (λ l. l.1) (tables.named label names.labels) else None

-- the part of a cooperation with this name
unfoldable pub part_named : List ℕ → Option Part
part_named text = if bytes_eq text (codes "entry") then Some Entry else (if bytes_eq text (codes "exit") then Some Exit else None)
